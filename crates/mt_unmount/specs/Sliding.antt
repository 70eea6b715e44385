-- Mounts go, and what stands on the root of one that goes slides to its place: what umount and detach share.
-- A word with no source is this project's rule.
use Rattle.std.specs.Prelude.{◌≡◌, ℕ, Bool, true, false, cond, not, ◌&&◌, ◌==◌, List, map, length, Option, Some, None}
use Rattle.std.specs.List.{filter, list_any}
use Rattle.std.specs.Option.{option_map, option_map_or}
use Rattle.mt_skel.specs.Keyed.{without}
use Rattle.mt_skel.specs.Chain.{follow}
use Rattle.mt_mounts.specs.declared.mount.Mount.{Mount}
use Rattle.mt_mounts.specs.declared.mount.Place.{Place}
use Rattle.mt_mounts.specs.Forest.{id_of, mount_at, parents_up}
use Rattle.mt_peers.specs.Loss.{left}
use Rattle.mt_propagate.specs.World.{WorldView, root_dir}
use Rattle.mt_propagate.specs.Named.{mount_or_unknown}

-- the place of a mount (proc_pid_mountinfo(5), fields 2 and 5)
abbrev pub place_of : WorldView → ℕ → Option Place
place_of w i = (mount_or_unknown w i).place

-- a mount stands on mount i at a directory other than its root
abbrev pub stands_inside : WorldView → ℕ → ℕ → Bool
stands_inside w i j = option_map_or (λ (p : Place). (p.mount == i) && not (p.dir == root_dir w i)) (place_of w j) false

-- inside mount i is each mount that stands on it at a directory other than its root, and everything below that one
abbrev pub is_inside : WorldView → ℕ → ℕ → Bool
is_inside w i j = list_any (stands_inside w i) (parents_up w.forest j)

-- the mounts inside a mount, by rising ID
abbrev pub inside : WorldView → ℕ → List ℕ
inside w i = filter (is_inside w i) (map id_of w.forest)

-- mounts can go if none of them is a root mount, and with each of them goes everything inside it (`propagate_umount`: such a set of
-- mounts is not shifting)
pub record CanGo (w : WorldView) (goes : ℕ → Bool) : Type 0 where
  pub placed : (i : ℕ) (m : Mount) → goes i ≡ true → mount_at w.forest i ≡ Some m → (p : Place) × (m.place ≡ Some p)
  pub inside : (i j : ℕ) → goes i ≡ true → is_inside w i j ≡ true → goes j ≡ true

-- a place on a mount that goes leads to the place of that mount
abbrev pub slide : WorldView → (ℕ → Bool) → Place → Option Place
slide w goes p = cond (goes p.mount) (place_of w p.mount) None

-- a mount that stays slides to the place of a parent that goes, and on while the parent there goes too (`sharedsubtree`, unmount
-- semantics, which has it for one parent)
abbrev pub slid : WorldView → (ℕ → Bool) → Place → Place
slid w goes p = follow (slide w goes) (length w.forest) p

-- the world once mounts are gone (`sharedsubtree`, unmount semantics; the masters after it: this project's rule)
abbrev pub once_gone : WorldView → (ℕ → Bool) → WorldView
once_gone w goes = record w {
  forest = map (λ (m : Mount). record m { place = option_map (slid w goes) m.place }) (without (λ (m : Mount). goes m.id) w.forest);
  peering = left goes w.peering;
}
