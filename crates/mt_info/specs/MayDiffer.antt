-- Which rows may differ between two worlds, from the mounts that a change touched.
-- A word with no source is this project's rule.
use Rattle.std.specs.Prelude.{ℕ, Bool, true, false, not, ◌&&◌, ◌||◌, ◌==◌, List, drop, Option, Some, None}
use Rattle.std.specs.List.{list_any}
use Rattle.mt_skel.specs.Keyed.{among}
use Rattle.mt_mounts.specs.declared.mount.Mount.{Mount}
use Rattle.mt_mounts.specs.declared.mount.Place.{Place}
use Rattle.mt_mounts.specs.Forest.{mount_at, place_eq, parents_up, subtree}
use Rattle.mt_propagate.specs.World.{WorldView}

-- the same place, or none before and after
abbrev pub place_stays : Option Place → Option Place → Bool
place_stays None None = true
place_stays (Some p) (Some q) = place_eq p q
place_stays _ _ = false

-- a mount that is there before and after stands at another place, or shows another directory
abbrev pub is_elsewhere : Option Mount → Option Mount → Bool
is_elsewhere (Some m) (Some n) = not (place_stays m.place n.place && (m.root == n.root))
is_elsewhere _ _ = false

-- a mount moved: all that is below it may have another mount point (proc_pid_mountinfo(5), field 5)
abbrev pub has_moved : WorldView → WorldView → ℕ → Bool
has_moved w v i = is_elsewhere (mount_at w.forest i) (mount_at v.forest i)

-- a mount stands, at whatever height, on one that moved
abbrev pub moves_along : WorldView → WorldView → ℕ → Bool
moves_along w v i = list_any (has_moved w v) (drop 1 (parents_up v.forest i))

-- a mount moved by itself, and not because of another one that moved
abbrev pub moves_first : WorldView → WorldView → ℕ → Bool
moves_first w v i = has_moved w v i && not (moves_along w v i)

-- the row of a mount may differ where the mount was touched, or is in the tree of one that was touched and moved
abbrev pub may_differ : WorldView → WorldView → List ℕ → ℕ → Bool
may_differ w v ids j = among ids j || list_any (λ i. has_moved w v i && among (subtree v.forest i) j) ids
