-- What an unmount leads to where its path names a mount that may go, what it takes away, and that a well-formed world
-- stays so.
use Rattle.std.proofs.Common.{◌≡◌, ℕ, Bool, true, false, cond, not, ◌||◌, List, [], ◌∷◌, map, length, Result, Ok, refl, sym, ap, ◌∙◌, arith}
use Rattle.std.specs.Prelude.{nat_lt}
use Rattle.std.specs.List.{filter, list_any}
use Rattle.std.proofs.lemmas.Bool.Decides.{nat_tests}
use Rattle.mt_skel.specs.declared.fault.Fault.{Fault}
use Rattle.mt_skel.specs.declared.fault.Fault.TheVariants.{NotMountRoot, RootPlace, Busy, Detached}
use Rattle.mt_skel.specs.Keyed.{among}
use Rattle.mt_skel.specs.Outcome.{outcome}
use Rattle.mt_skel.proofs.OutcomeLaws.{passed}
use Rattle.mt_mounts.specs.Forest.{id_of, stands_on}
use Rattle.mt_mounts.specs.declared.mount.Mount.{Mount}
use Rattle.mt_mounts.specs.declared.mount.Place.{Place}
use Rattle.mt_mounts.specs.Walk.{walk}
use Rattle.mt_propagate.specs.World.{WorldView, is_tree}
use Rattle.mt_propagate.specs.Named.{is_mount_root, is_root_mount}
use Rattle.mt_propagate.specs.WellFormed.{IsWellFormed}
use Rattle.mt_propagate.proofs.ContainedLaws.{ended-inside}
use Rattle.mt_unmount.specs.Sliding.{once_gone}
use Rattle.mt_unmount.specs.Taking.{AreGone}
use Rattle.mt_unmount.specs.Unmounting.{is_removed, without_mount, unmounted_refusals, unmounted_effect, unmounted}
use Rattle.mt_unmount.proofs.AcceptedLaws.{path_end, unmount_accepted}
use Rattle.mt_unmount.proofs.FoundLaws.{listed-is}
use Rattle.mt_unmount.proofs.RemovedLaws.{removed-inside, removed-can-go}
use Rattle.mt_unmount.proofs.LeftLaws.{Takes, takes-kept}

-- a mount stands on one where that has children
pub some-child : (t : Mount → Bool) (ms : List Mount) → list_any t ms ≡ nat_lt 0 (length (map id_of (filter t ms)))
some-child t [] = refl
some-child t (m ∷ ms) = elim (t m) as (λ b. (b || list_any t ms) ≡ nat_lt 0 (length (map id_of (cond b (m ∷ filter t ms) (filter t ms))))) [ true ↦ grind (arith, nat_tests) | false ↦ some-child t ms ]

module _ (w : WorldView) (n : ℕ) (path : List (List ℕ)) (p : Place) where
  -- what an unmount answers with its path walked
  abbrev answer : Result Place Fault → Result WorldView Fault
  answer r = outcome (unmounted_refusals w r) (unmounted_effect w r)

  pub unmounted-done : is_tree w n ≡ false → walk w.skel w.forest n path ≡ Ok p → is_mount_root w p ≡ true → is_root_mount w p ≡ false → list_any (stands_on p.mount) w.forest ≡ false
      → (ids : List ℕ) → AreGone (is_removed w p.mount) ids → unmounted w n path ≡ Ok (once_gone w (among ids))
  unfolding without_mount
  unmounted-done attached ended named off bare ids gone =
      passed (is_tree w n) Detached _ _ attached ∙ ap answer ended ∙ passed (not (is_mount_root w p)) NotMountRoot _ _ (ap not named) ∙ passed (is_root_mount w p) RootPlace _ _ off
      ∙ passed (list_any (stands_on p.mount) w.forest) Busy [] _ bare
      ∙ ap (λ (goes : ℕ → Bool). Ok (once_gone w goes)) (sym (listed-is (is_removed w p.mount) ids gone))

-- an accepted unmount takes mounts away that can go, in the namespace if that is contained
pub unmounted-takes : (w : WorldView) → IsWellFormed w → (n : ℕ) (path : List (List ℕ)) (v : WorldView) → unmounted w n path ≡ Ok v → Takes w n v
unfolding without_mount
unmounted-takes w h n path v e =
    let a = unmount_accepted w n path v e in
    let i = (path_end w n path).mount in
    record {
      goes = is_removed w i;
      can = removed-can-go w h i a.placed a.bare;
      world = a.world;
      within = λ family c here. removed-inside w h i family c (ap family (ended-inside w h n path a.ended) ∙ here);
    }

-- an accepted unmount keeps a world well-formed
pub unmounted-kept : (w : WorldView) → IsWellFormed w → (n : ℕ) (path : List (List ℕ)) (v : WorldView) → unmounted w n path ≡ Ok v → IsWellFormed v
unmounted-kept w h n path v e = takes-kept w h n v (unmounted-takes w h n path v e)
