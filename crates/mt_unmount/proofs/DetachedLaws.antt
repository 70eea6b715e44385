-- What a detach leads to where its path names a mount that is no root mount, what it takes away, and that a well-formed
-- world stays so.
use Rattle.std.proofs.Common.{◌≡◌, ℕ, Bool, true, false, not, List, [], ◌∷◌, length, Result, Ok, refl, sym, ap, ◌∙◌}
use Rattle.std.proofs.NetLemmas.Options.{map_some}
use Rattle.mt_skel.specs.declared.fault.Fault.{Fault}
use Rattle.mt_skel.specs.declared.fault.Fault.TheVariants.{NotMountRoot, RootPlace, Detached}
use Rattle.mt_skel.specs.Keyed.{among}
use Rattle.mt_skel.specs.Outcome.{refuse_if, outcome}
use Rattle.mt_skel.proofs.ChainLaws.{follow-holds}
use Rattle.mt_skel.proofs.OutcomeLaws.{passed}
use Rattle.mt_mounts.specs.declared.mount.Place.{Place}
use Rattle.mt_mounts.specs.Forest.{on, root_place, top}
use Rattle.mt_mounts.specs.Walk.{walk}
use Rattle.mt_mounts.proofs.CycleLaws.{stack_ends}
use Rattle.mt_mounts.proofs.Walks.{stacked}
use Rattle.mt_propagate.specs.World.{WorldView, space_of, is_tree}
use Rattle.mt_propagate.specs.Named.{is_mount_root, is_root_mount}
use Rattle.mt_propagate.specs.WellFormed.{IsWellFormed}
use Rattle.mt_propagate.proofs.ContainedLaws.{ended-inside}
use Rattle.mt_unmount.specs.Sliding.{once_gone}
use Rattle.mt_unmount.specs.Taking.{AreGone}
use Rattle.mt_unmount.specs.Detaching.{is_taken, without_tree, named_place, detached_refusals, detached_effect, detached}
use Rattle.mt_unmount.proofs.AcceptedLaws.{path_end, detach_accepted}
use Rattle.mt_unmount.proofs.GoingLaws.{taken-inside, taken-can-go}
use Rattle.mt_unmount.proofs.FoundLaws.{listed-is}
use Rattle.mt_unmount.proofs.LeftLaws.{Takes, takes-kept}
use Rattle.mt_unmount.proofs.StandingLaws.{found-on, under-space}

module _ (w : WorldView) (n : ℕ) (path : List (List ℕ)) (end p : Place) (named : p ≡ top w.forest end) where
  -- what a detach answers with its path walked
  abbrev answer : Result Place Fault → Result WorldView Fault
  answer r = outcome (detached_refusals w r) (detached_effect w r)

  abbrev rest : Place → Result WorldView Fault
  rest q = outcome (refuse_if (not (is_mount_root w q)) NotMountRoot ∷ refuse_if (is_root_mount w q) RootPlace ∷ []) (without_tree w q.mount)

  pub detached-done : is_tree w n ≡ false → walk w.skel w.forest n path ≡ Ok end → is_mount_root w p ≡ true → is_root_mount w p ≡ false → (ids : List ℕ) → AreGone (is_taken w p.mount) ids → detached w n path ≡ Ok (once_gone w (among ids))
  unfolding without_tree
  detached-done attached ended root off ids gone =
      passed (is_tree w n) Detached _ _ attached ∙ ap answer ended ∙ ap rest (sym named) ∙ passed (not (is_mount_root w p)) NotMountRoot _ _ (ap not root) ∙ passed (is_root_mount w p) RootPlace [] _ off
      ∙ ap (λ (goes : ℕ → Bool). Ok (once_gone w goes)) (sym (listed-is (is_taken w p.mount) ids gone))

-- the topmost mount at a place is of the namespace of the mount that the place is on
top-space : (w : WorldView) → IsWellFormed w → (p : Place) → space_of w (top w.forest p).mount ≡ space_of w p.mount
top-space w h p =
    (follow-holds (stacked w.forest) (λ q. space_of w q.mount ≡ space_of w p.mount) (λ q r here up.
    map_some root_place (on w.forest q) r up (λ y at root.
    let f = found-on w h q y at in
    ap (λ (q : Place). space_of w q.mount) (sym root) ∙ sym (under-space w h y.id y q f.0 f.1) ∙ here)) (length w.forest) p refl (stack_ends w.forest h.forest.rising h.forest.no_cycle p)).0

-- and so does an accepted detach
pub detached-takes : (w : WorldView) → IsWellFormed w → (n : ℕ) (path : List (List ℕ)) (v : WorldView) → detached w n path ≡ Ok v → Takes w n v
unfolding without_tree
detached-takes w h n path v e =
    let a = detach_accepted w n path v e in
    let i = (named_place w n path).mount in
    record {
      goes = is_taken w i;
      can = taken-can-go w h i a.placed;
      world = a.world;
      within = λ family c here. taken-inside w h i family c (ap family (top-space w h (path_end w n path) ∙ ended-inside w h n path a.ended) ∙ here);
    }

-- an accepted detach keeps a world well-formed
pub detached-kept : (w : WorldView) → IsWellFormed w → (n : ℕ) (path : List (List ℕ)) (v : WorldView) → detached w n path ≡ Ok v → IsWellFormed v
detached-kept w h n path v e = takes-kept w h n v (detached-takes w h n path v e)
