-- What is known of an unmount and of a detach that were accepted: the effect, and that no refusal holds.
use Rattle.std.proofs.Common.{◌≡◌, ℕ, true, false, List, ◌∷◌, None, Ok}
use Rattle.std.specs.Prelude.{not}
use Rattle.std.specs.List.{list_any}
use Rattle.std.proofs.lemmas.Bool.{not-false}
use Rattle.mt_skel.specs.declared.fault.Fault.TheVariants.{NotMountRoot, RootPlace, Busy, Detached}
use Rattle.mt_skel.specs.Outcome.{refuse_if, refusal_of}
use Rattle.mt_skel.proofs.OutcomeLaws.{not_refused, accepted}
use Rattle.mt_mounts.specs.declared.mount.Place.{Place}
use Rattle.mt_mounts.specs.Forest.{stands_on}
use Rattle.mt_mounts.specs.Walk.{walk}
use Rattle.mt_propagate.specs.World.{WorldView, is_tree}
use Rattle.mt_propagate.specs.Named.{place_or_nowhere, is_mount_root, is_root_mount}
use Rattle.mt_unmount.specs.Unmounting.{without_mount, unmounted_refusals, unmounted_effect, unmounted}
use Rattle.mt_unmount.specs.Detaching.{without_tree, named_place, detached_refusals, detached_effect, detached}

-- the place where a path ends
abbrev pub path_end : WorldView → ℕ → List (List ℕ) → Place
path_end w n path = place_or_nowhere (walk w.skel w.forest n path)

-- an unmount
pub record IsAcceptedUnmount (w : WorldView) (n : ℕ) (path : List (List ℕ)) (v : WorldView) : Type 0 where
  pub attached : is_tree w n ≡ false
  pub ended : refusal_of (walk w.skel w.forest n path) ≡ None
  pub named : is_mount_root w (path_end w n path) ≡ true
  pub placed : is_root_mount w (path_end w n path) ≡ false
  pub bare : list_any (stands_on (path_end w n path).mount) w.forest ≡ false
  pub world : without_mount w (path_end w n path).mount ≡ v

pub unmount_accepted : (w : WorldView) (n : ℕ) (path : List (List ℕ)) (v : WorldView) → unmounted w n path ≡ Ok v → IsAcceptedUnmount w n path v
unmount_accepted w n path v e =
    let at = walk w.skel w.forest n path in
    let p = path_end w n path in
    let a = accepted (refuse_if (is_tree w n) Detached ∷ unmounted_refusals w at) (unmounted_effect w at) v e in
    record {
      attached = not_refused (is_tree w n) Detached a.1.0;
      ended = a.1.1.0;
      named = not-false (is_mount_root w p) (not_refused (not (is_mount_root w p)) NotMountRoot a.1.1.1.0);
      placed = not_refused (is_root_mount w p) RootPlace a.1.1.1.1.0;
      bare = not_refused (list_any (stands_on p.mount) w.forest) Busy a.1.1.1.1.1.0;
      world = a.0;
    }

-- a detach
pub record IsAcceptedDetach (w : WorldView) (n : ℕ) (path : List (List ℕ)) (v : WorldView) : Type 0 where
  pub attached : is_tree w n ≡ false
  pub ended : refusal_of (walk w.skel w.forest n path) ≡ None
  pub named : is_mount_root w (named_place w n path) ≡ true
  pub placed : is_root_mount w (named_place w n path) ≡ false
  pub world : without_tree w (named_place w n path).mount ≡ v

pub detach_accepted : (w : WorldView) (n : ℕ) (path : List (List ℕ)) (v : WorldView) → detached w n path ≡ Ok v → IsAcceptedDetach w n path v
detach_accepted w n path v e =
    let at = walk w.skel w.forest n path in
    let p = named_place w n path in
    let a = accepted (refuse_if (is_tree w n) Detached ∷ detached_refusals w at) (detached_effect w at) v e in
    record {
      attached = not_refused (is_tree w n) Detached a.1.0;
      ended = a.1.1.0;
      named = not-false (is_mount_root w p) (not_refused (not (is_mount_root w p)) NotMountRoot a.1.1.1.0);
      placed = not_refused (is_root_mount w p) RootPlace a.1.1.1.1.0;
      world = a.0;
    }
