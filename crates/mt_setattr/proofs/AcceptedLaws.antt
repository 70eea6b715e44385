-- What is known of a change that was accepted: the effect, and that no refusal holds.
use Rattle.std.proofs.Common.{◌≡◌, ℕ, true, false, List, None, Ok}
use Rattle.std.specs.Prelude.{not}
use Rattle.std.proofs.lemmas.Bool.{not-false}
use Rattle.mt_skel.specs.declared.fault.Fault.TheVariants.{NotMountRoot, BadAttr, Detached}
use Rattle.mt_skel.specs.Outcome.{refusal_of}
use Rattle.mt_skel.proofs.OutcomeLaws.{not_refused, accepted}
use Rattle.mt_mounts.specs.declared.mount.Place.{Place}
use Rattle.mt_mounts.specs.Walk.{walk}
use Rattle.mt_propagate.specs.World.{WorldView}
use Rattle.mt_propagate.specs.Named.{place_or_nowhere, is_mount_root}
use Rattle.mt_setattr.specs.declared.change.Change.{Change}
use Rattle.mt_setattr.specs.Change.{clashes, with_change, changes_inside, attributed_refusals, attributed_effect, attributed}

-- the place where a path ends
abbrev pub path_end : WorldView → ℕ → List (List ℕ) → Place
path_end w n path = place_or_nowhere (walk w.skel w.forest n path)

-- a change of mounts
pub record IsAcceptedChange (w : WorldView) (n : ℕ) (path : List (List ℕ)) (c : Change) (v : WorldView) : Type 0 where
  pub ended : refusal_of (walk w.skel w.forest n path) ≡ None
  pub named : is_mount_root w (path_end w n path) ≡ true
  pub agrees : clashes c ≡ false
  pub outside : changes_inside w n (path_end w n path) c ≡ false
  pub world : with_change w c (path_end w n path).mount ≡ v

pub change_accepted : (w : WorldView) (n : ℕ) (path : List (List ℕ)) (c : Change) (v : WorldView) → attributed w n path c ≡ Ok v → IsAcceptedChange w n path c v
change_accepted w n path c v e =
    let at = walk w.skel w.forest n path in
    let p = path_end w n path in
    let a = accepted (attributed_refusals w n c at) (attributed_effect w c at) v e in
    record {
      ended = a.1.0;
      named = not-false (is_mount_root w p) (not_refused (not (is_mount_root w p)) NotMountRoot a.1.1.0);
      agrees = not_refused (clashes c) BadAttr a.1.1.1.0;
      outside = not_refused (changes_inside w n p c) Detached a.1.1.1.1.0;
      world = a.0;
    }
