-- An unmount adds nothing to a world, and no more does a detach.
use Rattle.std.proofs.Common.{◌≡◌, ℕ, ◌≤◌, Bool, not, List, length, Ok, subst, arith}
use Rattle.std.specs.List.{filter}
use Rattle.std.specs.Option.{option_map}
use Rattle.std.proofs.lemmas.List.{length-map}
use Rattle.mt_mounts.specs.declared.mount.Mount.{Mount}
use Rattle.mt_peers.specs.Loss.{left}
use Rattle.mt_propagate.specs.World.{WorldView}
use Rattle.mt_propagate.specs.Limits.{most_mounts}
use Rattle.mt_propagate.proofs.SizeLaws.{IsSized, few_pass}
use Rattle.mt_unmount.specs.Sliding.{slid, once_gone}
use Rattle.mt_unmount.specs.Unmounting.{unmounted, without_mount, is_removed}
use Rattle.mt_unmount.specs.Detaching.{is_taken, without_tree, named_place, detached}
use Rattle.mt_unmount.proofs.AcceptedLaws.{path_end, unmount_accepted, detach_accepted}

-- mounts that go add nothing
once_sized : (w : WorldView) (goes : ℕ → Bool) → length w.forest ≤ most_mounts → IsSized w (once_gone w goes) 0
unfolding left
once_sized w goes few =
    let stays : Mount → Bool = λ m. not (goes m.id) in
    let slide : Mount → Mount = λ m. record m { place = option_map (slid w goes) m.place } in
    record {
      spaces = omega arith;
      mounts = omega arith;
      groups = omega arith;
      within = omega (arith, few, few_pass stays w.forest, length-map (filter stays w.forest) slide);
    }

-- so neither an unmount nor a detach adds anything
pub gone_sized : (w v : WorldView) (n : ℕ) (path : List (List ℕ)) → length w.forest ≤ most_mounts → unmounted w n path ≡ Ok v → IsSized w v 0
unfolding without_mount
gone_sized w v n path few e = subst (λ (x : WorldView). IsSized w x 0) (unmount_accepted w n path v e).world (once_sized w (is_removed w (path_end w n path).mount) few)

pub detached_sized : (w v : WorldView) (n : ℕ) (path : List (List ℕ)) → length w.forest ≤ most_mounts → detached w n path ≡ Ok v → IsSized w v 0
unfolding without_tree
detached_sized w v n path few e = subst (λ (x : WorldView). IsSized w x 0) (detach_accepted w n path v e).world (once_sized w (is_taken w (named_place w n path).mount) few)
