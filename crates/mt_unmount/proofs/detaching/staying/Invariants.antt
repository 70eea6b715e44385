use Rattle.std.proofs.Common.{◌≡◌, ◌++◌, ℕ, drop, not}
use Rattle.std.specs.List.{filter}
use Rattle.mt_skel.specs.Keyed.{among}
use Rattle.mt_mounts.specs.Forest.{parents_up}
use Rattle.mt_unmount.specs.Detaching.{goes_up}
use Rattle.mt_unmount.proofs.detaching.staying.Given as goal

-- those passed are there, if they stay
abbrev pub invariant-loop-id : goal.invariant-loop-id
invariant-loop-id l =
    l.ids.items ++ filter (λ i. not (goes_up (among l.loose) (λ j. not (among l.bound j)) (parents_up l.world.forest.mounts i))) (drop l.id-index l.id-items)
    ≡ filter (λ i. not (goes_up (among l.loose) (λ j. not (among l.bound j)) (parents_up l.world.forest.mounts i))) l.id-items
