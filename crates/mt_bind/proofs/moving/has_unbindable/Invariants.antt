use Rattle.std.proofs.Common.{◌≡◌, drop}
use Rattle.std.specs.List.{list_any}
use Rattle.mt_propagate.specs.World.{world_view, state_of}
use Rattle.mt_bind.proofs.moving.has_unbindable.Given as goal

-- the mounts passed are bindable
abbrev pub invariant-loop-id : goal.invariant-loop-id
invariant-loop-id l = list_any (λ k. (state_of (world_view l.world) k).unbindable) (drop l.id-index l.ids) ≡ list_any (λ k. (state_of (world_view l.world) k).unbindable) l.ids
