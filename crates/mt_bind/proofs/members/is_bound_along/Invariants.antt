use Rattle.std.proofs.Common.{◌≡◌, ◌-◌, ◌≤◌, true, length}
use Rattle.mt_skel.specs.Chain.{ends}
use Rattle.mt_mounts.specs.Forest.{parent}
use Rattle.mt_propagate.specs.World.{world_view}
use Rattle.mt_bind.specs.Sources.{is_bound_along}
use Rattle.mt_bind.proofs.MemberLaws.{taken}
use Rattle.mt_bind.proofs.members.is_bound_along.Given as goal

-- the steps that are left answer for the start
abbrev pub invariant-parents : goal.invariant-parents
invariant-parents l = record {
  within : l._step ≤ length l.world.forest.mounts;
  ends : ends (parent l.world.forest.mounts) (length l.world.forest.mounts - l._step) l.here ≡ true;
  answers : taken (world_view l.world) l.from (length l.world.forest.mounts - l._step) l.passed l.here ≡ is_bound_along (world_view l.world) l.from l.fn.id;
}
