use Rattle.std.proofs.Common.{◌≡◌, ◌-◌, ◌≤◌, true, length}
use Rattle.mt_skel.specs.Chain.{ends}
use Rattle.mt_mounts.specs.Forest.{parent}
use Rattle.mt_propagate.specs.World.{world_view}
use Rattle.mt_info.proofs.PointLaws.{LeadsDown}
use Rattle.mt_info.proofs.points.Points.way_up.Given as goal

-- the way leads down from the mount that is met, above which this many more may be
abbrev pub invariant-up : goal.invariant-up
invariant-up l = record {
  led : LeadsDown (world_view l.fn.self) l.fn.mount.id l.here l.way.items;
  ends : ends (parent l.fn.self.forest.mounts) (length l.fn.self.forest.mounts - l._step) l.here.id ≡ true;
  within : l._step ≤ length l.fn.self.forest.mounts;
}
