use Rattle.std.proofs.Common.{◌≡◌, ◌≢◌}
use Rattle.mt_propagate.specs.World.{world_view}
use Rattle.mt_bind.specs.Sources.{is_bound_along}
use Rattle.mt_bind.specs.Judged.{IsJudged}
use Rattle.mt_bind.proofs.members.keep_passed.Given as goal

-- what is kept is so, and it is so of the mount come to, unless that is the top
abbrev pub invariant-passed : goal.invariant-passed
invariant-passed l = record {
  judged : IsJudged (world_view l.world) l.from l.judged;
  answers : l.here ≢ l.from.mount → l.bound ≡ is_bound_along (world_view l.world) l.from l.here;
}
