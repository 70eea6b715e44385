use Rattle.std.proofs.Common.{◌≡◌, ◌++◌, drop, map}
use Rattle.std.specs.List.{filter}
use Rattle.mt_mounts.specs.Forest.{id_of}
use Rattle.mt_propagate.specs.World.{world_view}
use Rattle.mt_bind.specs.Sources.{is_bound_along}
use Rattle.mt_bind.specs.Judged.{IsJudged}
use Rattle.mt_bind.proofs.members.members_within.Given as goal

-- the IDs passed have been judged
abbrev pub invariant-loop-id : goal.invariant-loop-id
invariant-loop-id l = record {
  kept : l.members.items ++ filter (is_bound_along (world_view l.world) l.from) (drop l.id-index l.id-items)
      ≡ map id_of (filter (λ m. is_bound_along (world_view l.world) l.from m.id) l.world.forest.mounts);
  judged : IsJudged (world_view l.world) l.from l.judged.found;
}
