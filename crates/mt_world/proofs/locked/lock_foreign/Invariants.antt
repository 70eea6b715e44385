use Rattle.std.proofs.Common.{◌≡◌, ◌++◌, not, drop}
use Rattle.std.specs.List.{filter}
use Rattle.mt_propagate.specs.World.{world_view}
use Rattle.mt_propagate.specs.WellFormed.{IsWellFormed}
use Rattle.mt_world.specs.Locked.{all_may_be_locked, with_foreign_locks}
use Rattle.mt_world.proofs.locked.lock_foreign.Given as goal

-- the namespaces that are left lead to the world, and those among them of which the locks are not known are the last ones
abbrev pub invariant-spaces : goal.invariant-spaces
invariant-spaces l = record {
  well_formed : IsWellFormed (world_view l.world);
  world : with_foreign_locks l.rows (drop l.space-index l.foreign) (world_view l.world) ≡ with_foreign_locks l.rows l.foreign (world_view l.initial.world);
  unknown :
      l.unknown.items ++ filter (λ n. not (all_may_be_locked l.rows n)) (drop l.space-index l.foreign)
      ≡ filter (λ n. not (all_may_be_locked l.rows n)) l.foreign;
}
