use Rattle.std.proofs.Common.{◌≡◌, subst, sym}
use Rattle.mt_propagate.specs.World.{world_view, empty_world}
use Rattle.mt_propagate.specs.WellFormed.{IsWellFormed}
use Rattle.mt_propagate.proofs.EmptyLaws.{empty-kept}
use Rattle.mt_propagate.proofs.world.World.new.Goals as goal

-- the world that is made
is_empty : (c : goal.After-new-5) → world_view (record { skel = c.new.result; forest = c.new-2.result; peers = c.new-3.result; next_mount = 1; next_space = 1; trees = c.new-4.result; locks = c.new-5.result }) ≡ empty_world
is_empty c = λ k. record { skel = c.new.ensures k; forest = c.new-2.ensures.mounts k; peering = record { peers = (c.new-3.ensures k).peers; next = (c.new-3.ensures k).next }; next_mount = 1; next_space = 1; trees = c.new-4.ensures k; locks = c.new-5.ensures k }

pub returns-clause-kept : goal.returns-clause-kept
returns-clause-kept c = subst IsWellFormed (sym (is_empty c)) empty-kept
