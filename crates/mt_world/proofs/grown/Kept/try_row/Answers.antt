use Rattle.std.proofs.Common.{nat_eq, sym, ◌∙◌}
use Rattle.indexmap.specs.IndexMap.{get}
use Rattle.mt_propagate.specs.World.{world_view}
use Rattle.mt_world.proofs.KeptLaws.{stands_on}
use Rattle.mt_world.proofs.grown.Kept.try_row.Goals as goal

pub put_on-requires-2-clause-stands : goal.put_on-requires-2-clause-stands
put_on-requires-2-clause-stands c =
    let f = c.in-Some.ensures.found in
    stands_on (world_view c.args.world.now) c.args.rows.now c.args.self.now.left.items (get nat_eq c.args.self.now.put) c.requires.kept c.in-Some-Some-Some-NoParent.row.now c.in-Some.above.now f.0 f.1 f.2 f.3
    (sym c.is_root_of_table.ensures ∙ c.if-is_root_of_table.false)
