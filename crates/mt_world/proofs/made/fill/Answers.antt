use Rattle.std.proofs.Common.{sym, subst}
use Rattle.mt_propagate.specs.World.{world_view}
use Rattle.mt_world.specs.States.{AreThere, ArePrivate, AreJoined}
use Rattle.mt_world.proofs.MadeLaws.{are_there, are_private, is_made}
use Rattle.mt_world.proofs.made.fill.Goals as goal

pub join_rows-requires-clause-there : goal.join_rows-requires-clause-there
join_rows-requires-clause-there c =
    let rows = c.args.rows.now in
    subst (AreThere (world_view c.hide_masters.new.world) rows) (sym c.as_slice-2.ensures.value)
    (are_there (world_view c.grow.new.world) (world_view c.hide_masters.new.world) rows c.in_ok-left.left.items c.in_ok-left.ensures.kept c.hide_masters.ensures.beside)

pub join_rows-requires-clause-private : goal.join_rows-requires-clause-private
join_rows-requires-clause-private c =
    let rows = c.args.rows.now in
    subst (ArePrivate (world_view c.hide_masters.new.world) rows) (sym c.as_slice-2.ensures.value)
    (are_private (world_view c.grow.new.world) (world_view c.hide_masters.new.world) rows c.in_ok-left.left.items c.in_ok-left.ensures.kept c.hide_masters.ensures.beside)

pub returns-clause-made : goal.returns-clause-made
returns-clause-made c =
    let rows = c.args.rows.now in
    is_made (world_view c.grow.new.world) (world_view c.hide_masters.new.world) rows c.in_ok-left.left.items c.in_ok-left.ensures.kept c.hide_masters.ensures.beside (world_view c.join_rows.new.world) c.in_ok-private.private.items
    c.hide_masters.ensures.sound c.join_rows.ensures.kept c.join_rows.ensures.same
    (subst (λ l. AreJoined (world_view c.join_rows.new.world) rows l c.in_ok-private.private.items) c.as_slice-2.ensures.value c.in_ok-private.ensures.joined) (c.hide_masters.ensures.numbers, c.in_ok-hide_masters.ensures.spaces)
