use Rattle.std.proofs.Common.{◌++◌, Bool, map, ap, ◌∙◌}
use Rattle.mt_propagate.specs.World.{world_view}
use Rattle.mt_guard.specs.Coming.{is_foreign, locks_of_copy}
use Rattle.mt_guard.proofs.coming.push_at.Goals as goal

pub returns-clause-rows : goal.returns-clause-rows
returns-clause-rows c =
    let w = world_view c.args.world.now in
    let foreign = c.is_foreign-foreign.ensures ∙ ap (is_foreign w c.args.here) c.space_of.ensures in
    c.in_ok-push_copies.ensures.rows ∙ ap (λ (b : Bool). c.args.rows.now.items ++ map (locks_of_copy w b c.args.top) c.args.mounts.now) foreign
