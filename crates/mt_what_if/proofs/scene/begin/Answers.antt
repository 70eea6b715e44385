use Rattle.std.proofs.Common.{not, ◌∙◌}
use Rattle.std.specs.List.{filter}
use Rattle.mt_propagate.specs.World.{world_view}
use Rattle.mt_world.specs.Locked.{all_may_be_locked}
use Rattle.mt_what_if.specs.Gathered.{rows_gathered}
use Rattle.mt_what_if.specs.Scenes.{foreign_from}
use Rattle.mt_what_if.proofs.SceneLaws.{begun_world}
use Rattle.mt_what_if.proofs.scene.begin.Goals as goal

pub returns-clause-begun : goal.returns-clause-begun
returns-clause-begun c =
    begun_world (rows_gathered 1 c.args.tables.now) c.deref.result.now c.deref-2.result.now c.deref-4.result.now (foreign_from 1 c.args.tables.now) c.deref-3.result.now
    (world_view c.in_ok-made.made.world) (world_view c.lock_foreign.new.world) c.in_ok-scene.scene.trial c.in_ok-made.made.left.items c.in_ok-made.made.private.items
    (c.deref.ensures.value ∙ c.in_ok-gathered.ensures.rows) (c.deref-2.ensures.value ∙ c.in_ok-gathered.ensures.rows)
    (c.deref-4.ensures.value ∙ c.in_ok-gathered.ensures.rows) (c.deref-3.ensures.value ∙ c.in_ok-foreign.ensures) c.lock_foreign.ensures.well_formed c.in_ok-made.ensures.made
    c.in_ok-made.ensures.plain c.in_ok-lockless.ensures.world c.in_ok-scene.ensures.trial

pub returns-clause-lockless : goal.returns-clause-lockless
returns-clause-lockless c =
    c.in_ok-lockless.ensures.unknown
    ∙ (λ i. filter (λ n. not (all_may_be_locked ((c.deref-2.ensures.value ∙ c.in_ok-gathered.ensures.rows) i) n)) ((c.deref-3.ensures.value ∙ c.in_ok-foreign.ensures) i))
