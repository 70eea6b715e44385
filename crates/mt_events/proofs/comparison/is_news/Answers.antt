use Rattle.std.proofs.Common.{◌≡◌, ◌∙◌, false, ◌&&◌, ◌||◌, not, is_some, sym, ap}
use Rattle.mt_skel.specs.Keyed.{has}
use Rattle.mt_propagate.specs.declared.world.World.{World}
use Rattle.mt_propagate.specs.World.{world_view}
use Rattle.mt_info.specs.Table.{row_id, table_of}
use Rattle.mt_events.specs.ByMount.{new_row}
use Rattle.mt_events.proofs.NewsLaws.{arrived-new}
use Rattle.mt_events.proofs.comparison.is_news.Goals as goal

pub returns-then-not-was_there-clause-news : goal.returns-then-not-was_there-clause-news
returns-then-not-was_there-clause-news c =
    let a = table_of (world_view c.args.before.now) c.args.space in
    let b = table_of (world_view c.args.after.now) c.args.space in
    let there : World → _ = λ x. has row_id c.args.id (table_of (world_view x) c.args.space) in
    let out : has row_id c.args.id a ≡ false = ap there (sym c.world.ensures) ∙ sym c.is_in-was_there.ensures ∙ c.if-not-was_there.true in
    c.is_in-is_there.ensures ∙ ap there c.world-2.ensures ∙ sym (arrived-new a b c.args.id out)
    ∙ ap (λ o. (o && not (has row_id c.args.id b)) || is_some (new_row a b c.args.id)) (sym out)
