use Rattle.std.proofs.Common.{◌∙◌}
use Rattle.mt_propagate.specs.World.{world_view}
use Rattle.mt_propagate.specs.declared.world.World.{World}
use Rattle.mt_info.specs.Table.{table_of}
use Rattle.mt_info.proofs.TableLaws.{table_rises}
use Rattle.mt_events.proofs.ChangeLaws.{gone_rises, news_rise, difference_is, difference_told, told_of}
use Rattle.mt_events.proofs.TouchedLaws.{gone_are, new_rows_are}
use Rattle.mt_events.proofs.touched.delta_of.Goals as goal

pub new-requires : goal.new-requires
new-requires c =
    let rising = table_rises _ c.args.space c.requires.before in
    let table = λ (w : World). table_of (world_view w) c.args.space in
    gone_rises (table c.args.before.now) (table c.args.after.now) (c.in_ok-ids.ensures.gone ∙ gone_are _ _ _ c.requires.rising c.requires.touched rising) rising

pub new-requires-2 : goal.new-requires-2
new-requires-2 c =
    let rising = table_rises _ c.args.space c.requires.after in
    let table = λ (w : World). table_of (world_view w) c.args.space in
    record { rising = news_rise (table c.args.before.now) (table c.args.after.now) (c.in_ok-rows.ensures.rows ∙ new_rows_are _ _ _ c.requires.rising c.requires.touched rising) rising }

pub returns-clause-delta : goal.returns-clause-delta
returns-clause-delta c =
    difference_is _ _ (c.in_ok-ids.ensures.gone ∙ gone_are _ _ _ c.requires.rising c.requires.touched (table_rises _ c.args.space c.requires.before))
    (c.in_ok-rows.ensures.rows ∙ new_rows_are _ _ _ c.requires.rising c.requires.touched (table_rises _ c.args.space c.requires.after)) c.new.ensures c.new-2.ensures.table

pub returns-clause-told : goal.returns-clause-told
returns-clause-told c = told_of _ _ (returns-clause-delta c) (difference_told _ _ (table_rises _ c.args.space c.requires.after))
