use Rattle.std.proofs.Common.{◌∙◌}
use Rattle.mt_propagate.specs.World.{world_view}
use Rattle.mt_info.specs.Table.{table_of}
use Rattle.mt_info.proofs.TableLaws.{table_rises}
use Rattle.mt_events.proofs.NewsLaws.{news-changed}
use Rattle.mt_events.proofs.comparison.is_changed.Goals as goal

pub returns-clause-changed : goal.returns-clause-changed
returns-clause-changed c =
    let v = world_view c.args.before.now in
    let w = world_view c.args.after.now in
    let n = c.args.space in
    c.in_ok-changed.ensures.news ∙ news-changed (table_of v n) (table_of w n) c.args.touched.now c.requires.rising c.requires.touched (table_rises v n c.requires.before) (table_rises w n c.requires.after)
