use Rattle.std.proofs.Common.{◌∙◌, get_or}
use Rattle.mt_propagate.specs.World.{world_view}
use Rattle.mt_propagate.specs.declared.world.World.{World}
use Rattle.mt_info.specs.Table.{table_of}
use Rattle.mt_events.specs.ByMount.{is_news}
use Rattle.mt_events.proofs.NewsLaws.{any-step}
use Rattle.mt_events.proofs.comparison.any_news.Goals as goal

pub returns-then-branch-clause-news : goal.returns-then-branch-clause-news
returns-then-branch-clause-news c =
    let table : World → _ = λ w. table_of (world_view w) c.args.space in
    (any-step _ _ _ 0 _ _ c.mounts-test.true c.mounts.invariant.news (c.in_ok-is_news.ensures.news ∙ (λ k. is_news (table (c.mounts.invariant.same_before k)) (table (c.mounts.invariant.same_after k)) (get_or c.args.touched.now c.mounts.id-index 0)))).0 c.if-branch.true

pub mounts-preserved : goal.mounts-preserved
mounts-preserved c =
    let table : World → _ = λ w. table_of (world_view w) c.args.space in
    let old = c.mounts.invariant.same_before in
    let new = c.mounts.invariant.same_after in
    record {
      news = (any-step _ _ _ 0 _ _ c.mounts-test.true c.mounts.invariant.news (c.in_ok-is_news.ensures.news ∙ (λ k. is_news (table (old k)) (table (new k)) (get_or c.args.touched.now c.mounts.id-index 0)))).1 c.if-branch.false;
      same_before = c.in_ok-is_news.ensures.before_kept ∙ old;
      same_after = c.in_ok-is_news.ensures.after_kept ∙ new;
    }
