use Rattle.std.proofs.Common.{ap, ◌∙◌}
use Rattle.mt_skel.specs.Keyed.{rises}
use Rattle.mt_skel.proofs.SortedLaws.{rises-keys}
use Rattle.mt_reach.specs.Rows.{seen_id}
use Rattle.mt_reach.proofs.rows.is_rising.Goals as goal

pub returns-clause-rising : goal.returns-clause-rising
returns-clause-rising c =
    c.are_rising.ensures ∙ ap (rises (λ k. k)) (c.as_slice.ensures.value ∙ c.in_ok-ids.ensures.ids) ∙ rises-keys seen_id c.args.rows.now
