use Rattle.std.proofs.Common.{◌≤◌, length, sym, subst, ◌∙◌}
use Rattle.mt_events.specs.Posts.{PostView}
use Rattle.mt_events.proofs.PostLaws.{text_tells}
use Rattle.mt_client.specs.Limits.{most_rows}
use Rattle.mt_client.proofs.posts.read_text.Goals as goal

pub returns-else-is_within-clause-refused : goal.returns-else-is_within-clause-refused
returns-else-is_within-clause-refused c is other valid e =
    let same = text_tells other c.in_ok-post.post valid.valid c.in_ok-post.ensures.valid (sym e ∙ c.in_ok-post.ensures.post) in
    c.if-is_within.ensures (subst (λ (p : PostView). (length p.gone ≤ most_rows) × (length p.rows ≤ most_rows)) same (valid.gone, valid.rows))
