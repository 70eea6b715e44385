use Rattle.mt_floor.specs.Schedule.{waiting}
use Rattle.mt_session.proofs.TurnLaws.{told_next, counted_next}
use Rattle.mt_session.proofs.session.print_next.Goals as goal

pub posts-preserved : goal.posts-preserved
posts-preserved c =
    let w = waiting c.args.floor.now c.args.key in
    let at = c.in-Some.ensures in (
      told_next w c.posts.index c.in-Some.post.now c.posts.printed.text.items c.push.new.self.text.items at c.posts.invariant.0 c.in_ok-push.ensures.text,
      counted_next w c.posts.index c.in-Some.post.now c.posts.printed.lines c.push.new.self.lines at c.posts.invariant.1 c.in_ok-push.ensures.lines,
    )
