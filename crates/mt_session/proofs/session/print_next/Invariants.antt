use Rattle.std.proofs.Common.{◌≡◌}
use Rattle.std.specs.List.{flat_map}
use Rattle.mt_events.specs.Posts.{post_text}
use Rattle.mt_events.specs.Texts.{lines_of_posts}
use Rattle.mt_session.specs.Requests.{next_posts}
use Rattle.mt_session.proofs.session.print_next.Given as goal

-- the first posts are printed and counted
abbrev pub invariant-posts : goal.invariant-posts
invariant-posts l =
    (l.printed.text.items ≡ flat_map post_text (next_posts l.floor l.key l.index))
    × (l.printed.lines ≡ lines_of_posts (next_posts l.floor l.key l.index))
