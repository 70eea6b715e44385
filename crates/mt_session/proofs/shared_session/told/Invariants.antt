use Rattle.std.proofs.Common.{◌≡◌, ◌+◌, ◌++◌, length, drop, map}
use Rattle.std.specs.Prelude.{fold}
use Rattle.std.specs.List.{flat_map}
use Rattle.std.specs.Arc.{arc_value}
use Rattle.mt_events.specs.Posts.{post_lines, post_text}
use Rattle.mt_events.specs.Texts.{lines_of_posts}
use Rattle.mt_session.proofs.shared_session.told.Given as goal

-- the posts printed, and those to come; and how many lines they are
abbrev pub invariant-posts : goal.invariant-posts
invariant-posts l =
    (l.printed.text.items ++ flat_map post_text (map (λ p. arc_value p) (drop l.post-index l.posts)) ≡ flat_map post_text (map (λ p. arc_value p) l.posts))
    × (fold (λ n p. n + length (post_lines p)) l.printed.lines (map (λ p. arc_value p) (drop l.post-index l.posts)) ≡ lines_of_posts (map (λ p. arc_value p) l.posts))
