use Rattle.mt_client.specs.Reading.{known_lines}
use Rattle.mt_client.specs.Calls.{ReadsOn}
use Rattle.mt_client.specs.Mirroring.{counted_line, HasFollowedSome}
use Rattle.mt_client.proofs.SeriesLaws.{Came, following, up_to}
use Rattle.mt_client.proofs.mirror.follow_posts.Given as goal

-- so many posts were applied
abbrev pub invariant-posts : goal.invariant-posts
invariant-posts g l = record {
  on : ReadsOn l.initial.lines l.lines;
  goes : Came (up_to following (counted_line l.initial.count) l.initial.count) l._post l.initial.mirror l.mirror (known_lines l.initial.lines) (known_lines l.lines);
  came : HasFollowedSome l._post (known_lines l.initial.lines) (known_lines l.lines) l.initial.mirror l.mirror;
}
