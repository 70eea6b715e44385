use Rattle.std.proofs.Common.{IsTrue}
use Rattle.mt_skel.specs.Keyed.{rises}
use Rattle.mt_client.specs.Reading.{known_lines}
use Rattle.mt_client.specs.Calls.{ReadsOn, WritesOn}
use Rattle.mt_client.specs.Finding.{mirror_space}
use Rattle.mt_client.specs.Telling.{HasToldSome}
use Rattle.mt_client.specs.Mirroring.{counted_line}
use Rattle.mt_client.proofs.SeriesLaws.{Came, due_to, up_to}
use Rattle.mt_client.proofs.telling.tell_posts.Given as goal

-- so many posts were told
abbrev pub invariant-posts : goal.invariant-posts
invariant-posts g l = record {
  on : ReadsOn l.initial.lines l.lines;
  prints : WritesOn g.O.Output l.initial.out l.out;
  rising : IsTrue (rises mirror_space l.mirrors.items);
  goes : Came (up_to (due_to l.initial.scope) (counted_line l.initial.count) l.initial.count) l._post l.initial.mirrors.items l.mirrors.items (known_lines l.initial.lines) (known_lines l.lines);
  told : HasToldSome l.initial.named l._post l.initial.scope l.initial.mirrors.items l.mirrors.items (known_lines l.initial.lines) (known_lines l.lines) (g.O.Output.contents l.initial.out) (g.O.Output.contents l.out);
}
