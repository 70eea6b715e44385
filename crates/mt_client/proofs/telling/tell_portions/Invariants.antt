use Rattle.std.proofs.Common.{IsTrue}
use Rattle.std.specs.Io.KnownBytes.{Appends}
use Rattle.mt_skel.specs.Keyed.{rises}
use Rattle.mt_client.specs.Reading.{known_lines}
use Rattle.mt_client.specs.Calls.{ReadsOn, WritesOn}
use Rattle.mt_client.specs.Finding.{mirror_space}
use Rattle.mt_client.specs.Telling.{follows_text}
use Rattle.mt_client.proofs.TellingLaws.{AreToldBefore}
use Rattle.mt_client.proofs.SeriesLaws.{Came}
use Rattle.mt_client.proofs.MissingLaws.{portions_of}
use Rattle.mt_client.proofs.telling.tell_portions.Given as goal

-- whole portions were told, each behind its request
abbrev pub invariant-portions : goal.invariant-portions
invariant-portions g l = record {
  on : ReadsOn l.initial.lines l.lines;
  prints : WritesOn g.O.Output l.initial.out l.out;
  writes : WritesOn g.W.Output l.initial.writer l.writer;
  rising : IsTrue (rises mirror_space l.mirrors.items);
  goes : Came (portions_of l.initial.count l.initial.scope) l._portion l.initial.mirrors.items l.mirrors.items (known_lines l.initial.lines) (known_lines l.lines);
  sent : Appends (g.W.Output.contents l.initial.writer) (g.W.Output.contents l.writer) (follows_text l.initial.count l._portion);
  told : AreToldBefore l.initial.named l.initial.count l.initial.scope l._portion l.initial.mirrors.items l.mirrors.items (known_lines l.initial.lines) (known_lines l.lines) (g.O.Output.contents l.initial.out) (g.O.Output.contents l.out);
}
