use Rattle.std.proofs.Common.{◌≡◌, ℕ, ◌+◌, IsTrue}
use Rattle.mt_skel.specs.Keyed.{rises}
use Rattle.mt_client.specs.Reading.{known_lines}
use Rattle.mt_client.specs.Calls.{ReadsOn, WritesOn}
use Rattle.mt_client.specs.Finding.{mirror_space}
use Rattle.mt_client.specs.Effects.{HasToldLines}
use Rattle.mt_client.proofs.SeriesLaws.{CameInLines}
use Rattle.mt_client.proofs.MissingLaws.{posts_due}
use Rattle.mt_client.proofs.effects.tell_lines.Given as goal

-- the posts of all but the lines that are left were told
abbrev pub invariant-telling : goal.invariant-telling
invariant-telling g l = record {
  on : ReadsOn l.initial.lines l.lines;
  prints : WritesOn g.O.Output l.initial.out l.out;
  rising : IsTrue (rises mirror_space l.mirrors.items);
  coming : CameInLines posts_due l.initial.count l.left l.initial.mirrors.items l.mirrors.items (known_lines l.initial.lines) (known_lines l.lines);
  told : (k : ℕ) × (k + l.left ≡ l.initial.count) × HasToldLines l.initial.named k l.initial.mirrors.items l.mirrors.items (known_lines l.initial.lines) (known_lines l.lines) (g.O.Output.contents l.initial.out) (g.O.Output.contents l.out);
}

abbrev pub decreases-telling : goal.decreases-telling
decreases-telling g l = l.left
