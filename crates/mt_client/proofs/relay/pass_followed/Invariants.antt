use Rattle.std.proofs.Common.{[]}
use Rattle.mt_client.specs.Reading.{known_lines}
use Rattle.mt_client.specs.Calls.{PassesOn}
use Rattle.mt_client.proofs.EndingLaws.{ArePosts, answer_posts}
use Rattle.mt_client.proofs.SeriesLaws.{Came}
use Rattle.mt_client.proofs.relay.pass_followed.Given as goal

-- so many posts were passed on
abbrev pub invariant-following : goal.invariant-following
invariant-following g l = record {
  goes : Came answer_posts l.taken tt tt (known_lines l.initial.lines) (known_lines l.lines);
  passed : PassesOn g.O.Output [] (ArePosts l.taken) l.initial.lines l.lines l.initial.out l.out;
}
