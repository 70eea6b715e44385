use Rattle.std.proofs.Common.{[]}
use Rattle.mt_client.specs.Reading.{known_lines}
use Rattle.mt_client.specs.Calls.{PassesOn}
use Rattle.mt_client.proofs.EndingLaws.{AreSoFar, blocks_of}
use Rattle.mt_client.proofs.SeriesLaws.{CameInLines}
use Rattle.mt_client.proofs.block.pass_blocks.Given as goal

-- blocks of all but the lines that are left were passed on
abbrev pub invariant-passing : goal.invariant-passing
invariant-passing g l = record {
  goes : CameInLines (blocks_of l.initial.block) l.initial.count l.left tt tt (known_lines l.initial.lines) (known_lines l.lines);
  passed : PassesOn g.O.Output [] (AreSoFar l.initial.block l.initial.count l.left) l.initial.lines l.lines l.initial.out l.out;
}

abbrev pub decreases-passing : goal.decreases-passing
decreases-passing g l = l.left
