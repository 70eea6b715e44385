use Rattle.mt_lines.proofs.LineLaws.{empty_cases}
use Rattle.mt_lines.proofs.line.Chunk.is_empty.Goals as goal

pub returns : goal.returns
returns c = empty_cases c.args.self.now _ (rw (← c.as_slice.ensures) c.is_empty.ensures)
