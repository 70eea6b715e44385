use Rattle.mt_lines.proofs.LineLaws.{line_end_cases}
use Rattle.mt_lines.proofs.line.Chunk.find_end.Goals as goal

pub returns-clause-cases : goal.returns-clause-cases
returns-clause-cases c = line_end_cases c.args.self.now _ (rw (← c.as_slice.ensures) c.memchr.ensures)
