use Rattle.mt_lines.proofs.NumberLaws.{number_exact}
use Rattle.mt_lines.proofs.words.number.Goals as goal

pub returns-clause-exact : goal.returns-clause-exact
returns-clause-exact c = number_exact c.args.word.now c.read_number.result c.read_number.ensures
