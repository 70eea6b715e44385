use Rattle.mt_lines.proofs.WordLaws.{first_piece}
use Rattle.mt_lines.proofs.words.first_separator.Goals as goal

pub returns : goal.returns
returns c = first_piece c.args.separator c.args.text.now _ c.memchr.ensures
