use Rattle.std.proofs.Common.{rules}
use Rattle.mt_import.proofs.WriterLaws.{words_joined}
use Rattle.mt_import.proofs.writer.spaced.Goals as goal

pub returns : goal.returns
returns c = words_joined c.args.words.now c.in-Some.others.now c.in-Some.first.now c.extend_from_slice.new.self.items c.push_words.new.line.items (search rules) (search rules) (search rules)
