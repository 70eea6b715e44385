use Rattle.std.proofs.Common.{rules}
use Rattle.mt_forms.proofs.SplitLaws.{words_joined}
use Rattle.mt_forms.proofs.split.joined_words.Goals as goal

pub returns : goal.returns
returns c = words_joined c.args.words.now c.in-Some.others.now c.in-Some.first.now c.push_word.new.text.items c.push_words.new.text.items (search rules) (search rules) (search rules)
