use Rattle.std.proofs.Common.{rules}
use Rattle.mt_client.proofs.RelayLaws.{words_joined}
use Rattle.mt_client.proofs.request.request_line.Goals as goal

pub returns : goal.returns
returns c = words_joined c.args.words.now c.in-Some.others.now c.in-Some.first.now c.push_escaped.new.text.items c.push_words.new.line.items (search rules) (search rules) (search rules)
