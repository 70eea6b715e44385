use Rattle.std.proofs.Common.{rules, inl, inr}
use Rattle.mt_help.proofs.ReasonLaws.{line_twice}
use Rattle.mt_help.proofs.finding.reason_in.Goals as goal

pub returns-in-Some-words_reason : goal.returns-in-Some-words_reason
returns-in-Some-words_reason c = inr (c.in-Some.verb, search rules, search rules)

pub returns-in-None : goal.returns-in-None
returns-in-None c = inl (line_twice c.args.line.now c.in-Some.verb (search rules) (search rules) (search rules) c.requires.bad)
