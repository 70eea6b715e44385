use Rattle.mt_questions.proofs.TwiceLaws.{twice_of}
use Rattle.mt_questions.proofs.seeing.gathered.Goals as goal

pub returns-in_default-clause-twice : goal.returns-in_default-clause-twice
returns-in_default-clause-twice c =
    twice_of c.args.rows.items c.in_ok-rows.rows.items c.in_ok-seen.field-0 c.in_ok-rows.ensures.sorted c.in_ok-rows.ensures.order c.in_default.is c.in_ok-seen.ensures.rising
