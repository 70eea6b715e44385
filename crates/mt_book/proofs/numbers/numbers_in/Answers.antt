use Rattle.mt_book.proofs.ChangedLaws.{next_found, last_found}
use Rattle.mt_book.proofs.numbers.numbers_in.Goals as goal

pub spaces-preserved : goal.spaces-preserved
spaces-preserved c =
    next_found c.args.spaces.now c.args.numbers.now c.spaces.some.items c.push_number.new.some.items _ c.spaces.space-index _ c.spaces-test.true c.requires.spaces c.requires.rising c.spaces.invariant c.in_ok-push_number.ensures.pushed

pub returns-clause-some : goal.returns-clause-some
returns-clause-some c = last_found c.args.spaces.now c.args.numbers.now c.spaces.some.items _ c.spaces.space-index c.spaces-test.false c.spaces.invariant
