use Rattle.std.proofs.Common.{◌≡◌, length, ap, List, [], ◌∷◌, ◌++◌, arith}
use Rattle.mt_book.specs.declared.command.Command.{Command}
use Rattle.mt_floor.proofs.ApplyLaws.{open_refused, open_done}
use Rattle.mt_floor.proofs.floor.Floor.open.Goals as goal

pub returns-in-Some-clause-refused : goal.returns-in-Some-clause-refused
returns-in-Some-clause-refused c = λ ne. open_refused c.self.invariant c.self.view_is c.requires.idle c.args.scope c.refuses.ensures c.in-Some.is

pub invariant_of-self-2 : goal.invariant_of-self-2
invariant_of-self-2 c =
    let row = c.in_ok-row in
    let pushed : c.push.new.self.items ≡ c.self.inside.rows.items ++ row.row ∷ [] = grind arith in
    let since = ap (λ (l : List Command). length l) c.journal-since.ensures.journal in
    (open_done c.self.invariant c.self.view_is c.requires.idle c.refuses.ensures c.in_default.is since row.ensures.row pushed c.in_ok-opening.ensures.opening).kept

pub returns-clause-done : goal.returns-clause-done
returns-clause-done c =
    let row = c.in_ok-row in
    let pushed : c.push.new.self.items ≡ c.self.inside.rows.items ++ row.row ∷ [] = grind arith in
    let since = ap (λ (l : List Command). length l) c.journal-since.ensures.journal in
    (open_done c.self.invariant c.self.view_is c.requires.idle c.refuses.ensures c.in_default.is since row.ensures.row pushed c.in_ok-opening.ensures.opening).step
