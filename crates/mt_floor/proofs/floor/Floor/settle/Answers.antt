use Rattle.std.proofs.Common.{rules, ◌∙◌, ◌≤◌, length, sym, ap, arith}
use Rattle.mt_floor.specs.Schedule.{FloorView}
use Rattle.mt_floor.proofs.SettledLaws.{none_due, settled_idle}
use Rattle.mt_floor.proofs.floor.Floor.settle.Goals as goal

pub returns-clause-settled : goal.returns-clause-settled
returns-clause-settled c =
    let low : length c.self.inside.due.items ≤ 0 = search rules in
    let none = none_due c.posts.self (omega (arith, low, ap (λ (s : FloorView). length s.due) c.self.view_is)) in
    sym (settled_idle c.posts.self none) ∙ c.posts.invariant
