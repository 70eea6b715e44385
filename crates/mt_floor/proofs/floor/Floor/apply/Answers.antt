use Rattle.std.proofs.Common.{rules, ◌≤◌, length, ap, arith}
use Rattle.mt_floor.specs.Schedule.{FloorView}
use Rattle.mt_floor.proofs.SettledLaws.{command_put_off}
use Rattle.mt_floor.proofs.floor.Floor.apply.Goals as goal

pub returns-then-not-is_empty-clause-done : goal.returns-then-not-is_empty-clause-done
returns-then-not-is_empty-clause-done c =
    let some : 1 ≤ length c.self.inside.due.items = search rules in
    command_put_off c.args.self.now c.args.command.now (omega (arith, some, ap (λ (s : FloorView). length s.due) c.self.view_is))
