use Rattle.std.proofs.Common.{◌≡◌, ◌++◌, take}
use Rattle.mt_requests.specs.Printed.{commands_text}
use Rattle.mt_requests.proofs.print.push_commands.Given as goal

abbrev pub invariant-loop-command : goal.invariant-loop-command
invariant-loop-command l = l.text.items ≡ l.initial.text.items ++ commands_text (take l.command-index l.commands)
