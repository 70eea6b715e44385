use Rattle.std.proofs.Common.{rules}
use Rattle.mt_import.proofs.ScriptLaws.{with_line}
use Rattle.mt_import.proofs.script.Script.push.Goals as goal

pub invariant_of-self-2 : goal.invariant_of-self-2
invariant_of-self-2 c = with_line _ c.args.line.now _ c.self.invariant (search rules) (search rules)
