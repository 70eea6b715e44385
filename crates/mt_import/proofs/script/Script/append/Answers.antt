use Rattle.std.proofs.Common.{rules}
use Rattle.mt_import.proofs.ScriptLaws.{both_scripts}
use Rattle.mt_import.proofs.script.Script.append.Goals as goal

pub invariant_of-self-2 : goal.invariant_of-self-2
invariant_of-self-2 c = both_scripts _ c.args.other.now _ c.self.invariant (search rules) (search rules)
