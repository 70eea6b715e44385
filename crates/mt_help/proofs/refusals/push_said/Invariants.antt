use Rattle.std.proofs.Common.{◌≡◌, ◌++◌, map, drop}
use Rattle.mt_help.specs.Lines.{said_refusal}
use Rattle.mt_help.proofs.refusals.push_said.Given as goal

-- the refusals appended, and those to come
abbrev pub invariant-refusals : goal.invariant-refusals
invariant-refusals l = map said_refusal l.all.items ++ drop l.refusal-index l.refusals ≡ map said_refusal l.initial.all.items ++ l.refusals
