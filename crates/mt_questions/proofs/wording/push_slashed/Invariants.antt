use Rattle.std.proofs.Common.{◌≡◌, ◌++◌, drop}
use Rattle.mt_questions.specs.Wording.{slashed}
use Rattle.mt_questions.proofs.wording.push_slashed.Given as goal

-- the names appended, and those to come
abbrev pub invariant-names : goal.invariant-names
invariant-names l = l.text.items ++ slashed (drop l.name-index l.names) ≡ l.initial.text.items ++ slashed l.names
