use Rattle.std.proofs.Common.{◌≡◌, ◌++◌, drop}
use Rattle.std.specs.List.{take_while}
use Rattle.mt_questions.specs.Copies.{is_on_way}
use Rattle.mt_questions.proofs.copies.groups_before.Given as goal

-- those of the groups passed, and of those to come
abbrev pub invariant-groups : goal.invariant-groups
invariant-groups l = l.before.items ++ take_while (is_on_way l.end) (drop l.group-index l.groups) ≡ take_while (is_on_way l.end) l.groups
