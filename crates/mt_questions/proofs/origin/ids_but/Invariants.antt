use Rattle.std.proofs.Common.{◌≡◌, ◌==◌, ◌++◌, not, drop}
use Rattle.std.specs.List.{filter}
use Rattle.mt_questions.proofs.origin.ids_but.Given as goal

-- those passed, and those to come
abbrev pub invariant-ids : goal.invariant-ids
invariant-ids l = l.others.items ++ filter (λ i. not (i == l.one)) (drop l.id-index l.ids) ≡ filter (λ i. not (i == l.one)) l.ids
