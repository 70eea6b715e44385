use Rattle.std.proofs.Common.{◌≡◌, ◌++◌, drop}
use Rattle.mt_what_if.specs.Taken.{taken_told}
use Rattle.mt_what_if.proofs.taken.taken_told.Given as goal

-- what is told, and what is to come
abbrev pub invariant-given : goal.invariant-given
invariant-given l = l.text.items ++ taken_told (drop l.place l.given) ≡ taken_told l.given
