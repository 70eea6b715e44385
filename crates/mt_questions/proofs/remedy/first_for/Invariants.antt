use Rattle.std.proofs.Common.{◌≡◌, map, drop, find}
use Rattle.mt_reach.specs.Reasons.{gets_at}
use Rattle.mt_questions.proofs.remedy.first_for.Given as goal

-- none of those passed does
abbrev pub invariant-opens : goal.invariant-opens
invariant-opens l = find (λ m. gets_at l.rows m l.row) (map (λ row. row.now) (drop l.open-index l.opens)) ≡ find (λ m. gets_at l.rows m l.row) (map (λ row. row.now) l.opens)
