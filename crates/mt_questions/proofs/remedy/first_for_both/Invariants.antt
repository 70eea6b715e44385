use Rattle.std.proofs.Common.{◌≡◌, map, drop, find}
use Rattle.mt_questions.specs.Remedies.{serves_both}
use Rattle.mt_questions.proofs.remedy.first_for_both.Given as goal

-- none of those passed does
abbrev pub invariant-opens : goal.invariant-opens
invariant-opens l = find (serves_both l.rows l.place l.row) (map (λ row. row.now) (drop l.open-index l.opens)) ≡ find (serves_both l.rows l.place l.row) (map (λ row. row.now) l.opens)
