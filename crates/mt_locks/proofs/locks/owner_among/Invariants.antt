use Rattle.std.proofs.Common.{◌≡◌, ℕ, ◌==◌, drop}
use Rattle.std.specs.List.{find}
use Rattle.mt_locks.proofs.locks.owner_among.Given as goal

-- it is not among those passed
abbrev pub invariant-loop-row : goal.invariant-loop-row
invariant-loop-row l = find (λ (o : ℕ × ℕ). o.0 == l.space) (drop l.row-index l.owners) ≡ find (λ (o : ℕ × ℕ). o.0 == l.space) l.owners
