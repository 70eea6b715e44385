use Rattle.std.proofs.Common.{◌≡◌, ℕ, [], length}
use Rattle.mt_book.specs.Parts.{part_at}
use Rattle.mt_book.proofs.parts.empty_parts.Given as goal

-- as many parts as were counted, each without a mount
abbrev pub invariant-spaces : goal.invariant-spaces
invariant-spaces l = record {
  len : length l.parts.items ≡ l._i;
  parts : (k : ℕ) → part_at l.parts.items k ≡ [];
}
