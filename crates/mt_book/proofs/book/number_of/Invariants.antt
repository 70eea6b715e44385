use Rattle.std.proofs.Common.{◌≡◌, ◌==◌, drop}
use Rattle.std.specs.List.{find}
use Rattle.mt_book.specs.Book.{space_in}
use Rattle.mt_book.proofs.book.number_of.Given as goal

-- it is not among those passed
abbrev pub invariant-spaces : goal.invariant-spaces
invariant-spaces l = find (λ r. space_in r == l.space) (drop l.row-index l.numbers) ≡ find (λ r. space_in r == l.space) l.numbers
