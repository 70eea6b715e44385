use Rattle.std.proofs.Common.{◌≡◌, ◌++◌, drop}
use Rattle.std.specs.List.{filter}
use Rattle.mt_skel.specs.Keyed.{among}
use Rattle.mt_book.specs.Book.{space_in}
use Rattle.mt_book.proofs.numbers.numbers_in.Given as goal

-- the numbers of the namespaces passed, and of those to come
abbrev pub invariant-spaces : goal.invariant-spaces
invariant-spaces l =
    l.some.items ++ filter (λ r. among (drop l.space-index l.spaces) (space_in r)) l.numbers ≡ filter (λ r. among l.spaces (space_in r)) l.numbers
