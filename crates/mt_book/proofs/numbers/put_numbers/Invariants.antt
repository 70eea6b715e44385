use Rattle.std.proofs.Common.{◌≡◌, ℕ, true, drop}
use Rattle.mt_skel.specs.Keyed.{rises}
use Rattle.mt_book.specs.Book.{space_in}
use Rattle.mt_book.specs.Parts.{merged}
use Rattle.mt_book.proofs.numbers.put_numbers.Given as goal

-- the numbers so far, and the changes to come
abbrev pub invariant-rows : goal.invariant-rows
invariant-rows l = record {
  rising : rises space_in l.all.items ≡ true;
  rows : (n : ℕ) → merged l.all.items (drop l.row-index l.changed) n ≡ merged l.initial.all.items l.changed n;
}
