use Rattle.std.proofs.Common.{◌≡◌, ◌++◌, drop}
use Rattle.mt_propagate.specs.World.{world_view}
use Rattle.mt_book.specs.Book.{still_there}
use Rattle.mt_book.proofs.numbers.still_there.Given as goal

-- of the namespaces passed, those that are there
abbrev pub invariant-spaces : goal.invariant-spaces
invariant-spaces l = l.there.items ++ still_there (world_view l.world) (drop l.row-index l.numbers) ≡ still_there (world_view l.world) l.numbers
