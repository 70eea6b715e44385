use Rattle.std.proofs.Common.{◌≡◌, ◌++◌, drop}
use Rattle.mt_import.specs.Spaces.{numbers_where, is_cover}
use Rattle.mt_import.proofs.covers.covers_of.Given as goal

-- those that were found and those among the others are all
abbrev pub invariant-mounts : goal.invariant-mounts
invariant-mounts l = l.covers.items ++ numbers_where (is_cover l.ways) l.number (drop l.number l.mounts) ≡ numbers_where (is_cover l.ways) 0 l.mounts
