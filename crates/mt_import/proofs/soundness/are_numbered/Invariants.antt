use Rattle.std.proofs.Common.{◌≡◌, ◌+◌, drop}
use Rattle.mt_import.specs.Plans.{are_numbered}
use Rattle.mt_import.proofs.soundness.are_numbered.Given as goal

-- those that are left decide, from their numbers on
abbrev pub invariant-spaces : goal.invariant-spaces
invariant-spaces l = are_numbered l.first (l.before + 1) l.last (drop l.before l.spaces) ≡ are_numbered l.first 1 0 l.spaces
