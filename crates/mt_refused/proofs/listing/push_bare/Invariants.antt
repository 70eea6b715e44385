use Rattle.std.proofs.Common.{◌≡◌, ◌++◌, drop}
use Rattle.std.specs.List.{flat_map}
use Rattle.mt_skel.specs.Escapes.{escaped}
use Rattle.mt_refused.proofs.listing.push_bare.Given as goal

-- the names appended, and those to come
abbrev pub invariant-names : goal.invariant-names
invariant-names l = l.text.items ++ flat_map escaped (drop l.name-index l.name-items) ≡ l.initial.text.items ++ flat_map escaped l.name-items
