use Rattle.std.proofs.Common.{◌≡◌, ◌++◌, drop}
use Rattle.std.specs.List.{flat_map}
use Rattle.mt_refused.specs.Listings.{told_line}
use Rattle.mt_refused.proofs.listing.push_lines.Given as goal

-- the lines appended, and those to come
abbrev pub invariant-ids : goal.invariant-ids
invariant-ids l = l.text.items ++ flat_map (told_line l.page) (drop l.id-index l.ids) ≡ l.initial.text.items ++ flat_map (told_line l.page) l.ids
