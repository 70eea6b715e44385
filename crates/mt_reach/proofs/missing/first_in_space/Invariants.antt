use Rattle.std.proofs.Common.{◌≡◌, drop, find}
use Rattle.mt_reach.specs.Missing.{is_in_space}
use Rattle.mt_reach.proofs.missing.first_in_space.Given as goal

-- none of those passed has a member there
abbrev pub invariant-groups : goal.invariant-groups
invariant-groups l = find (is_in_space l.rows l.space) (drop l.group-index l.groups) ≡ find (is_in_space l.rows l.space) l.groups
