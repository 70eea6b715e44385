use Rattle.std.proofs.Common.{◌≡◌, drop}
use Rattle.std.specs.List.{list_any}
use Rattle.mt_reach.specs.Missing.{may_be_above}
use Rattle.mt_reach.proofs.missing.may_be_above_any.Given as goal

-- it is above none of those passed
abbrev pub invariant-missing : goal.invariant-missing
invariant-missing l = list_any (may_be_above l.rows l.group) (drop l.other-index l.missing) ≡ list_any (may_be_above l.rows l.group) l.missing
