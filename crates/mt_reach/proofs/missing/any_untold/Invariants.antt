use Rattle.std.proofs.Common.{◌≡◌, drop}
use Rattle.std.specs.List.{list_any}
use Rattle.mt_reach.specs.Missing.{is_untold}
use Rattle.mt_reach.proofs.missing.any_untold.Given as goal

-- none of those passed is such
abbrev pub invariant-groups : goal.invariant-groups
invariant-groups l = list_any (is_untold l.rows) (drop l.group-index l.groups) ≡ list_any (is_untold l.rows) l.groups
