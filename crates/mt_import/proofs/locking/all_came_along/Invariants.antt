use Rattle.std.proofs.Common.{◌≡◌, drop}
use Rattle.std.specs.List.{list_all}
use Rattle.mt_import.specs.Locking.{came_as_copy}
use Rattle.mt_import.specs.Plans.{rows_made_from}
use Rattle.mt_import.proofs.locking.all_came_along.Given as goal

-- those that are left decide
abbrev pub invariant-mounts : goal.invariant-mounts
invariant-mounts l =
    list_all (came_as_copy l.first) (rows_made_from l.ways l.number (drop l.number l.mounts))
    ≡ list_all (came_as_copy l.first) (rows_made_from l.ways 0 l.mounts)
