use Rattle.std.proofs.Common.{◌≡◌, drop}
use Rattle.mt_import.specs.Plans.{stand_on_made}
use Rattle.mt_import.proofs.soundness.stand_on_made.Given as goal

-- those that are left decide
abbrev pub invariant-mounts : goal.invariant-mounts
invariant-mounts l = stand_on_made l.mounts l.ways l.number (drop l.number l.mounts) ≡ stand_on_made l.mounts l.ways 0 l.mounts
