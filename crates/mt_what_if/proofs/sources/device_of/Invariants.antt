use Rattle.std.proofs.Common.{◌≡◌, drop}
use Rattle.mt_what_if.specs.Sources.{device_of}
use Rattle.mt_what_if.proofs.sources.device_of.Given as goal

-- no table passed has the source
abbrev pub invariant-tables : goal.invariant-tables
invariant-tables l = device_of l.source (drop l.table-index l.tables) ≡ device_of l.source l.tables
