use Rattle.std.proofs.Common.{◌≡◌, drop}
use Rattle.mt_what_if.specs.Sources.{device_told}
use Rattle.mt_what_if.proofs.sources.device_told.Given as goal

-- no row passed has the source
abbrev pub invariant-rows : goal.invariant-rows
invariant-rows l = device_told l.source (drop l.row-index l.rows) ≡ device_told l.source l.rows
