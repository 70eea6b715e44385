use Rattle.std.proofs.Common.{◌≡◌, drop}
use Rattle.std.specs.Option.{option_copied, option_or}
use Rattle.mt_what_if.specs.Unmounts.{last_of_source}
use Rattle.mt_what_if.proofs.unmounts.last_of_source.Given as goal

-- the last one of those to come, or else of those passed
abbrev pub invariant-rows : goal.invariant-rows
invariant-rows l = option_or (last_of_source l.source (drop l.row-index l.rows)) (option_copied l.last) ≡ last_of_source l.source l.rows
