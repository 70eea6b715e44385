use Rattle.std.proofs.Common.{◌≡◌}
use Rattle.mt_import.specs.Reading.{fields_in, no_fields}
use Rattle.mt_import.proofs.read.read_fields.Given as goal

-- the fields so far lead to the same as none did at first
abbrev pub invariant-fields : goal.invariant-fields
invariant-fields l = fields_in l.fields l.words ≡ fields_in no_fields l.initial.words
