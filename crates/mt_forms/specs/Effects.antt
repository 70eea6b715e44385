-- What an option of a row does.
-- A word with no source is this project's rule.
use Rattle.mt_forms.specs.declared.table.OptionRow.{OptionRow}
use Rattle.mt_forms.specs.declared.table.Effect.{Effect}

-- whether it takes a value, and what it means
abbrev pub effect : OptionRow → Effect
effect row = record { takes = row.2; means = row.3 }
