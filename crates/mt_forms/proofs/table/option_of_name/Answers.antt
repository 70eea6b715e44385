use Rattle.std.proofs.Common.{ap, ◌∙◌}
use Rattle.std.specs.Str.{bytes_eq}
use Rattle.mt_forms.specs.declared.table.OptionRow as table
use Rattle.mt_forms.specs.Lookup.{looked_up}
use Rattle.mt_forms.specs.Tables.{OptionRow, effect_of, option_of_name}
use Rattle.mt_forms.proofs.TableLaws.{told_looked_up}
use Rattle.mt_forms.proofs.table.option_of_name.Goals as goal

pub returns : goal.returns
unfolding option_of_name
returns c =
    c.among_names.ensures
    ∙ told_looked_up (λ (row : OptionRow). bytes_eq row.1 c.args.name.now) effect_of (λ (row : table.OptionRow). (row.0.now, row.1.now, row.2, row.3)) _
    ∙ ap (looked_up (λ (row : OptionRow). bytes_eq row.1 c.args.name.now) effect_of) c.options_of.ensures
