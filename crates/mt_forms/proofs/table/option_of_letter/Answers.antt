use Rattle.std.proofs.Common.{ap, ◌∙◌}
use Rattle.std.specs.Str.{bytes_eq}
use Rattle.mt_forms.specs.declared.table.OptionRow as table
use Rattle.mt_forms.specs.Lookup.{looked_up}
use Rattle.mt_forms.specs.Tables.{OptionRow, effect_of, option_of_letter}
use Rattle.mt_forms.proofs.TableLaws.{told_looked_up}
use Rattle.mt_forms.proofs.table.option_of_letter.Goals as goal

pub returns : goal.returns
unfolding option_of_letter
returns c =
    c.among_letters.ensures
    ∙ told_looked_up (λ (row : OptionRow). bytes_eq row.0 c.args.letter.now) effect_of (λ (row : table.OptionRow). (row.0.now, row.1.now, row.2, row.3)) _
    ∙ ap (looked_up (λ (row : OptionRow). bytes_eq row.0 c.args.letter.now) effect_of) c.options_of.ensures
