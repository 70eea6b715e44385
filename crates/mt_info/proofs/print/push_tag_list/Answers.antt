use Rattle.std.proofs.Common.{◌++◌, ◌∙◌, ap, drop}
use Rattle.mt_info.specs.RowLine.{tags}
use Rattle.mt_info.specs.Building.{behind}
use Rattle.mt_info.proofs.PrintLaws.{behind_first}
use Rattle.mt_info.proofs.print.push_tag_list.Goals as goal

pub returns-clause-text : goal.returns-clause-text
returns-clause-text c =
    let fields = tags c.args.row.now in
    let printed = c.deref.ensures.value ∙ c.in_ok-push_tags.ensures.text ∙ ap (λ t. t ++ behind 44 fields) c.new-fields.ensures.items in
    c.in_ok-push_behind_first.ensures.text ∙ ap (λ t. c.args.text.now.items ++ t) (ap (λ t. drop 1 t) printed ∙ behind_first 44 fields)
