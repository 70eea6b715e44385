use Rattle.std.proofs.Common.{◌++◌, ◌∙◌, ◌==◌, ap, sym, length}
use Rattle.mt_skel.specs.Escapes.{escaped}
use Rattle.mt_info.proofs.PrintLaws.{path_lies}
use Rattle.mt_info.proofs.print.push_path.Goals as goal

pub returns-clause-text : goal.returns-clause-text
returns-clause-text c =
    let some = sym (ap (λ t. length t == 0) c.text-names.ensures.text) ∙ sym c.is_empty.ensures ∙ c.if-is_empty.false in
    c.in_ok-push_escaped.ensures.text ∙ ap (λ t. c.args.text.now.items ++ escaped t) c.text-names.ensures.text ∙ ap (λ t. c.args.text.now.items ++ t) (path_lies c.args.path.now some)
