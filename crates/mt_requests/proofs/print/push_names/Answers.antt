use Rattle.std.proofs.Common.{◌++◌, ◌∙◌, ◌==◌, ap, sym, length}
use Rattle.mt_requests.specs.Printed.{sent}
use Rattle.mt_requests.proofs.SentWordLaws.{path_lies, root_lies}
use Rattle.mt_requests.proofs.print.push_names.Goals as goal

pub returns : goal.returns
returns c =
    let some = sym (ap (λ t. length t == 0) c.text-names.ensures.text) ∙ sym c.is_empty.ensures ∙ c.if-is_empty.false in
    c.in_ok-push_bytes.ensures ∙ ap (λ t. c.args.line.now.items ++ sent t) (c.text-names.ensures.text ∙ path_lies c.args.path.now some)
