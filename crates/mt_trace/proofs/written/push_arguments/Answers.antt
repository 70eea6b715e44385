use Rattle.std.proofs.Common.{ℕ, List, ◌∷◌, ◌++◌, ap, sym, ◌∙◌, append_assoc}
use Rattle.std.specs.List.{flat_map}
use Rattle.std.proofs.lemmas.Result.{on_ok_weaker}
use Rattle.mt_strace.specs.Printed.{arguments_text}
use Rattle.mt_trace.proofs.TextLaws.{arguments_behind}
use Rattle.mt_trace.proofs.written.push_arguments.Goals as goal

pub returns : goal.returns
returns c =
    let start = c.args.text.now.items in
    let first = c.in-Some.first.now in
    let rest = c.next.new.self in
    let behind : List ℕ = flat_map (λ argument. 44 ∷ 32 ∷ argument) rest in
    on_ok_weaker c.push_later.result
    (λ e. e ∙ ap (λ (t : List ℕ). t ++ behind) c.in_ok-extend_from_slice.ensures.items ∙ append_assoc start first behind
    ∙ ap (λ (t : List ℕ). start ++ t) (sym (arguments_behind first rest) ∙ ap arguments_text (sym c.in-Some.ensures.steps ∙ c.again-left.ensures)))
    c.push_later.ensures
