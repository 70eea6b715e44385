use Rattle.std.proofs.Common.{◌≡◌, ◌∙◌, sym, ap, Some}
use Rattle.std.specs.Prelude.{codes}
use Rattle.std.specs.Option.{option_copied}
use Rattle.mt_strace.specs.Arguments.{value_named}
use Rattle.mt_trace.specs.MountFlags.{attribute_change}
use Rattle.mt_trace.proofs.ChangeLaws.{all_told}
use Rattle.mt_trace.proofs.mount_calls.change_told.Goals as goal

pub returns : goal.returns
returns c =
    let set : value_named (codes "attr_set=") c.args.fields.now ≡ Some c.in-Some.set.now = ap (value_named (codes "attr_set=")) (sym c.again.ensures) ∙ (sym c.value.ensures ∙ ap option_copied c.in-Some.is) in
    let clear : value_named (codes "attr_clr=") c.args.fields.now ≡ Some c.in-Some-value.clear.now = ap (value_named (codes "attr_clr=")) (sym c.again-2.ensures) ∙ (sym c.value-2.ensures ∙ ap option_copied c.in-Some-value.is) in
    let propagation : value_named (codes "propagation=") c.args.fields.now ≡ Some c.in-Some-value-2.propagation.now = ap (value_named (codes "propagation=")) (sym c.again-3.ensures) ∙ (sym c.value-3.ensures ∙ ap option_copied c.in-Some-value-2.is) in
    c.attribute_change.ensures
    ∙ (λ i. attribute_change c.args.flags.now (c.new.ensures i) (c.new-2.ensures i) (c.new-3.ensures i))
    ∙ sym (all_told c.args.flags.now c.args.fields.now _ _ _ set clear propagation)
