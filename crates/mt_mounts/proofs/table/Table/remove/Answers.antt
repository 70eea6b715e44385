use Rattle.std.proofs.Common.{ap, ◌∙◌, sym, refl}
use Rattle.mt_mounts.specs.Forest.{mount_at}
use Rattle.mt_mounts.specs.ForestView.{without_id}
use Rattle.mt_mounts.proofs.SlotLaws.{rises_table}
use Rattle.mt_mounts.proofs.WrittenLaws.{without_absent}
use Rattle.mt_mounts.proofs.TableLaws.{mount_keyed}
use Rattle.mt_mounts.proofs.TableStepLaws.{mounts_emptied, table_emptied}
use Rattle.mt_mounts.proofs.table.Table.remove.Goals as goal

pub remove-requires-in-Some-2 : goal.remove-requires-in-Some-2
remove-requires-in-Some-2 c =
    let f = c.self.invariant.keyed.held c.args.id c.in-Some.slot (sym c.swap_remove.ensures.value ∙ c.in-Some.is) in
    rw f.there refl

pub invariant_of-self : goal.invariant_of-self
invariant_of-self c =
    table_emptied _ _ _ _ c.self.invariant c.args.id c.in-Some.slot c.remove-in-Some-2.result (sym c.swap_remove.ensures.value ∙ c.in-Some.is) c.remove-in-Some-2.ensures.value
    c.remove-in-Some-2.new.self c.swap_remove.new.self c.remove-in-Some-2.ensures.updates c.swap_remove.ensures.updates.0
    c.remove.new.self c.remove-in-Some.new.self c.remove-in-Some-2.ensures.capacity
    c.remove.ensures.rows c.remove.ensures.slots c.remove-in-Some.ensures.rows c.remove-in-Some.ensures.slots

pub returns-in-Some-clause-mounts : goal.returns-in-Some-clause-mounts
returns-in-Some-clause-mounts c =
    mounts_emptied _ _ _ _ c.self.invariant c.args.id c.in-Some.slot c.remove-in-Some-2.result (sym c.swap_remove.ensures.value ∙ c.in-Some.is) c.remove-in-Some-2.ensures.value
    c.remove-in-Some-2.new.self c.swap_remove.new.self c.remove-in-Some-2.ensures.updates c.swap_remove.ensures.updates.0
    ∙ ap (λ t. without_id c.args.id t.mounts) c.self.view_is

pub returns-in-Some-clause-mount : goal.returns-in-Some-clause-mount
returns-in-Some-clause-mount c =
    sym (mount_keyed c.self.inside.slots c.self.inside.keys c.self.invariant.keyed c.args.id _ (sym c.swap_remove.ensures.value ∙ c.in-Some.is) ∙ c.remove-in-Some-2.ensures.value)
    ∙ ap (λ t. mount_at t.mounts c.args.id) c.self.view_is

pub returns-clause-mount : goal.returns-clause-mount
returns-clause-mount c =
    sym (mount_keyed c.self.inside.slots c.self.inside.keys c.self.invariant.keyed c.args.id _ (sym c.swap_remove.ensures.value ∙ c.in_default.is))
    ∙ ap (λ t. mount_at t.mounts c.args.id) c.self.view_is

pub returns-clause-mounts : goal.returns-clause-mounts
returns-clause-mounts c =
    let e = ap (λ t. t.mounts) c.self.view_is in
    without_absent _ (rises_table c.self.inside.slots) c.args.id
    (mount_keyed c.self.inside.slots c.self.inside.keys c.self.invariant.keyed c.args.id _ (sym c.swap_remove.ensures.value ∙ c.in_default.is))
    ∙ ap (without_id c.args.id) e
