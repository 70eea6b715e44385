use Rattle.std.proofs.Common.{ap, ◌∙◌, sym}
use Rattle.mt_mounts.specs.ForestView.{with_place}
use Rattle.mt_mounts.proofs.SlotLaws.{rises_table}
use Rattle.mt_mounts.proofs.WrittenLaws.{place_absent}
use Rattle.mt_mounts.proofs.TableLaws.{mount_keyed}
use Rattle.mt_mounts.proofs.TableStepLaws.{mounts_moved, left_absent, table_moved}
use Rattle.mt_mounts.proofs.table.Table.set_place.Goals as goal

pub insert-requires-clause-absent : goal.insert-requires-clause-absent
insert-requires-clause-absent c =
    left_absent _ _ _ _ c.self.invariant c.args.id c.in-Some.slot c.in-Some-get_mut.mount.now
    (sym c.get.ensures.value ∙ sym c.in-Some.ensures) (sym c.in-Some-get_mut.ensures.value) c.remove.new.self c.remove.ensures.rows c.remove.ensures.slots

pub invariant_of-self : goal.invariant_of-self
invariant_of-self c =
    table_moved _ _ _ _ c.self.invariant c.args.id c.in-Some.slot c.in-Some-get_mut.mount.now
    (sym c.get.ensures.value ∙ sym c.in-Some.ensures) (sym c.in-Some-get_mut.ensures.value) c.remove.new.self c.remove.ensures.rows c.remove.ensures.slots
    c.args.place c.insert.new.self c.insert.ensures.rows c.insert.ensures.slots

pub returns-in-Some-get_mut-clause-mounts : goal.returns-in-Some-get_mut-clause-mounts
returns-in-Some-get_mut-clause-mounts c =
    mounts_moved _ _ _ _ c.self.invariant c.args.id c.in-Some.slot c.in-Some-get_mut.mount.now
    (sym c.get.ensures.value ∙ sym c.in-Some.ensures) (sym c.in-Some-get_mut.ensures.value) c.args.place
    ∙ ap (λ t. with_place c.args.id c.args.place t.mounts) c.self.view_is

pub returns-in_default-get_mut-clause-mounts : goal.returns-in_default-get_mut-clause-mounts
returns-in_default-get_mut-clause-mounts c =
    let e = ap (λ t. t.mounts) c.self.view_is in
    place_absent _ (rises_table c.self.inside.slots) c.args.id
    (mount_keyed c.self.inside.slots c.self.inside.keys c.self.invariant.keyed c.args.id _ (sym c.get.ensures.value ∙ sym c.in-Some.ensures) ∙ sym c.in_default-get_mut.ensures.value) c.args.place
    ∙ ap (with_place c.args.id c.args.place) e

pub returns-in_default-clause-mounts : goal.returns-in_default-clause-mounts
returns-in_default-clause-mounts c =
    let e = ap (λ t. t.mounts) c.self.view_is in
    sym e
    ∙ place_absent _ (rises_table c.self.inside.slots) c.args.id
    (mount_keyed c.self.inside.slots c.self.inside.keys c.self.invariant.keyed c.args.id _ (sym c.get.ensures.value ∙ sym c.in_default.ensures)) c.args.place
    ∙ ap (with_place c.args.id c.args.place) e
