use Rattle.std.proofs.Common.{None, ap, ◌∙◌, ◌<◌, subst}
use Rattle.mt_skel.specs.Keyed.{put}
use Rattle.mt_lists.specs.Lists.{with_number}
use Rattle.std.specs.Option.{option_map}
use Rattle.std.proofs.Common.{slice_set}
use Rattle.mt_mounts.specs.Forest.{id_of}
use Rattle.mt_mounts.specs.Seats.{parent_of, own_space}
use Rattle.mt_mounts.proofs.SeatLaws.{numbered, vacant_free}
use Rattle.mt_mounts.proofs.TableStepLaws.{mounts_filled, table_filled}
use Rattle.mt_mounts.proofs.table.Table.insert.Goals as goal

pub seat-requires-clause-absent : goal.seat-requires-clause-absent
seat-requires-clause-absent c =
    let e = ap (λ t. t.mounts) c.self.view_is in
    numbered parent_of c.self.inside.slots c.self.inside.children c.self.invariant.children c.args.mount.id None (rw e c.requires.absent)

pub insert-requires-2-clause-free : goal.insert-requires-2-clause-free
insert-requires-2-clause-free c =
    let fits = subst (λ n. c.insert_reserved-slot.result < n) c.insert_reserved-slot.ensures.capacity c.insert_reserved-slot.ensures.key_in_range in
    vacant_free own_space c.self.inside.slots c.self.inside.spaces c.self.invariant.spaces c.insert_reserved-slot.result fits c.insert_reserved-slot.ensures.was_vacant

pub insert-requires-2-clause-absent : goal.insert-requires-2-clause-absent
insert-requires-2-clause-absent c =
    let e = ap (λ t. t.mounts) c.self.view_is in
    numbered own_space c.self.inside.slots c.self.inside.spaces c.self.invariant.spaces c.args.mount.id None (rw e c.requires.absent)

pub invariant_of-self : goal.invariant_of-self
invariant_of-self c =
    let e = ap (λ t. t.mounts) c.self.view_is in
    let fits = subst (λ n. c.insert_reserved-slot.result < n) c.insert_reserved-slot.ensures.capacity c.insert_reserved-slot.ensures.key_in_range in
    table_filled _ _ _ _ c.self.invariant
    c.insert_reserved-slot.new.self c.insert.new.self c.insert_reserved-slot.result c.args.mount
    c.insert_reserved-slot.ensures.was_vacant (rw e c.requires.absent) c.insert_reserved-slot.ensures.updates (let u = rw c.unwrap.ensures at c.insert.ensures.updates in u.0)
    c.seat.new.lists c.insert-2.new.self fits c.insert_reserved-slot.ensures.capacity
    (c.seat.ensures.rows ∙ ap (λ o. with_number c.args.mount.id o c.self.inside.children.rows) c.parent_of.ensures)
    (c.seat.ensures.slots ∙ ap (λ o. slice_set c.self.inside.children.slots c.insert_reserved-slot.result (option_map (λ _. c.args.mount.id) o)) c.parent_of.ensures)
    c.insert-2.ensures.rows c.insert-2.ensures.slots

pub returns-clause-mounts : goal.returns-clause-mounts
returns-clause-mounts c =
    let e = ap (λ t. t.mounts) c.self.view_is in
    mounts_filled _ _ _ _ c.self.invariant
    c.insert_reserved-slot.new.self c.insert.new.self c.insert_reserved-slot.result c.args.mount
    c.insert_reserved-slot.ensures.was_vacant (rw e c.requires.absent) c.insert_reserved-slot.ensures.updates (let u = rw c.unwrap.ensures at c.insert.ensures.updates in u.0)
    ∙ ap (put id_of c.args.mount) e
