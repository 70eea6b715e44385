use Rattle.std.proofs.Common.{Some, ap, ◌∙◌, sym}
use Rattle.std.specs.Option.{option_map}
use Rattle.mt_mounts.specs.Forest.{mount_at}
use Rattle.mt_mounts.specs.ForestView.{with_attrs}
use Rattle.mt_mounts.specs.Follow.{given_attrs}
use Rattle.mt_mounts.proofs.TableLaws.{mount_keyed}
use Rattle.mt_mounts.proofs.TableStepLaws.{mounts_attrs, table_attrs}
use Rattle.mt_mounts.proofs.table.Table.renew.Goals as goal

pub invariant_of-self : goal.invariant_of-self
invariant_of-self c =
    table_attrs _ _ _ _ c.self.invariant c.args.mount.id c.in-Some.key c.in-Some-get_mut.here.now
    (sym c.get.ensures.value ∙ sym c.in-Some.ensures) (sym c.in-Some-get_mut.ensures.value) c.args.mount.attrs

pub invariant_of-self-else-stands_as : goal.invariant_of-self-else-stands_as
invariant_of-self-else-stands_as c =
    table_attrs _ _ _ _ c.self.invariant c.args.mount.id c.in-Some.key c.in-Some-get_mut.here.now
    (sym c.get.ensures.value ∙ sym c.in-Some.ensures) (sym c.in-Some-get_mut.ensures.value) c.in-Some-get_mut.here.now.attrs

pub returns-then-stands_as-clause-renewed : goal.returns-then-stands_as-clause-renewed
returns-then-stands_as-clause-renewed c is =
    let i = c.args.mount.id in
    ap (λ t. option_map (given_attrs c.args.mount.attrs) (mount_at t.mounts i)) (sym c.self.view_is)
    ∙ ap (option_map (given_attrs c.args.mount.attrs))
    (mount_keyed c.self.inside.slots c.self.inside.keys c.self.invariant.keyed i _ (sym c.get.ensures.value ∙ sym c.in-Some.ensures)
    ∙ sym c.in-Some-get_mut.ensures.value)
    ∙ ap (λ m. Some m) (c.stands_as.ensures c.if-stands_as.true)

pub returns-then-stands_as-clause-mounts : goal.returns-then-stands_as-clause-mounts
returns-then-stands_as-clause-mounts c =
    let i = c.args.mount.id in
    mounts_attrs _ _ _ _ c.self.invariant i c.in-Some.key c.in-Some-get_mut.here.now
    (sym c.get.ensures.value ∙ sym c.in-Some.ensures) (sym c.in-Some-get_mut.ensures.value) c.args.mount.attrs
    ∙ ap (λ t. with_attrs i c.args.mount.attrs t.mounts) c.self.view_is
