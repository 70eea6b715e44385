use Rattle.std.proofs.Common.{ap, ◌∙◌, sym}
use Rattle.mt_mounts.specs.Forest.{mount_at}
use Rattle.mt_mounts.proofs.TableLaws.{mount_keyed}
use Rattle.mt_mounts.proofs.table.Table.get.Goals as goal

pub returns-in_err-key : goal.returns-in_err-key
returns-in_err-key c =
    c.from_residual.ensures
    ∙ sym (mount_keyed c.self.inside.slots c.self.inside.keys c.self.invariant.keyed c.args.id _ (sym c.get.ensures.value ∙ sym c.in_err-key.ensures))
    ∙ ap (λ t. mount_at t.mounts c.args.id) c.self.view_is

pub returns-in_err-mount : goal.returns-in_err-mount
returns-in_err-mount c =
    c.from_residual-in_err-mount.ensures ∙ c.in_err-mount.ensures
    ∙ sym (mount_keyed c.self.inside.slots c.self.inside.keys c.self.invariant.keyed c.args.id _ (sym c.get.ensures.value ∙ sym c.in_ok-key.ensures))
    ∙ ap (λ t. mount_at t.mounts c.args.id) c.self.view_is

pub returns : goal.returns
returns c =
    c.in_ok-mount.ensures
    ∙ sym (mount_keyed c.self.inside.slots c.self.inside.keys c.self.invariant.keyed c.args.id _ (sym c.get.ensures.value ∙ sym c.in_ok-key.ensures))
    ∙ ap (λ t. mount_at t.mounts c.args.id) c.self.view_is
