use Rattle.std.proofs.Common.{ℕ, ◌&&◌, is_some, rules, ap, ◌∙◌}
use Rattle.std.proofs.lemmas.Fn.{filter_same}
use Rattle.mt_mounts.specs.Forest.{mount_at, root_mount}
use Rattle.mt_locks.specs.declared.mount_locks.MountLocks.{MountLocks}
use Rattle.mt_locks.specs.MountLocks.{locks_some}
use Rattle.mt_locks.specs.Locks.{kept_locks}
use Rattle.mt_locks.proofs.locks.Locks.kept.Goals as goal

-- owners and mounts are filtered one by one
pub returns : goal.returns
returns c =
    let ms = c.args.forest.now.mounts in
    let owners = filter_same _ (λ (o : ℕ × ℕ). is_some (root_mount ms o.0)) _ (λ x b g r. search rules) _ _ c.retain.ensures.filtered in
    let mounts = filter_same _ (λ (k : MountLocks). is_some (mount_at ms k.mount) && locks_some k) _ (λ x b g r. search rules) _ _ c.retain-2.ensures.filtered in
    (λ i. record { owners = owners i; mounts = mounts i }) ∙ ap (kept_locks ms) c.self.view_is
