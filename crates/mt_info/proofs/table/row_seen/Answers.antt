use Rattle.std.proofs.Common.{◌∙◌, sym, ap}
use Rattle.mt_mounts.specs.Forest.{mount_at}
use Rattle.mt_mounts.proofs.KeptLaws.{mount_fits}
use Rattle.mt_propagate.specs.declared.world.World.{World}
use Rattle.mt_info.proofs.table.row_seen.Goals as goal

-- a mount that is found has the ID that was sought
pub row_of_mount-requires-clause-there : goal.row_of_mount-requires-clause-there
row_of_mount-requires-clause-there c =
    let ms = c.args.seen.now.forest.mounts in
    let found = sym (ap (λ (w : World). mount_at w.forest.mounts c.args.id) c.world.ensures) ∙ sym c.get.ensures ∙ c.unwrap-mount.ensures in
    ap (mount_at ms) (mount_fits ms c.args.id c.unwrap-mount.result found) ∙ found
