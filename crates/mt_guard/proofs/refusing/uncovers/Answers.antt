use Rattle.std.proofs.Common.{◌≡◌, sym, ap, ◌∙◌}
use Rattle.std.specs.Prelude.{ℕ, Bool, ◌&&◌, false, not, List}
use Rattle.std.specs.List.{list_any}
use Rattle.std.specs.Option.{option_map_or}
use Rattle.mt_skel.specs.Keyed.{among}
use Rattle.mt_mounts.specs.Forest.{parent}
use Rattle.mt_locks.specs.declared.mount_locks.MountLocks.{MountLocks}
use Rattle.mt_locks.proofs.LockedLaws.{any-locked}
use Rattle.mt_propagate.specs.World.{world_view}
use Rattle.mt_guard.specs.Refusals.{copy_shows}
use Rattle.mt_guard.proofs.refusing.uncovers.Goals as goal

pub returns : goal.returns
returns c =
    let w = world_view c.args.world.now in
    let ids = c.args.copied.now in
    let out = λ (i : ℕ). not (among ids i) && option_map_or (λ on. among ids on && copy_shows w c.args.from on i) (parent w.forest i) false in
    c.leaves_some_out.ensures ∙ ap (λ (ks : List MountLocks). list_any (λ (k : MountLocks). k.place && out k.mount) ks) c.mounts.ensures ∙ sym (any-locked out w.locks.mounts)
