use Rattle.std.proofs.Common.{Ok, sym, ap, ◌∙◌, subst}
use Rattle.mt_propagate.specs.World.{WorldView, world_view}
use Rattle.mt_unmount.specs.Sliding.{CanGo}
use Rattle.mt_unmount.specs.Detaching.{is_taken}
use Rattle.mt_unmount.proofs.GoingLaws.{taken-can-go}
use Rattle.mt_unmount.proofs.DetachedLaws.{detached-done}
use Rattle.mt_unmount.proofs.FoundLaws.{listed-is}
use Rattle.mt_unmount.proofs.detaching.detach.Goals as goal

pub take_away-requires-clause-can_go : goal.take_away-requires-clause-can_go
take_away-requires-clause-can_go c =
    let w = world_view c.args.world.now in
    let i = c.top-place.result.mount in
    subst (CanGo w) (sym (listed-is (is_taken w i) c.in_ok-gone.gone c.in_ok-gone.ensures.gone))
    (taken-can-go w c.requires.well_formed i (sym c.is_root_mount.ensures ∙ c.if-is_root_mount.false))

pub returns-clause-done : goal.returns-clause-done
returns-clause-done c =
    detached-done (world_view c.args.world.now) c.args.space c.args.path.now c.in_ok-end.end c.top-place.result c.top-place.ensures (sym c.is_tree.ensures ∙ c.if-is_tree.false) (sym c.walk.ensures ∙ c.in_ok-end.was)
    (sym c.is_mount_root.ensures ∙ c.if-not-is_mount_root.false) (sym c.is_root_mount.ensures ∙ c.if-is_root_mount.false) c.in_ok-gone.gone c.in_ok-gone.ensures.gone
    ∙ ap (λ (v : WorldView). Ok v) (sym c.in_ok-take_away.ensures.gone)
