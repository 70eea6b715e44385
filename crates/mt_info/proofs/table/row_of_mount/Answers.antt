use Rattle.std.proofs.Common.{refl, sym, ap, ◌∙◌}
use Rattle.mt_skel.specs.Skeleton.{filesystem}
use Rattle.mt_peers.specs.declared.state.State.{State}
use Rattle.mt_propagate.specs.declared.world.World.{World}
use Rattle.mt_propagate.specs.World.{world_view}
use Rattle.mt_propagate.specs.FromGroup.{from_group}
use Rattle.mt_info.specs.Table.{row_of, mount_point}
use Rattle.mt_info.proofs.RowPaths.{row_same}
use Rattle.mt_info.proofs.table.row_of_mount.Goals as goal

pub returns-clause-row : goal.returns-clause-row
returns-clause-row c =
    let m = c.args.mount.now in
    let w = c.world-world.result.now in
    let same = c.world-world.ensures in
    let minor = c.fs_of-minor.ensures.fs in
    let state = c.state_of-state.ensures in
    row_same _ (row_of (world_view w) m) refl c.parent_or_itself.ensures minor c.in_ok-path_to.ensures.path
    (c.in_ok-point.ensures.point ∙ ap (λ (v : World). mount_point (world_view v) m.id) (sym same)) refl
    (ap (λ (s : State). s.group) state) (ap (λ (s : State). s.master) state)
    (c.in_ok-from_group.ensures.group ∙ ap (λ (v : World). from_group (world_view v) m.id) (c.in_ok-point.ensures.kept ∙ sym same))
    (ap (λ (s : State). s.unbindable) state)
    (c.in_ok-copy.ensures.copy ∙ c.kind.ensures ∙ ap (λ k. (filesystem w.skel k).kind) minor)
    (c.in_ok-copy-2.ensures.copy ∙ c.source.ensures ∙ ap (λ k. (filesystem w.skel k).source) minor)
    ∙ ap (λ (v : World). row_of (world_view v) m) same
