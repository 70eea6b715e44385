use Rattle.std.proofs.Common.{◌≡◌, ◌++◌, ◌∙◌, map, ap, sym, arith, append-nil, subst}
use Rattle.std.proofs.lemmas.List.{drop_all}
use Rattle.mt_skel.specs.Keyed.{rises}
use Rattle.mt_propagate.specs.declared.world.World.{World}
use Rattle.mt_propagate.specs.World.{world_view}
use Rattle.mt_propagate.specs.WellFormed.{IsWellFormed}
use Rattle.mt_reach.specs.Rows.{seen_id}
use Rattle.mt_reach.specs.Seen.{seen_mount, seen_rows}
use Rattle.mt_what_if.proofs.SeenLaws.{mount_there, row_passed, seen_rises}
use Rattle.mt_what_if.proofs.reasons.rows_of.Goals as goal

pub row_seen-requires-clause-well_formed : goal.row_seen-requires-clause-well_formed
row_seen-requires-clause-well_formed c = subst (λ (w : World). IsWellFormed (world_view w)) (sym c.listed.invariant.same) c.requires

pub row_seen-requires-clause-there : goal.row_seen-requires-clause-there
row_seen-requires-clause-there c =
    mount_there c.args.world.now c.listed.seen c.deref-mount-items.result.now c.listed.mount-index _ c.listed.invariant.same c.requires
    (c.deref-mount-items.ensures.value ∙ c.in_ok-mounts.ensures.mounts) c.listed-test.true

pub listed-preserved : goal.listed-preserved
listed-preserved c = record {
  rows =
      row_passed c.args.world.now c.listed.seen c.deref-mount-items.result.now c.listed.mount-index _ c.in_ok-row.row c.in_ok-of.field-0
      c.listed.rows.items c.push.new.self.items _ c.listed.invariant.same c.requires (c.deref-mount-items.ensures.value ∙ c.in_ok-mounts.ensures.mounts)
      c.listed-test.true c.in_ok-row.ensures.row c.in_ok-of.ensures.row c.in_ok-push.ensures.items c.listed.invariant.rows;
  same = c.in_ok-row.ensures.kept ∙ c.listed.invariant.same;
}

pub returns-clause-rising : goal.returns-clause-rising
returns-clause-rising c =
    let w = world_view c.args.world.now in
    let all = c.deref-mount-items.result.now in
    let done : c.listed.rows.items ≡ seen_rows w =
    sym (append-nil c.listed.rows.items)
    ∙ ap (λ t. c.listed.rows.items ++ map (seen_mount w) t) (sym (drop_all c.listed.mount-index all (omega (arith, c.listed-test.false))))
    ∙ c.listed.invariant.rows in
    ap (rises seen_id) done ∙ seen_rises w c.requires
