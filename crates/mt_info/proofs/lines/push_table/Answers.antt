use Rattle.std.proofs.Common.{◌∙◌, refl, sym, subst, map, arith}
use Rattle.std.specs.List.{flat_map}
use Rattle.std.proofs.lemmas.Grind.{common_steps}
use Rattle.mt_propagate.specs.declared.world.World.{World}
use Rattle.mt_propagate.specs.World.{world_view}
use Rattle.mt_propagate.specs.WellFormed.{IsWellFormed}
use Rattle.mt_info.specs.RowLine.{whole_line}
use Rattle.mt_info.specs.Table.{row_of}
use Rattle.mt_info.proofs.FrontLaws.{front_same, front_through, front_of_three, passed_all}
use Rattle.mt_info.proofs.TableLaws.{found_in}
use Rattle.mt_info.proofs.lines.push_table.Goals as goal

pub push_line-requires-clause-there : goal.push_line-requires-clause-there
push_line-requires-clause-there c =
    found_in c.args.world.now c.mounts.seen c.deref-mount-items.result.now c.args.space c.mounts.mount-index _ c.mounts.invariant.same c.requires.well_formed
    (c.deref-mount-items.ensures.value ∙ c.in_ok-mounts.ensures.mounts) c.mounts-test.true

pub mounts-preserved : goal.mounts-preserved
mounts-preserved c = record {
  lines = grind (arith, common_steps);
  kept = front_through _ _ _ c.mounts.invariant.kept (front_through _ _ _ c.push_line.ensures.kept (_, c.in_ok-push.ensures.items));
  same = c.push_line.ensures.seen ∙ c.mounts.invariant.same;
}

pub returns-in_err-push_line-clause-kept : goal.returns-in_err-push_line-clause-kept
returns-in_err-push_line-clause-kept c = front_through _ _ _ c.mounts.invariant.kept c.push_line.ensures.kept

pub push_line-requires-clause-well_formed : goal.push_line-requires-clause-well_formed
push_line-requires-clause-well_formed c = subst (λ (w : World). IsWellFormed (world_view w)) (sym c.mounts.invariant.same) c.requires.well_formed

pub returns-in_err-push-clause-kept : goal.returns-in_err-push-clause-kept
returns-in_err-push-clause-kept c = front_of_three _ _ _ _ c.mounts.invariant.kept c.push_line.ensures.kept (front_same _ _ c.in_err-push.ensures.items)

pub returns-clause-lines : goal.returns-clause-lines
returns-clause-lines c = passed_all (λ ms. flat_map whole_line (map (row_of (world_view c.args.world.now)) ms)) c.deref-mount-items.result.now c.mounts.mount-index _ _ refl (omega (arith, c.mounts-test.false)) c.mounts.invariant.lines

pub returns-clause-kept : goal.returns-clause-kept
returns-clause-kept c = c.mounts.invariant.kept
