use Rattle.std.proofs.Common.{◌≡◌, ◌∙◌, false, Some, sym, subst}
use Rattle.mt_skel.specs.Keyed.{row_at}
use Rattle.mt_mounts.specs.declared.mount.Mount.{Mount}
use Rattle.mt_mounts.specs.Forest.{mount_at}
use Rattle.mt_propagate.specs.declared.world.World.{World}
use Rattle.mt_propagate.specs.World.{world_view}
use Rattle.mt_info.specs.Table.{row_id, row_of, table_of}
use Rattle.mt_info.specs.SameRow.{row_eq}
use Rattle.mt_events.proofs.TouchedLaws.{new_arrived, new_kept, new_changed, new_other}
use Rattle.mt_events.proofs.touched.new_row.Goals as goal

pub returns-in_default-2-clause-row : goal.returns-in_default-2-clause-row
returns-in_default-2-clause-row c =
    let table = λ (w : World). table_of (world_view w) c.args.space in
    sym (new_arrived (table c.args.before.now) (table c.args.after.now) _ _ (sym c.in_ok-row.ensures.row ∙ c.in-Some.is) (sym c.in_ok-old.ensures.row ∙ c.in_default-2.is))

pub returns-then-same-clause-row : goal.returns-then-same-clause-row
returns-then-same-clause-row c =
    let table = λ (w : World). table_of (world_view w) c.args.space in
    sym (new_kept (table c.args.before.now) (table c.args.after.now) _ _ (sym c.in_ok-row.ensures.row ∙ c.in-Some.is) _ (sym c.in_ok-old.ensures.row ∙ c.in-Some-2.is) (sym c.same.ensures ∙ c.if-same.true))

pub returns-clause-row : goal.returns-clause-row
returns-clause-row c =
    let table = λ (w : World). table_of (world_view w) c.args.space in
    sym (new_changed (table c.args.before.now) (table c.args.after.now) _ _ (sym c.in_ok-row.ensures.row ∙ c.in-Some.is) _ (sym c.in_ok-old.ensures.row ∙ c.in-Some-2.is) (sym c.same.ensures ∙ c.if-same.false))

pub returns-then-is_other-clause-row : goal.returns-then-is_other-clause-row
returns-then-is_other-clause-row c =
    let v = c.args.before.now in
    let w = c.args.after.now in
    let at : row_at row_id c.args.id (table_of (world_view w) c.args.space) ≡ Some c.in-Some.row = sym c.in_ok-row.ensures.row ∙ c.in-Some.is in
    let Differ : World → World → Type 0 =
    λ p q. (x y : Mount) → mount_at p.forest.mounts c.args.id ≡ Some x → mount_at q.forest.mounts c.args.id ≡ Some y → row_eq (row_of (world_view p) x) (row_of (world_view q) y) ≡ false in
    let other : Differ v w = subst (λ p. Differ p w) c.world.ensures (subst (Differ c.world.result.now) (c.world-2.ensures ∙ c.in_ok-row.ensures.kept) (c.is_other.ensures.rows c.if-is_other.true)) in
    new_other (world_view v) (world_view w) c.args.space c.args.id c.requires.before c.requires.after c.in-Some.row at other
