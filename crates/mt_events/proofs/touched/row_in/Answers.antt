use Rattle.std.proofs.Common.{◌≡◌, ◌∙◌, Some, true, false, eqb, sym, ap, arith}
use Rattle.std.proofs.lemmas.Bool.Decides.{nat_tests}
use Rattle.mt_mounts.specs.Forest.{mount_at}
use Rattle.mt_propagate.specs.World.{world_view}
use Rattle.mt_propagate.specs.declared.world.World.{World}
use Rattle.mt_events.proofs.TouchedLaws.{row_there, row_elsewhere, row_nowhere}
use Rattle.mt_events.proofs.touched.row_in.Goals as goal

pub returns-in_default-clause-row : goal.returns-in_default-clause-row
returns-in_default-clause-row c =
    let same = ap (λ (w : World). mount_at w.forest.mounts c.args.id) (sym c.world.ensures) in
    sym (row_nowhere (world_view c.args.seen.now) c.args.space c.args.id c.requires.well_formed (same ∙ sym c.get.ensures ∙ c.in_default.is))

pub returns-then-mount-space-clause-row : goal.returns-then-mount-space-clause-row
returns-then-mount-space-clause-row c =
    let same = ap (λ (w : World). mount_at w.forest.mounts c.args.id) (sym c.world.ensures) in
    let other : eqb c.in-Some.mount.space c.args.space ≡ false = grind (arith, nat_tests, c.if-mount-space.true) in
    sym (row_elsewhere (world_view c.args.seen.now) c.args.space c.args.id c.requires.well_formed c.in-Some.mount (same ∙ sym c.get.ensures ∙ c.in-Some.is) other)

pub returns-clause-row : goal.returns-clause-row
returns-clause-row c =
    let same = ap (λ (w : World). mount_at w.forest.mounts c.args.id) (sym c.world.ensures) in
    let here : eqb c.in-Some.mount.space c.args.space ≡ true = grind (arith, nat_tests, c.if-mount-space.false) in
    let there = row_there (world_view c.args.seen.now) c.args.space c.args.id c.requires.well_formed c.in-Some.mount (same ∙ sym c.get.ensures ∙ c.in-Some.is) here in
    ap Some c.in_ok-row_seen.ensures.row ∙ sym there
