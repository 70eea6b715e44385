use Rattle.std.proofs.Common.{List, ℕ, sym, ap, subst, ◌∙◌, ◌≡◌}
use Rattle.std.specs.List.{filter_map}
use Rattle.mt_skel.specs.Keyed.{among}
use Rattle.mt_propagate.specs.World.{world_view}
use Rattle.mt_unmount.specs.Holding.{around, AreHeld}
use Rattle.mt_unmount.proofs.HoldingLaws.{held-are, passed-all}
use Rattle.mt_unmount.proofs.holding.held.Goals as goal

pub returns-clause-held : goal.returns-clause-held
returns-clause-held c =
    let w = world_view c.args.world.now in
    let same : c.loop-id.ids.items ≡ filter_map (around w) c.in_ok-holding.holding.keys =
    passed-all (around w) c.loop-id.ids.items c.as_slice-id-items.result.now c.loop-id.id-index c.loop-id-test.false c.loop-id.invariant ∙ ap (filter_map (around w)) c.as_slice-id-items.ensures.keys in
    subst (λ (l : List ℕ). AreHeld w (among c.args.candidates.now) (among l)) (sym same)
    (held-are w c.requires.well_formed (among c.args.candidates.now) c.in_ok-holding.holding.keys c.in_ok-holding.ensures.holding)
