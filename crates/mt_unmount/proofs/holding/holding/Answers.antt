use Rattle.std.proofs.Common.{ℕ, List, get_or, ap, ◌∙◌, arith}
use Rattle.std.specs.Prelude.{nat_eq}
use Rattle.std.specs.Option.{option_map_or}
use Rattle.indexmap.specs.IndexSet.{insert_key}
use Rattle.mt_skel.specs.Keyed.{among}
use Rattle.mt_propagate.specs.World.{world_view}
use Rattle.mt_unmount.specs.Holding.{candidate_under}
use Rattle.mt_unmount.proofs.HoldingLaws.{met-start, met-bound, met-next, met-all}
use Rattle.mt_unmount.proofs.holding.holding.Goals as goal

pub holding-init : goal.holding-init
holding-init c =
    met-start (world_view c.args.world.now) c.requires.well_formed c.args.candidates.now c.in_ok-set.set.keys
    (λ j. c.in_ok-set.ensures.same j ∙ ap (λ (l : List ℕ). among l j) (c.deref.ensures.value ∙ c.in_ok-staying.ensures.staying))

pub holding-smaller : goal.holding-smaller
holding-smaller c =
    let w = world_view c.args.world.now in
    let keys = c.holding.set.keys in
    let in_all = c.holding-test.true in
    let len = c.len.ensures.len in
    let bound = met-bound w c.requires.well_formed (among c.args.candidates.now) c.holding.visited keys c.holding.invariant c.len.ensures.unique in
    omega (arith, in_all, len, bound)

pub holding-preserved : goal.holding-preserved
holding-preserved c =
    let w = world_view c.args.world.now in
    let candidate = among c.args.candidates.now in
    let keys = c.holding.set.keys in
    let v = c.holding.visited in
    let more = c.holding-test.true in
    let len = c.len.ensures.len in
    met-next w c.requires.well_formed candidate v keys c.holding.invariant (omega (arith, more, len)) c.add.new.set.keys
    (c.in_ok-add.ensures.keys
    ∙ ap (λ o. option_map_or (insert_key nat_eq keys) o keys) (c.candidate_under-under.ensures ∙ ap (λ (l : List ℕ). candidate_under w candidate (get_or l v 0)) c.as_slice.ensures.keys))

pub returns-clause-holding : goal.returns-clause-holding
returns-clause-holding c =
    let none = c.holding-test.false in
    let len = c.len.ensures.len in
    met-all (world_view c.args.world.now) c.requires.well_formed (among c.args.candidates.now) c.holding.visited c.holding.set.keys c.holding.invariant (omega (arith, none, len))
