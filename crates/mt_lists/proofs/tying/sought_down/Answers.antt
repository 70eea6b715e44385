use Rattle.std.proofs.Common.{◌≡◌, Some, sym, ap, ◌∙◌}
use Rattle.std.specs.Option.{option_map}
use Rattle.mt_lists.specs.Lists.{ids}
use Rattle.mt_lists.specs.Ties.{id_at}
use Rattle.mt_lists.proofs.NeighbourLaws.{sought-last}
use Rattle.mt_lists.proofs.IdLaws.{rising-ids}
use Rattle.mt_lists.proofs.PlaceLaws.{down-end, down-smaller, down-next, before-there}
use Rattle.mt_lists.proofs.tying.sought_down.Goals as goal

pub walk-init : goal.walk-init
walk-init g c =
    let rows = g.T.Ties.rows c.args.ties.now in
    record {
      there = c.requires.there;
      sought = λ n e. rw e (sought-last c.args.id (ids rows n) (rising-ids rows n c.requires.tied.rising));
    }

pub returns-then-id : goal.returns-then-id
returns-then-id g c n e =
    let at = id_at (g.T.Ties.ties c.args.ties.now) in
    ap (option_map at) (sym c.in-Some.is)
    ∙ down-end _ _ c.args.tops.now c.requires.tied c.args.id n c.walk.here c.walk.invariant.there (c.walk.invariant.sought n e)
    (λ place i f there. let v : Some c.in-Some.place ≡ Some place = sym c.in-Some.is ∙ f in let w : c.in-Some.place ≡ place = cc in rw (c.id.ensures i (ap at w ∙ there)) at c.if-id.true)

pub walk-smaller : goal.walk-smaller
walk-smaller g c = rw c.before_of-here.ensures (down-smaller _ _ c.args.tops.now c.requires.tied c.walk.here c.in-Some.place c.in-Some.is c.walk.invariant.there)

pub walk-preserved : goal.walk-preserved
walk-preserved g c = rw c.before_of-here.ensures (record {
  there = before-there _ _ c.args.tops.now c.requires.tied c.in-Some.place;
  sought = λ n e. down-next _ _ c.args.tops.now c.requires.tied c.walk.here c.in-Some.place c.in-Some.is c.walk.invariant.there c.args.id n (λ i at. rw (c.id.ensures i at) at c.if-id.false) (c.walk.invariant.sought n e);
})
