use Rattle.std.proofs.Common.{◌≡◌, Some, None, sym, ap, ◌∙◌}
use Rattle.mt_lists.specs.Ties.{id_at}
use Rattle.mt_lists.proofs.PlaceLaws.{up-end, up-below, up-inside, up-smaller}
use Rattle.mt_lists.proofs.tying.sought_up.Goals as goal

pub returns-then-id : goal.returns-then-id
returns-then-id g c n i at m =
    let low = c.walk.invariant.below in
    up-end _ _ c.args.tops.now c.requires.tied c.args.id c.walk.here low n (c.walk.invariant.inside n i low.other at m low.there)
    (λ next j f there. let v : Some c.in-Some.next ≡ Some next = sym c.in-Some.is ∙ c.after_of.ensures ∙ f in let w : c.in-Some.next ≡ next = cc in rw (c.id.ensures j (ap (id_at (g.T.Ties.ties c.args.ties.now)) w ∙ there)) at c.if-id.true)

pub returns : goal.returns
returns g c n i at m =
    let low = c.walk.invariant.below in
    up-end _ _ c.args.tops.now c.requires.tied c.args.id c.walk.here low n (c.walk.invariant.inside n i low.other at m low.there)
    (λ next j f there. absurd (let v : None ≡ Some next = sym c.in_default.is ∙ c.after_of.ensures ∙ f in cc))

pub walk-smaller : goal.walk-smaller
walk-smaller g c =
    up-smaller _ _ c.args.tops.now c.requires.tied c.args.id c.walk.here c.walk.invariant.below c.in-Some.next (sym c.after_of.ensures ∙ c.in-Some.is) (λ i at. rw (c.id.ensures i at) at c.if-id.false)

pub walk-preserved : goal.walk-preserved
walk-preserved g c =
    let low = c.walk.invariant.below in
    record {
      below = up-below _ _ c.args.tops.now c.requires.tied c.args.id c.walk.here low c.in-Some.next (sym c.after_of.ensures ∙ c.in-Some.is) (λ i at. rw (c.id.ensures i at) at c.if-id.false);
      inside = λ n i j at m there. up-inside _ _ c.args.tops.now c.requires.tied c.args.id c.walk.here low c.in-Some.next (sym c.after_of.ensures ∙ c.in-Some.is) n j (c.walk.invariant.inside n i low.other at m low.there) there;
    }
