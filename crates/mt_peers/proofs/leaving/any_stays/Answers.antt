use Rattle.std.proofs.Common.{sym, ap, ◌∙◌}
use Rattle.mt_skel.specs.Keyed.{among}
use Rattle.mt_lists.specs.Lists.{ids}
use Rattle.mt_lists.proofs.IdLaws.{rising-ids}
use Rattle.mt_lists.proofs.WalkLaws.{rest_from, rest-first, walk-start}
use Rattle.mt_peers.specs.Going.{stays}
use Rattle.mt_peers.proofs.GoingLaws.{stays-here, stays-later, stays-inside, stays-smaller}
use Rattle.mt_peers.proofs.leaving.any_stays.Goals as goal

pub list-init : goal.list-init
list-init c =
    let xs = ids c.args.lists.now.rows c.args.group in
    record {
      told = ap (λ o. stays (among c.args.gone.now) (rest_from o xs)) c.first-here.ensures.first ∙ ap (stays (among c.args.gone.now)) (rest-first xs (rising-ids c.args.lists.now.rows c.args.group c.first-here.ensures.rising));
      inside = walk-start xs c.first-here.result c.first-here.ensures.first;
    }

pub list-smaller : goal.list-smaller
list-smaller c = stays-smaller c.args.lists.now.rows c.args.group c.first-here.ensures.rising c.in-Some.id c.list.here c.in-Some.is c.list.invariant.inside c.after-here.result c.after-here.ensures

pub list-preserved : goal.list-preserved
list-preserved c = record {
  told = stays-later c.args.lists.now.rows c.args.group c.first-here.ensures.rising c.in-Some.id c.list.here c.in-Some.is c.list.invariant.inside (among c.args.gone.now) c.list.invariant.told (sym c.has.ensures ∙ c.if-not-has.false) c.after-here.result c.after-here.ensures;
  inside = stays-inside c.args.lists.now.rows c.args.group c.first-here.ensures.rising c.in-Some.id c.list.here c.in-Some.is c.list.invariant.inside c.after-here.result c.after-here.ensures;
}

pub returns-then-not-has : goal.returns-then-not-has
returns-then-not-has c = stays-here c.args.lists.now.rows c.args.group c.first-here.ensures.rising c.in-Some.id c.list.here c.in-Some.is c.list.invariant.inside (among c.args.gone.now) c.list.invariant.told (sym c.has.ensures ∙ c.if-not-has.true)
