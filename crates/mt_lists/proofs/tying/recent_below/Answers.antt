use Rattle.std.proofs.Common.{Some, sym, ap, ◌∙◌, ◌≡◌}
use Rattle.std.proofs.lemmas.Bool.{ltb-true}
use Rattle.mt_skel.specs.Keyed.{among}
use Rattle.mt_lists.specs.Lists.{ids}
use Rattle.mt_lists.specs.Ties.{id_of_tie}
use Rattle.mt_lists.proofs.PlaceLaws.{tie-member}
use Rattle.mt_lists.proofs.tying.recent_below.Goals as goal

pub returns-then-tie-number-clause-below : goal.returns-then-tie-number-clause-below
returns-then-tie-number-clause-below g c low = record {
  other = c.in-Some.tie.id;
  there = ap id_of_tie (sym c.tie.ensures ∙ c.in-Some.is);
  below = ltb-true c.in-Some.tie.id c.args.id low;
}

pub returns-then-tie-number-clause-among : goal.returns-then-tie-number-clause-among
returns-then-tie-number-clause-among g c i low at =
    let rows = g.T.Ties.rows c.args.ties.now in
    let there = sym c.tie.ensures ∙ c.in-Some.is in
    let v : Some c.in-Some.tie.id ≡ Some i = sym (ap id_of_tie there) ∙ at in
    let w : c.in-Some.tie.id ≡ i = cc in
    ap (among (ids rows c.args.number)) (sym w) ∙ ap (λ n. among (ids rows n) c.in-Some.tie.id) (sym c.if-tie-number.true) ∙ tie-member _ _ c.args.tops.now c.requires.tied c.args.recent c.in-Some.tie there
