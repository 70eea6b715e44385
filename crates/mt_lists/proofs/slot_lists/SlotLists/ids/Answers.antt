use Rattle.std.proofs.Common.{◌++◌, ap, sym, ◌∙◌}
use Rattle.std.specs.Option.{option_and_then}
use Rattle.mt_lists.specs.Lists.{ids}
use Rattle.mt_lists.specs.SlotLists.{id_in}
use Rattle.mt_lists.proofs.IdLaws.{rising-ids}
use Rattle.mt_lists.proofs.WalkLaws.{rest_from, rest-first, walk-start, walked, walk-member, walk-falls}
use Rattle.mt_lists.proofs.PlaceLaws.{lead-there, of-lead}
use Rattle.mt_lists.proofs.TiedLaws.{walk-slot}
use Rattle.mt_lists.proofs.slot_lists.SlotLists.ids.Goals as goal

pub list-init : goal.list-init
list-init c =
    let xs = ids c.args.self.now.rows c.args.number in
    let is = of-lead (id_in c.args.self.now.slots) c.first-here.result _ c.first-here.ensures.first in
    record {
      there = lead-there (id_in c.args.self.now.slots) c.first-here.result _ c.first-here.ensures.first;
      told = rw (c.in_ok-found.ensures.items, is) (rest-first xs (rising-ids c.args.self.now.rows c.args.number c.first-here.ensures.rising));
      inside = walk-start xs _ is;
    }

pub list-smaller : goal.list-smaller
list-smaller c =
    let at = option_and_then (id_in c.args.self.now.slots) in
    let s = walk-slot c.args.self.now.slots c.args.self.now.rows c.args.number c.in-Some.slot c.in-Some-id.id c.list.here c.after-here.result c.first-here.ensures.rising c.in-Some.is (sym c.id.ensures ∙ c.in-Some-id.is) c.after-here.ensures c.list.invariant.inside in
    walk-falls c.in-Some-id.id (ids c.args.self.now.rows c.args.number) (at c.list.here) (at c.after-here.result) (rising-ids c.args.self.now.rows c.args.number c.first-here.ensures.rising) s.0 s.2 s.1

pub list-preserved : goal.list-preserved
list-preserved c =
    let at = option_and_then (id_in c.args.self.now.slots) in
    let xs = ids c.args.self.now.rows c.args.number in
    let s = walk-slot c.args.self.now.slots c.args.self.now.rows c.args.number c.in-Some.slot c.in-Some-id.id c.list.here c.after-here.result c.first-here.ensures.rising c.in-Some.is (sym c.id.ensures ∙ c.in-Some-id.is) c.after-here.ensures c.list.invariant.inside in
    record {
      there = lead-there (id_in c.args.self.now.slots) c.after-here.result _ c.after-here.ensures;
      told = ap (λ ys. ys ++ rest_from (at c.after-here.result) xs) c.in_ok-push.ensures.items
          ∙ walked c.list.found.items c.in-Some-id.id xs (at c.after-here.result) (rising-ids c.args.self.now.rows c.args.number c.first-here.ensures.rising) s.0 s.1 (ap (λ o. c.list.found.items ++ rest_from o xs) (sym s.2) ∙ c.list.invariant.told);
      inside = walk-member c.in-Some-id.id xs (at c.after-here.result) s.1;
    }
