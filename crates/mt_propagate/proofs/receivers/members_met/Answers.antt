use Rattle.std.proofs.Common.{◌+◌, ◌++◌, [], sym, ap, ◌∙◌, arith, length}
use Rattle.std.specs.List.{filter_map, cons_option}
use Rattle.std.specs.Option.{is_some}
use Rattle.mt_peers.specs.Peers.{members, in_group}
use Rattle.mt_peers.proofs.SortedLaws.{rises-picked}
use Rattle.mt_peers.proofs.ListLaws.{member-group, member-next, walk-some, walk-shorter, walk-picks}
use Rattle.mt_lists.proofs.WalkLaws.{rest_from, rest-first, walk-start, walk-member}
use Rattle.mt_propagate.specs.World.{world_view}
use Rattle.mt_propagate.specs.Targets.{target}
use Rattle.mt_propagate.proofs.receivers.members_met.Goals as goal

pub members-init : goal.members-init
members-init c =
    let es = c.args.world.now.peers.peers in
    let xs = members es c.args.group in
    let whole = ap (λ o. rest_from o xs) c.first_member-next.ensures.first ∙ rest-first xs (rises-picked es (in_group c.args.group) c.requires.rising) in
    record {
      inside = walk-start xs c.first_member-next.result c.first_member-next.ensures.first;
      ids = ap (λ l. c.args.ids.now.items ++ filter_map (target (world_view c.args.world.now) c.args.place) l) whole;
      looks = ap (λ l. c.args.looks.now + length l) whole;
    }

pub member_after-next-requires-clause-grouped : goal.member_after-next-requires-clause-grouped
member_after-next-requires-clause-grouped c =
    let es = c.args.world.now.peers.peers in
    let at = rw c.in-Some.is at c.members.invariant.inside in
    ap is_some (member-group es c.args.group c.in-Some.id c.requires.rising at)

pub member_after-next-requires-clause-few : goal.member_after-next-requires-clause-few
member_after-next-requires-clause-few c =
    let es = c.args.world.now.peers.peers in
    let some = walk-some (members es c.args.group) c.in-Some.id c.members.next (rises-picked es (in_group c.args.group) c.requires.rising) (rw c.in-Some.is at c.members.invariant.inside) c.in-Some.is in
    let looks = c.members.invariant.looks in
    let few = c.requires.few in
    omega (arith, some, looks, few)

pub members-smaller : goal.members-smaller
members-smaller c =
    let es = c.args.world.now.peers.peers in
    let xs = members es c.args.group in
    let at = rw c.in-Some.is at c.members.invariant.inside in
    let next = c.member_after-next.ensures.next ∙ member-next es c.args.group c.in-Some.id c.requires.rising at in
    let less = walk-shorter xs c.in-Some.id c.member_after-next.result (rises-picked es (in_group c.args.group) c.requires.rising) at next in
    let same = ap (λ o. length (rest_from o xs)) c.in-Some.is in
    omega (arith, less, same)

pub members-preserved : goal.members-preserved
members-preserved c =
    let es = c.args.world.now.peers.peers in
    let xs = members es c.args.group in
    let up = rises-picked es (in_group c.args.group) c.requires.rising in
    let at = rw c.in-Some.is at c.members.invariant.inside in
    let next = c.member_after-next.ensures.next ∙ member-next es c.args.group c.in-Some.id c.requires.rising at in
    let less = walk-shorter xs c.in-Some.id c.member_after-next.result up at next in
    let same = ap (λ o. length (rest_from o xs)) c.in-Some.is in
    let f = target (world_view c.args.world.now) c.args.place in
    let looks = c.members.invariant.looks in
    let more = c.member_after-next.ensures.looks in
    record {
      inside = walk-member c.in-Some.id xs c.member_after-next.result next;
      ids =
          walk-picks xs c.in-Some.id c.member_after-next.result up at next f c.members.ids.items c.push_some.new.numbers.items (c.args.ids.now.items ++ filter_map f xs)
          (c.in_ok-push_some.ensures.items ∙ ap (λ o. c.members.ids.items ++ cons_option o []) c.target.ensures)
          (ap (λ o. c.members.ids.items ++ filter_map f (rest_from o xs)) (sym c.in-Some.is) ∙ c.members.invariant.ids);
      looks = omega (arith, less, same, looks, more);
    }
