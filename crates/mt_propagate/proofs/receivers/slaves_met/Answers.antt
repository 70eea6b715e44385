use Rattle.std.proofs.Common.{◌≡◌, ℕ, suc, ◌+◌, ◌≤◌, ◌++◌, true, [], Option, sym, ap, ◌∙◌, arith, length}
use Rattle.std.specs.List.{filter_map, cons_option}
use Rattle.std.specs.Option.{is_some}
use Rattle.mt_skel.specs.Keyed.{among}
use Rattle.mt_lists.specs.Lists.{above}
use Rattle.mt_peers.specs.Peers.{slaves, has_master}
use Rattle.mt_peers.specs.Members.{group_at}
use Rattle.mt_peers.specs.Entered.{entered, collected_slave}
use Rattle.mt_peers.proofs.SortedLaws.{rises-picked}
use Rattle.mt_peers.proofs.ListLaws.{slave-master, slave-next, walk-some, walk-shorter, walk-picks}
use Rattle.mt_lists.proofs.WalkLaws.{rest_from, rest-first, walk-start, walk-member}
use Rattle.mt_propagate.specs.World.{world_view}
use Rattle.mt_propagate.specs.Targets.{is_target}
use Rattle.mt_propagate.proofs.receivers.slaves_met.Goals as goal
use Rattle.mt_propagate.proofs.receivers.slaves_met.Goals.{In-Some, After-slave_after-own}

pub slaves-init : goal.slaves-init
slaves-init c =
    let es = c.args.world.now.peers.peers in
    let xs = slaves es c.args.master in
    let whole = ap (λ o. rest_from o xs) c.first_slave-next.ensures.first ∙ rest-first xs (rises-picked es (has_master c.args.master) c.requires.rising) in
    record {
      inside = walk-start xs c.first_slave-next.result c.first_slave-next.ensures.first;
      ids = ap (λ l. c.args.ids.now.items ++ filter_map (λ i. collected_slave (is_target (world_view c.args.world.now) c.args.place) c.args.group i (group_at es i)) l) whole;
      groups = ap (λ l. c.args.groups.now.items ++ filter_map (λ i. entered es c.args.group i (group_at es i)) l) whole;
      looks = ap (λ l. c.args.looks.now + length l) whole;
    }

-- the slave that is looked at is one of those left
met : (c : In-Some) → among (slaves c.args.world.now.peers.peers c.args.master) c.in-Some.id ≡ true
met c = rw c.in-Some.is at c.slaves.invariant.inside

left : (c : In-Some) → 1 ≤ length (rest_from c.slaves.next (slaves c.args.world.now.peers.peers c.args.master))
left c =
    let es = c.args.world.now.peers.peers in
    walk-some (slaves es c.args.master) c.in-Some.id c.slaves.next (rises-picked es (has_master c.args.master) c.requires.rising) (met c) c.in-Some.is

-- and after it one less is left
next : (c : After-slave_after-own) → c.slave_after-own.result.1 ≡ above c.in-Some.id (slaves c.args.world.now.peers.peers c.args.master)
next c = c.slave_after-own.ensures.next ∙ slave-next c.args.world.now.peers.peers c.args.master c.in-Some.id c.requires.rising (rw c.in-Some.is at c.slaves.invariant.inside)

less : (c : After-slave_after-own)
    → length (rest_from c.slaves.next (slaves c.args.world.now.peers.peers c.args.master)) ≡ suc (length (rest_from c.slave_after-own.result.1 (slaves c.args.world.now.peers.peers c.args.master)))
less c =
    let es = c.args.world.now.peers.peers in
    let xs = slaves es c.args.master in
    ap (λ o. length (rest_from o xs)) c.in-Some.is
    ∙ walk-shorter xs c.in-Some.id c.slave_after-own.result.1 (rises-picked es (has_master c.args.master) c.requires.rising) (rw c.in-Some.is at c.slaves.invariant.inside) (next c)

pub slave_after-own-requires-clause-led : goal.slave_after-own-requires-clause-led
slave_after-own-requires-clause-led c =
    ap is_some (slave-master c.args.world.now.peers.peers c.args.master c.in-Some.id c.requires.rising (met (goal.at.slave_after-own-requires-clause-led c).In-Some))

pub slave_after-own-requires-clause-few : goal.slave_after-own-requires-clause-few
slave_after-own-requires-clause-few c = let some = left (goal.at.slave_after-own-requires-clause-few c).In-Some in omega (arith, some, c.slaves.invariant.looks, c.requires.few)

pub returns-in_err-push_some-clause-most : goal.returns-in_err-push_some-clause-most
returns-in_err-push_some-clause-most c = let some = left (goal.at.returns-in_err-push_some-clause-most c).In-Some in omega (arith, some, c.slaves.invariant.looks, c.slave_after-own.ensures.looks)

pub returns-in_err-push_some-2-clause-most : goal.returns-in_err-push_some-2-clause-most
returns-in_err-push_some-2-clause-most c = let some = left (goal.at.returns-in_err-push_some-2-clause-most c).In-Some in omega (arith, some, c.slaves.invariant.looks, c.slave_after-own.ensures.looks)

pub slaves-smaller : goal.slaves-smaller
slaves-smaller c = let one = less (goal.at.slaves-smaller c).After-slave_after-own in omega (arith, one)

pub slaves-preserved : goal.slaves-preserved
slaves-preserved c =
    let es = c.args.world.now.peers.peers in
    let xs = slaves es c.args.master in
    let id = c.in-Some.id in
    let up = rises-picked es (has_master c.args.master) c.requires.rising in
    let there = met (goal.at.slaves-preserved c).In-Some in
    let step = (goal.at.slaves-preserved c).After-slave_after-own in
    let one = less step in
    let f : ℕ → Option ℕ = λ i. collected_slave (is_target (world_view c.args.world.now) c.args.place) c.args.group i (group_at es i) in
    let e : ℕ → Option ℕ = λ i. entered es c.args.group i (group_at es i) in
    let got : c.collected.result ≡ f id = c.collected.ensures ∙ ap (λ o. collected_slave (is_target (world_view c.args.world.now) c.args.place) c.args.group id o) c.slave_after-own.ensures.own in
    let new : c.entered.result ≡ e id = c.entered.ensures ∙ ap (λ o. entered es c.args.group id o) c.slave_after-own.ensures.own in
    record {
      inside = walk-member id xs c.slave_after-own.result.1 (next step);
      ids =
          walk-picks xs id c.slave_after-own.result.1 up there (next step) f c.slaves.ids.items c.push_some.new.numbers.items (c.args.ids.now.items ++ filter_map f xs)
          (c.in_ok-push_some.ensures.items ∙ ap (λ o. c.slaves.ids.items ++ cons_option o []) got)
          (ap (λ o. c.slaves.ids.items ++ filter_map f (rest_from o xs)) (sym c.in-Some.is) ∙ c.slaves.invariant.ids);
      groups =
          walk-picks xs id c.slave_after-own.result.1 up there (next step) e c.slaves.groups.items c.push_some-in-Some.new.numbers.items (c.args.groups.now.items ++ filter_map e xs)
          (c.in_ok-push_some-2.ensures.items ∙ ap (λ o. c.slaves.groups.items ++ cons_option o []) new)
          (ap (λ o. c.slaves.groups.items ++ filter_map e (rest_from o xs)) (sym c.in-Some.is) ∙ c.slaves.invariant.groups);
      looks = omega (arith, one, c.slaves.invariant.looks, c.slave_after-own.ensures.looks);
    }
