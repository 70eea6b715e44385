use Rattle.std.proofs.Common.{◌≡◌, ℕ, ◌+◌, ◌≤◌, ◌<◌, ◌==◌, ◌++◌, [], ◌∷◌, sym, ap, subst, ◌∙◌, arith, length, take}
use Rattle.std.specs.List.{filter_map}
use Rattle.mt_peers.specs.Peers.{slaves}
use Rattle.mt_peers.specs.Members.{group_at}
use Rattle.mt_skel.specs.Counted.{count, occ}
use Rattle.mt_peers.specs.Entered.{gets_above, collected_slave, other_at}
use Rattle.mt_skel.proofs.CountLaws.{count-append}
use Rattle.mt_peers.proofs.WorklistLaws.{IsWorklist, led_by, worklist-start}
use Rattle.mt_peers.proofs.VisitLaws.{start-led, start-occ, visit-bound, visit-next, visit-occ, visit-room, visit-led, visited-led, visited-occ}
use Rattle.mt_propagate.specs.World.{world_view}
use Rattle.mt_propagate.specs.Targets.{is_target}
use Rattle.mt_propagate.proofs.receivers.above_met.Goals as goal
use Rattle.mt_propagate.proofs.receivers.above_met.Goals.{After-index-master, After-groups}

pub groups-init : goal.groups-init
groups-init c =
    let es = c.args.world.now.peers.peers in
    let one : c.push.new.self.items ≡ c.args.group ∷ [] = c.in_ok-push.ensures.items ∙ ap (λ l. l ++ c.args.group ∷ []) c.new-groups.ensures.items in
    record {
      work = subst (λ l. IsWorklist es c.args.group [] l) (sym one) (worklist-start es c.args.group);
      ids = λ q. start-occ es (other_at (is_target (world_view c.args.world.now) c.args.place) c.args.group q) (occ q c.args.ids.now.items);
      looks = start-led es c.args.looks.now;
    }

-- the group visited stands in the list
listed : (c : After-index-master) → c.groups.visited < length c.groups.groups.items
listed c = omega (arith, c.groups-test.true, c.len.ensures, c.groups.groups.ok.0)

-- and there is room for the looks at its slaves
room : (c : After-index-master)
    → count (led_by (take c.groups.visited c.groups.groups.items)) c.args.world.now.peers.peers + length (slaves c.args.world.now.peers.peers c.index-master.result.now) ≤ count (gets_above c.args.world.now.peers.peers c.args.group) c.args.world.now.peers.peers
room c =
    let m = c.index-master.result.now in
    visit-room c.args.world.now.peers.peers c.args.group c.groups.visited m m c.groups.groups.items c.requires.rising c.groups.invariant.work (listed c) (sym c.index-master.ensures)

pub slaves_met-requires-clause-few : goal.slaves_met-requires-clause-few
slaves_met-requires-clause-few c =
    let fits = room (goal.at.slaves_met-requires-clause-few c).After-index-master in
    omega (arith, fits, c.groups.invariant.looks, c.requires.few)

pub returns-in_err-slaves_met-clause-most : goal.returns-in_err-slaves_met-clause-most
returns-in_err-slaves_met-clause-most c =
    let fits = room (goal.at.returns-in_err-slaves_met-clause-most c).After-index-master in
    omega (arith, fits, c.groups.invariant.looks, c.slaves_met.ensures.most)

pub groups-smaller : goal.groups-smaller
groups-smaller c =
    let es = c.args.world.now.peers.peers in
    let in_all = listed (goal.at.groups-smaller c).After-index-master in
    let bound = visit-bound es c.args.group c.groups.visited c.groups.groups.items c.groups.invariant.work in
    omega (arith, in_all, bound)

pub groups-preserved : goal.groups-preserved
groups-preserved c =
    let es = c.args.world.now.peers.peers in
    let g = c.args.group in
    let i = c.groups.visited in
    let m = c.index-master.result.now in
    let all = c.groups.groups.items in
    let more = c.slaves_met.new.groups.items in
    let t = is_target (world_view c.args.world.now) c.args.place in
    let in_all = listed (goal.at.groups-preserved c).After-index-master in
    let grown = c.in_ok-slaves_met.ensures.groups in
    let led = visit-led es g i m m all c.requires.rising c.groups.invariant.work in_all (sym c.index-master.ensures) more grown in
    let looks = c.groups.invariant.looks in
    let counted = c.in_ok-slaves_met.ensures.counted in
    let sum : (a b k l n q : ℕ) → a ≡ b + q → b ≡ n + k → l ≡ k + q → a ≡ n + l = λ a b k l n q x y z. omega (arith, x, y, z) in
    record {
      work = visit-next es g i m m all more c.requires.rising c.groups.invariant.work in_all (sym c.index-master.ensures) grown;
      ids = λ q.
          sum _ _ _ _ _ _
          (ap (occ q) c.in_ok-slaves_met.ensures.ids ∙ count-append (λ j. j == q) c.groups.ids.items (filter_map (λ j. collected_slave t g j (group_at es j)) (slaves es m)))
          (c.groups.invariant.ids q) (visit-occ es g i m m all more c.requires.rising c.groups.invariant.work in_all (sym c.index-master.ensures) grown t q);
      looks = omega (arith, led, looks, counted);
    }

-- the list is at its end
ended : (i n len items : ℕ) → n ≤ i → n ≡ len → len ≡ items → items ≤ i
ended i n len items l e f = omega (arith, l, e, f)

pub returns-clause-ids : goal.returns-clause-ids
returns-clause-ids c q =
    let es = c.args.world.now.peers.peers in
    let out = ended _ _ _ _ c.groups-test.false c.len.ensures c.groups.groups.ok.0 in
    c.groups.invariant.ids q
    ∙ ap (λ n. occ q c.args.ids.now.items + n) (visited-occ es c.args.group c.groups.visited c.groups.groups.items c.groups.invariant.work out (is_target (world_view c.args.world.now) c.args.place) q)

-- all slaves were looked at
counted : (c : After-groups) → c.groups.looks ≡ c.args.looks.now + count (gets_above c.args.world.now.peers.peers c.args.group) c.args.world.now.peers.peers
counted c =
    let es = c.args.world.now.peers.peers in
    let out = ended _ _ _ _ c.groups-test.false c.len.ensures c.groups.groups.ok.0 in
    c.groups.invariant.looks ∙ ap (λ n. c.args.looks.now + n) (visited-led es c.args.group c.groups.visited c.groups.groups.items c.groups.invariant.work out)

pub returns-clause-counted : goal.returns-clause-counted
returns-clause-counted c = counted (goal.at.returns-clause-counted c).After-groups

pub returns-clause-most : goal.returns-clause-most
returns-clause-most c = let same = counted (goal.at.returns-clause-most c).After-groups in omega (arith, same)
