use Rattle.std.proofs.Common.{◌≡◌, ℕ, ◌≤◌, ◌<◌, ◌++◌, [], ◌∷◌, sym, ap, subst, ◌∙◌, arith}
use Rattle.std.specs.List.{filter_map}
use Rattle.mt_peers.specs.Members.{group_at}
use Rattle.mt_peers.specs.Entered.{entered}
use Rattle.mt_peers.proofs.WorklistLaws.{IsWorklist, worklist-start, worklist-all, worklist-reach}
use Rattle.mt_peers.proofs.VisitLaws.{visit-bound, visit-next}
use Rattle.mt_propagate.proofs.below_groups.groups_below.Goals as goal

pub groups-init : goal.groups-init
groups-init c =
    let es = c.args.world.now.peers.peers in
    let one : c.push.new.self.items ≡ c.args.group ∷ [] = c.in_ok-push.ensures.items ∙ ap (λ l. l ++ c.args.group ∷ []) c.new-groups.ensures.items in
    subst (λ l. IsWorklist es c.args.group [] l) (sym one) (worklist-start es c.args.group)

within : (i n len items : ℕ) → i < n → n ≡ len → len ≡ items → i < items
within i n len items l e f = omega (arith, l, e, f)

pub groups-smaller : goal.groups-smaller
groups-smaller c =
    let es = c.args.world.now.peers.peers in
    let in_all = within _ _ _ _ c.groups-test.true c.len.ensures c.groups.groups.ok.0 in
    let bound = visit-bound es c.args.group c.groups.visited c.groups.groups.items c.groups.invariant in
    omega (arith, in_all, bound)

pub groups-preserved : goal.groups-preserved
groups-preserved c =
    let es = c.args.world.now.peers.peers in
    let m = c.index.result.now in
    let in_all = within _ _ _ _ c.groups-test.true c.len.ensures c.groups.groups.ok.0 in
    let grown = c.in_ok-push_entered.ensures.groups ∙ ap (λ xs. c.groups.groups.items ++ filter_map (λ i. entered es c.args.group i (group_at es i)) xs) (c.deref.ensures.value ∙ c.in_ok-slaves.ensures.slaves) in
    visit-next es c.args.group c.groups.visited m m c.groups.groups.items c.push_entered.new.groups.items c.allocator.ensures.rising c.groups.invariant in_all (sym c.index.ensures) grown

pub returns-clause-groups : goal.returns-clause-groups
returns-clause-groups c h =
    let es = c.args.world.now.peers.peers in
    let ended : (i n len items : ℕ) → n ≤ i → n ≡ len → len ≡ items → items ≤ i = λ i n len items l e f. omega (arith, l, e, f) in
    let out = ended _ _ _ _ c.groups-test.false c.len.ensures c.groups.groups.ok.0 in
    worklist-reach es c.args.group c.groups.groups.items (worklist-all es c.args.group c.groups.visited c.groups.groups.items c.groups.invariant out) h
