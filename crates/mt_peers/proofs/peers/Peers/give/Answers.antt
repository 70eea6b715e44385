use Rattle.std.proofs.Common.{◌≡◌, [], ◌∷◌, refl, sym, ap, ◌∙◌, is_some}
use Rattle.std.specs.Vec.{with_items}
use Rattle.std.proofs.lemmas.Bool.{false≢true}
use Rattle.mt_peers.specs.Peers.{PeersView, state_at, with_state}
use Rattle.mt_peers.specs.Entries.{now_peers}
use Rattle.mt_peers.proofs.EntryLaws.{given-written}
use Rattle.mt_lists.proofs.LogLaws.{alike-noted}
use Rattle.mt_peers.proofs.EachLaws.{given-absent}
use Rattle.mt_peers.proofs.ListedLaws.{listed-given}
use Rattle.mt_peers.proofs.SinceLaws.{but_given, kept-is}
use Rattle.mt_peers.proofs.peers.Peers.give.Goals as goal
use Rattle.mt_peers.proofs.peers.Peers.give.Goals.{Else-is_some}

-- the new entries are the states with that one given
is_given : (c : goal.After-add) → now_peers (with_items c.self.inside.entries c.give_state-was.new.entries).items ≡ with_state c.args.id c.args.state (now_peers c.self.inside.entries.items)
is_given c = given-written c.self.inside.entries c.args.id c.args.state _ _ (c.give_state-was.auto.entries ∙ c.deref_mut.ensures.len) c.give_state-was.ensures.entries c.deref_mut.ensures.value

-- and the same where there is none
is_same : (c : Else-is_some) → now_peers (with_items c.self.inside.entries c.give_state-was.new.entries).items ≡ with_state c.args.id c.args.state (now_peers c.self.inside.entries.items)
is_same c = given-written c.self.inside.entries c.args.id c.args.state _ _ (c.give_state-was.auto.entries ∙ c.deref_mut.ensures.len) c.give_state-was.ensures.entries c.deref_mut.ensures.value

pub invariant_of-self : goal.invariant_of-self
invariant_of-self c =
    let es = now_peers c.self.inside.entries.items in
    let there = (λ i. is_some (state_at (now_peers (sym c.deref_mut.ensures.value i)) c.args.id)) ∙ ap is_some (sym c.give_state-was.ensures.was) ∙ sym c.is_some.ensures ∙ c.if-is_some.true in
    kept-is _ _ _ _ _ _ _ _ _ (is_given c) c.set.ensures.rows c.set-then-is_some.ensures.rows (listed-given c.args.id c.args.state es _ _ c.self.invariant.listed there)
    (alike-noted _ (c.args.id ∷ []) _ _ (state_at es) _ c.add.ensures.ids c.self.invariant.known (but_given es c.args.id c.args.state))
    (λ t. absurd (false≢true t))

pub invariant_of-self-else-is_some : goal.invariant_of-self-else-is_some
invariant_of-self-else-is_some c =
    let none = (λ i. is_some (state_at (now_peers (sym c.deref_mut.ensures.value i)) c.args.id)) ∙ ap is_some (sym c.give_state-was.ensures.was) ∙ sym c.is_some.ensures ∙ c.if-is_some.false in
    kept-is _ _ _ _ _ _ _ _ _ (is_same c ∙ given-absent c.args.id c.args.state (now_peers c.self.inside.entries.items) c.self.invariant.listed.rising none) refl refl c.self.invariant.listed c.self.invariant.known
    (λ t. absurd (false≢true t))

pub returns-then-is_some-clause-peers : goal.returns-then-is_some-clause-peers
returns-then-is_some-clause-peers c = is_given c ∙ ap (λ (s : PeersView). with_state c.args.id c.args.state s.peers) c.self.view_is

pub returns-else-is_some-clause-peers : goal.returns-else-is_some-clause-peers
returns-else-is_some-clause-peers c = is_same c ∙ ap (λ (s : PeersView). with_state c.args.id c.args.state s.peers) c.self.view_is
