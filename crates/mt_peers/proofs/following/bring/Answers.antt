use Rattle.std.proofs.Common.{List, not, sym, ap, ◌∙◌, is_some, nat_eq}
use Rattle.mt_skel.specs.Keyed.{rises}
use Rattle.mt_skel.proofs.KeyedLaws.{rises-put, rises-filter}
use Rattle.mt_peers.specs.declared.entries.Entry.{Entry}
use Rattle.mt_peers.specs.Peers.{Peer, mount_of, state_at}
use Rattle.mt_peers.specs.Entries.{now_peers}
use Rattle.mt_peers.proofs.EntryLaws.{given-written, given_state, rises-given}
use Rattle.mt_peers.proofs.LeavingLaws.{now-filter}
use Rattle.mt_peers.proofs.SinceLaws.{but_put, but_given, put_state, dropped_here, dropped_others}
use Rattle.mt_peers.proofs.following.bring.Goals as goal

pub returns-in_default-clause-here : goal.returns-in_default-clause-here
returns-in_default-clause-here c =
    ap (λ l. state_at l c.args.id) (ap now_peers c.drop_entry.ensures.entries ∙ now-filter (λ i. not (nat_eq c.args.id i)) c.args.entries.now.items)
    ∙ dropped_here (now_peers c.args.entries.now.items) c.args.id c.requires.rising
    ∙ sym c.in_default.is

pub returns-in_default-clause-others : goal.returns-in_default-clause-others
returns-in_default-clause-others c i e =
    dropped_others (now_peers c.args.entries.now.items) c.args.id c.requires.rising i e
    ∙ ap (λ l. state_at l i) (sym (ap now_peers c.drop_entry.ensures.entries ∙ now-filter (λ j. not (nat_eq c.args.id j)) c.args.entries.now.items))

pub returns-in_default-clause-rising : goal.returns-in_default-clause-rising
returns-in_default-clause-rising c =
    ap (rises mount_of) (ap now_peers c.drop_entry.ensures.entries ∙ now-filter (λ j. not (nat_eq c.args.id j)) c.args.entries.now.items)
    ∙ rises-filter mount_of (λ (e : Peer). not (nat_eq c.args.id e.mount)) (now_peers c.args.entries.now.items) c.requires.rising

pub returns-then-is_some-clause-here : goal.returns-then-is_some-clause-here
returns-then-is_some-clause-here c =
    let given = given-written c.args.entries.now c.args.id c.in-Some.state _ _ (c.give_state.auto.entries ∙ c.deref_mut.ensures.len) c.give_state.ensures.entries c.deref_mut.ensures.value in
    let there =
    ap (λ (es : List Entry). is_some (state_at (now_peers es) c.args.id)) (sym c.deref.ensures.value) ∙ ap is_some (sym c.find_state.ensures) ∙ sym c.is_some.ensures
    ∙ c.if-is_some.true in
    ap (λ l. state_at l c.args.id) given ∙ given_state (now_peers c.args.entries.now.items) c.args.id c.in-Some.state there ∙ sym c.in-Some.is

pub returns-then-is_some-clause-others : goal.returns-then-is_some-clause-others
returns-then-is_some-clause-others c i e =
    let given = given-written c.args.entries.now c.args.id c.in-Some.state _ _ (c.give_state.auto.entries ∙ c.deref_mut.ensures.len) c.give_state.ensures.entries c.deref_mut.ensures.value in
    but_given (now_peers c.args.entries.now.items) c.args.id c.in-Some.state i e ∙ ap (λ l. state_at l i) (sym given)

pub returns-then-is_some-clause-rising : goal.returns-then-is_some-clause-rising
returns-then-is_some-clause-rising c =
    let given = given-written c.args.entries.now c.args.id c.in-Some.state _ _ (c.give_state.auto.entries ∙ c.deref_mut.ensures.len) c.give_state.ensures.entries c.deref_mut.ensures.value in
    ap (rises mount_of) given ∙ rises-given c.args.id c.in-Some.state (now_peers c.args.entries.now.items) c.requires.rising

pub returns-else-is_some-clause-here : goal.returns-else-is_some-clause-here
returns-else-is_some-clause-here c =
    ap (λ l. state_at l c.args.id) c.add_entry.ensures.peers ∙ put_state (now_peers c.args.entries.now.items) c.args.id c.in-Some.state ∙ sym c.in-Some.is

pub returns-else-is_some-clause-others : goal.returns-else-is_some-clause-others
returns-else-is_some-clause-others c i e =
    let x : Peer = record { mount = c.args.id; state = c.in-Some.state } in
    but_put (now_peers c.args.entries.now.items) x i e ∙ ap (λ l. state_at l i) (sym c.add_entry.ensures.peers)

pub returns-else-is_some-clause-rising : goal.returns-else-is_some-clause-rising
returns-else-is_some-clause-rising c =
    let x : Peer = record { mount = c.args.id; state = c.in-Some.state } in
    ap (rises mount_of) c.add_entry.ensures.peers ∙ rises-put mount_of x (now_peers c.args.entries.now.items) c.requires.rising
