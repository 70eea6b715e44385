-- Masters that live, also once a mount has joined or got another state, or many have.
use Rattle.std.proofs.lemmas.Bool.Decides.{nat_tests}
use Rattle.std.proofs.Common.{◌≡◌, ℕ, Bool, true, cond, not, eqb, List, [], ◌∷◌, map, Some, None, refl, sym, ap, ◌∙◌, arith}
use Rattle.std.specs.Option.{option_map, option_map_or}
use Rattle.mt_skel.specs.Keyed.{row_at, put, rises}
use Rattle.mt_skel.proofs.KeyedLaws.{row_at-put, row_at-map}
use Rattle.mt_skel.proofs.ElementLaws.{In, any_in, in_any, in_mapped, row_in}
use Rattle.mt_skel.proofs.MiddleLaws.{and_first}
use Rattle.mt_lists.proofs.RowLaws.{same_of}
use Rattle.mt_peers.specs.declared.state.State.{State}
use Rattle.mt_peers.specs.declared.state.Kind.{Kind}
use Rattle.mt_peers.specs.Peers.{Peer, Peering, mount_of, state_at, with_state, in_group, has_member, names}
use Rattle.mt_peers.specs.Loss.{left}
use Rattle.mt_peers.specs.Making.{made, changed, is_shared}
use Rattle.mt_peers.specs.Listed.{MastersLive}
use Rattle.mt_peers.specs.Few.{gains}
use Rattle.mt_peers.proofs.MemberLaws.{state-in, stated, state-from}
use Rattle.mt_peers.proofs.SettleLaws.{settle-live}

-- a mount joins
has-put : (g : ℕ) (x : Peer) (es : List Peer) → state_at es x.mount ≡ None → has_member es g ≡ true → has_member (put mount_of x es) g ≡ true
has-put g x [] none h = absurd (cc)
has-put g x (y ∷ ys) none h = grind (arith, nat_tests, has-put g x ys)

pub live-put : (x : Peer) (es : List Peer) → state_at es x.mount ≡ None → MastersLive es → option_map_or (has_member (put mount_of x es)) x.state.master true ≡ true → MastersLive (put mount_of x es)
live-put x es none h own = record { lives = λ i s g e is. grind (arith, row_at-put mount_of i x es, λ (f : state_at es i ≡ Some s). has-put g x es none (h.lives i s g f is)) }

-- a state that keeps its master, and its group if it has one
pub gained-master : (s t : State) → gains s t ≡ true → s.master ≡ t.master
gained-master s t h = same_of s.master t.master (sym (ap not (and_first _ _ h)))

gained-group : (s t : State) (g : ℕ) → gains s t ≡ true → names s.group g ≡ true → names t.group g ≡ true
gained-group s t g h is = let same = same_of s.group t.group in grind (arith, same)

pub gains-self : (s : State) → gains s s ≡ true
gains-self s = grind (arith, nat_tests)

pub gains-shared : (k : Kind) (n : ℕ) (s : State) → is_shared k ≡ true → gains s (changed k n s) ≡ true
gains-shared k n s sh = grind (arith, nat_tests)

-- states that change so
module _ (f : Peer → Peer) (same : (e : Peer) → (f e).mount ≡ e.mount) where
  pub has-map : (g : ℕ) (es : List Peer) → ((e : Peer) → In e es → gains e.state (f e).state ≡ true) → has_member es g ≡ true → has_member (map f es) g ≡ true
  has-map g es keep h =
      let m = in_any (in_group g) es h in
      any_in (in_group g) (f m.0) (map f es) (in_mapped f m.0 es m.1) (gained-group m.0.state (f m.0).state g (keep m.0 m.1) m.2)

  pub live-map : (es : List Peer) → ((e : Peer) → In e es → gains e.state (f e).state ≡ true) → MastersLive es → MastersLive (map f es)
  live-map es keep h = record {
    lives = λ i t g e is.
        let y = stated (map f es) i t e in
        let x = state-from f (row_at mount_of i es) y.0 (sym (row_at-map mount_of f same i es) ∙ y.1) in
        let gain = keep x.0 (row_in mount_of i es x.0 x.1) in
        let master = gained-master x.0.state (f x.0).state gain ∙ ap (λ (e : Peer). e.state.master) (sym x.2) ∙ ap (λ (s : State). s.master) (sym y.2) ∙ is in
        has-map g es keep (h.lives i x.0.state g (ap (option_map (λ (e : Peer). e.state)) x.1) master);
  }

-- a mount gets such a state
pub live-given : (i : ℕ) (s : State) (es : List Peer) → rises mount_of es ≡ true → option_map_or (λ u. gains u s) (state_at es i) true ≡ true → MastersLive es → MastersLive (with_state i s es)
live-given i s es up gain h = live-map (λ (e : Peer). record e { state = cond (eqb i e.mount) s e.state }) (λ e. refl) es (λ e at. grind (arith, nat_tests, state-in es e up at, gains-self e.state, gain)) h

-- what all changes leave
pub made-live : (k : Kind) (chosen : ℕ → Bool) (p : Peering) → MastersLive (made k chosen p).peers
unfolding made
made-live k chosen p = settle-live _ _

pub left-live : (gone : ℕ → Bool) (p : Peering) → MastersLive (left gone p).peers
unfolding left
left-live gone p = settle-live _ _
