-- The first member of a peer group is one, and where there is none the group has no member.
use Rattle.std.proofs.Common.{◌≡◌, ℕ, true, false, List, [], ◌∷◌, map, Some, None, refl, sym, ap, ◌∙◌, inl, arith}
use Rattle.std.specs.List.{filter, list_any}
use Rattle.std.proofs.lemmas.Option.{same_Some}
use Rattle.mt_lists.specs.Lists.{first}
use Rattle.mt_skel.specs.Keyed.{rises}
use Rattle.mt_skel.proofs.ElementLaws.{In, in_map, in_filter}
use Rattle.mt_mounts.specs.declared.mount.Mount.{Mount}
use Rattle.mt_mounts.specs.Forest.{mount_at}
use Rattle.mt_peers.specs.declared.state.State.{State}
use Rattle.mt_peers.specs.Peers.{Peer, mount_of, state_at, in_group, has_member, members}
use Rattle.mt_peers.proofs.MemberLaws.{named, state-in}
use Rattle.std.specs.Prelude.{unwrap_or}
use Rattle.mt_propagate.specs.World.{WorldView, private, state_of}
use Rattle.mt_propagate.specs.WellFormed.{IsWellFormed, fs_at}
use Rattle.mt_propagate.proofs.ShownLaws.{state-mount}
use Rattle.mt_world.specs.States.{HasMember}

pub first_in : (xs : List ℕ) (i : ℕ) → first xs ≡ Some i → In i xs
first_in [] i e = absurd (cc)
first_in (x ∷ xs) i e = inl (same_Some x i e)

no_member : (es : List Peer) (g : ℕ) → map mount_of (filter (in_group g) es) ≡ [] → list_any (in_group g) es ≡ false
no_member [] g e = refl
no_member (x ∷ es) g e = grind (arith, no_member es g)

-- no member is found where no mount passes
none_in : (xs : List ℕ) → first xs ≡ None → xs ≡ []
none_in [] e = refl
none_in (x ∷ xs) e = absurd (let v : Some x ≡ None = e in cc)

pub none_first : (es : List Peer) (g : ℕ) → first (members es g) ≡ None → has_member es g ≡ false
none_first es g e = no_member es g (none_in (members es g) e)

-- a member that is found has a state, and is there
abbrev pub member_found : (es : List Peer) (g i : ℕ) → rises mount_of es ≡ true → first (members es g) ≡ Some i → (s : State) × (state_at es i ≡ Some s) × (s.group ≡ Some g)
member_found es g i r e =
    let m = in_map mount_of i (filter (in_group g) es) (first_in (members es g) i e) in
    let p = in_filter (in_group g) m.0 es m.1 in
    (m.0.state, ap (state_at es) (sym m.2) ∙ state-in es m.0 r p.0, named m.0.state.group g p.1)

found_there : (w : WorldView) (g i : ℕ) → IsWellFormed w → first (members w.peering.peers g) ≡ Some i → (m : Mount) × (mount_at w.forest i ≡ Some m)
found_there w g i h e =
    let s = member_found w.peering.peers g i h.peering.rising e in
    state-mount w.forest w.peering.peers i s.0 h.same_mounts s.1

-- and shows what is found of it, with the state that it has
pub member_shows : (w : WorldView) (g i fs : ℕ) → IsWellFormed w → first (members w.peering.peers g) ≡ Some i → ((m : Mount) → mount_at w.forest i ≡ Some m → fs_at w i ≡ fs) → (m : HasMember w g fs) × (m.state ≡ state_of w i)
member_shows w g i fs h e shows =
    let s = member_found w.peering.peers g i h.peering.rising e in
    let m = found_there w g i h e in
    (record { mount = i; state = s.0; there = s.1; grouped = s.2; shows = shows m.0 m.1 }, ap (λ o. unwrap_or o private) (sym s.1))
