-- Mounts of a hidden namespace change nothing of those of rows.
use Rattle.std.proofs.Common.{◌≡◌, ℕ, ◌+◌, Option, Some, None, refl, sym, ap, subst, ◌∙◌, inl, inr, arith}
use Rattle.std.specs.Prelude.{unwrap_or, IfSome}
use Rattle.std.specs.Option.{option_map}
use Rattle.std.proofs.lemmas.Bool.{cases_eq}
use Rattle.std.proofs.lemmas.Option.{same_Some}
use Rattle.mt_mounts.specs.declared.mount.Mount.{Mount}
use Rattle.mt_mounts.specs.Forest.{mount_at}
use Rattle.mt_mounts.proofs.SlotLaws.{row_put_here, row_put_later}
use Rattle.mt_peers.specs.declared.state.State.{State}
use Rattle.mt_peers.specs.Peers.{Peer}
use Rattle.mt_propagate.specs.World.{WorldView, private}
use Rattle.mt_propagate.specs.WellFormed.{IsWellFormed}
use Rattle.mt_world.specs.declared.misfit.Misfit.{Misfit}
use Rattle.mt_world.specs.Fitting.{why_unfit}
use Rattle.mt_world.specs.Hidden.{HasMoreHidden, IsHidden}
use Rattle.mt_world.specs.Leaves.{IsSound, with_leaf}
use Rattle.mt_world.specs.States.{with_joined}
use Rattle.mt_world.proofs.DirectoryLaws.{more_same}
use Rattle.mt_world.proofs.FitLaws.{fits}
use Rattle.mt_world.proofs.JoinedLaws.{state_else}
use Rattle.mt_world.proofs.KeptLaws.{grown_on}
use Rattle.mt_world.proofs.LeafLaws.{leaf-grown, no-state, state-same}
use Rattle.mt_world.proofs.RaisedLaws.{raised, raised-kept}

pub beside_on : (n : ℕ) (w v u : WorldView) → HasMoreHidden n w v → HasMoreHidden n v u → HasMoreHidden n w u
beside_on n w v u a b = record {
  grown = grown_on w v u a.grown b.grown;
  states = λ i m e. b.states i m (a.grown.mounts i m e) ∙ a.states i m e;
  numbers = omega (arith, a.numbers, b.numbers);
  more = λ i m e. elim (b.more i m e) [ inl old ↦ a.more i m old | inr new ↦ inr new ];
}

-- a mount with the next number
module _ (w : WorldView) (m : Mount) (sound : IsSound w) (id : m.id ≡ w.next_mount) (fit : why_unfit w m ≡ None) where
  abbrev later : WorldView
  later = raised w w.peering.next (w.next_mount + 1) w.next_space

  pub later_well : IsWellFormed later
  later_well = raised-kept w w.peering.next (w.next_mount + 1) w.next_space sound.well_formed (omega arith) (omega arith) (omega arith)

  pub hidden_beside : HasMoreHidden m.space w (with_leaf later m)
  hidden_beside = record {
    grown = let g = leaf-grown later w.skel m (more_same w.skel) (fits w m fit).absent in record { skel = g.skel; mounts = g.mounts; count = g.count; spaces = g.spaces };
    numbers = omega arith;
    states = λ i x e. state-same w.peering.peers m.id i (no-state w.forest w.peering.peers m.id sound.well_formed.same_mounts (fits w m fit).absent);
    more = λ i x e. elim (cases_eq m.id i) [
      | inl same ↦ inr (ap (λ (y : Mount). y.space) (sym (same_Some m x (sym (row_put_here w.forest m i same) ∙ e))))
      | inr off ↦ inl (sym (row_put_later w.forest m i off) ∙ e)
    ];
  }

  pub hidden_there : IsHidden w (with_leaf later m) m
  hidden_there = record {
    new = (fits w m fit).absent;
    there = row_put_here w.forest m m.id refl;
    private =
        state-same w.peering.peers m.id m.id (no-state w.forest w.peering.peers m.id sound.well_formed.same_mounts (fits w m fit).absent)
        ∙ ap (λ o. unwrap_or (option_map (λ (e : Peer). e.state) o) private) (no-state w.forest w.peering.peers m.id sound.well_formed.same_mounts (fits w m fit).absent);
  }

-- its own state is none of theirs
pub hidden_joined : (n : ℕ) (w v : WorldView) (m : Mount) (s : State) → HasMoreHidden n w v → IsHidden w v m → HasMoreHidden n w (with_joined v m.id s)
hidden_joined n w v m s b h = record {
  grown = record { skel = b.grown.skel; mounts = b.grown.mounts; count = b.grown.count; spaces = b.grown.spaces };
  states = λ i x e. state_else v m.id i s (λ same. let v : None ≡ Some x = sym h.new ∙ ap (mount_at w.forest) (sym same) ∙ e in absurd (cc)) ∙ b.states i x e;
  numbers = b.numbers;
  more = b.more;
}

-- whether it got its state or not
pub hidden_end : (n : ℕ) (w v u : WorldView) (m : Mount) (s : State) (o : Option Misfit) → HasMoreHidden n w v → IsHidden w v m → (o ≡ None → u ≡ with_joined v m.id s) → IfSome o (λ _. u ≡ v) → HasMoreHidden n w u
hidden_end n w v u m s None b h joined same = subst (HasMoreHidden n w) (sym (joined refl)) (hidden_joined n w v m s b h)
hidden_end n w v u m s (Some why) b h joined same = subst (HasMoreHidden n w) (sym same) b

pub spaces_end : (v u : WorldView) (i : ℕ) (s : State) (o : Option Misfit) → (o ≡ None → u ≡ with_joined v i s) → IfSome o (λ _. u ≡ v) → u.next_space ≡ v.next_space
spaces_end v u i s None joined same = ap (λ x. x.next_space) (joined refl)
spaces_end v u i s (Some why) joined same = ap (λ x. x.next_space) same
