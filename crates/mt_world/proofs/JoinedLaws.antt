-- Which mounts of rows have their states stays known where one gets its own, and where one stays private.
use Rattle.std.proofs.Common.{◌≡◌, ◌≢◌, ℕ, List, slice_get, Option, Some, None, refl, sym, ap, subst, ◌∙◌, inl, inr}
use Rattle.std.specs.Prelude.{unwrap_or, IfSome}
use Rattle.std.specs.Option.{is_some}
use Rattle.std.proofs.lemmas.Bool.{cases_eq}
use Rattle.std.proofs.lemmas.Option.{same_Some}
use Rattle.mt_mounts.specs.declared.mount.Mount.{Mount}
use Rattle.mt_mounts.specs.Forest.{mount_at}
use Rattle.mt_peers.specs.declared.state.State.{State}
use Rattle.mt_peers.proofs.EntryLaws.{given_state, other_state}
use Rattle.mt_propagate.specs.World.{WorldView, private, state_of}
use Rattle.mt_propagate.specs.WellFormed.{IsWellFormed}
use Rattle.mt_propagate.proofs.ShownLaws.{mount-state}
use Rattle.mt_world.specs.declared.misfit.Misfit.{Misfit}
use Rattle.mt_world.specs.declared.row.TableRow.{TableRow}
use Rattle.mt_world.specs.Kept.{IsSetAt, keeps_row}
use Rattle.mt_world.specs.States.{with_joined, AreThere, AreJoined, IsSameButStates}

-- the states once a mount got one
state_there : (w : WorldView) (i : ℕ) (s : State) (m : Mount) → IsWellFormed w → mount_at w.forest i ≡ Some m → state_of (with_joined w i s) i ≡ s
state_there w i s m h e =
    let t = mount-state w.forest w.peering.peers i m h.same_mounts e in
    ap (λ o. unwrap_or o private) (given_state w.peering.peers i s (ap is_some t.1))

pub state_else : (w : WorldView) (i j : ℕ) (s : State) → j ≢ i → state_of (with_joined w i s) j ≡ state_of w j
state_else w i j s ne = ap (λ o. unwrap_or o private) (other_state i s j w.peering.peers ne)

module _ (w v : WorldView) (rows : List TableRow) (left lone next : List (Option Misfit)) (k : ℕ) (r : TableRow) (a : AreJoined w rows left lone)
    (here : slice_get rows k ≡ Some r) (kept : keeps_row left k) where
  -- another row that is kept has another mount
  elsewhere : (i : ℕ) (x : TableRow) → slice_get rows i ≡ Some x → keeps_row left i → k ≢ i → x.id ≢ r.id
  elsewhere i x e f ne same = ne (sym (a.there.apart i k x r e here f kept same))

  row_is : (i : ℕ) (x : TableRow) → slice_get rows i ≡ Some x → k ≡ i → r ≡ x
  row_is i x e same = same_Some r x (sym here ∙ ap (λ j. slice_get rows j) same ∙ e)

  pub joined_put : v ≡ with_joined w r.id r.state → IsWellFormed v → IsSetAt lone next k None → AreJoined v rows left next
  joined_put made well set = record {
    well_formed = well;
    there = subst (λ u. AreThere u rows left) (sym made) (record { there = a.there.there; apart = a.there.apart });
    sized = set.sized ∙ a.sized;
    joined = λ i x e f o. elim (cases_eq k i) [
      | inl same ↦
          let row = row_is i x e same in
          ap (λ u. state_of u x.id) made ∙ ap (λ (y : TableRow). state_of (with_joined w r.id r.state) y.id) (sym row)
          ∙ state_there w r.id r.state (a.there.there k r here kept).0 a.well_formed (a.there.there k r here kept).1 ∙ ap (λ (y : TableRow). y.state) row
      | inr ne ↦ ap (λ u. state_of u x.id) made ∙ state_else w r.id x.id r.state (elsewhere i x e f ne) ∙ a.joined i x e f (sym (set.others i ne) ∙ o)
    ];
    private = λ i x why e f o. elim (cases_eq k i) [
      | inl same ↦ let z : Some None ≡ Some (Some why) = sym set.here ∙ ap (λ j. slice_get next j) same ∙ o in absurd (cc)
      | inr ne ↦ ap (λ u. state_of u x.id) made ∙ state_else w r.id x.id r.state (elsewhere i x e f ne) ∙ a.private i x why e f (sym (set.others i ne) ∙ o)
    ];
  }

  pub joined_left : (why was : Misfit) → v ≡ w → slice_get lone k ≡ Some (Some was) → IsSetAt lone next k (Some why) → AreJoined v rows left next
  joined_left why was same waits set = subst (λ u. AreJoined u rows left next) (sym same) (record {
    well_formed = a.well_formed;
    there = a.there;
    sized = set.sized ∙ a.sized;
    joined = λ i x e f o. elim (cases_eq k i) [
      | inl at ↦ let z : Some (Some why) ≡ Some None = sym set.here ∙ ap (λ j. slice_get next j) at ∙ o in absurd (cc)
      | inr ne ↦ a.joined i x e f (sym (set.others i ne) ∙ o)
    ];
    private = λ i x y e f o. elim (cases_eq k i) [
      | inl at ↦ ap (λ (z : TableRow). state_of w z.id) (sym (row_is i x e at)) ∙ a.private k r was here kept waits
      | inr ne ↦ a.private i x y e f (sym (set.others i ne) ∙ o)
    ];
  })

  -- whether it got its state or not
  pub joined_end : (was : Misfit) (o : Option Misfit) → (o ≡ None → v ≡ with_joined w r.id r.state) → IfSome o (λ _. v ≡ w) → IsWellFormed v → slice_get lone k ≡ Some (Some was) → IsSetAt lone next k o → AreJoined v rows left next
  joined_end was None made same well waits set = joined_put (made refl) well set
  joined_end was (Some why) made same well waits set = joined_left why was same waits set

-- only states change
pub joined_same : (w v : WorldView) (i : ℕ) (s : State) (o : Option Misfit) → (o ≡ None → v ≡ with_joined w i s) → IfSome o (λ _. v ≡ w) → IsSameButStates w v
joined_same w v i s None made same = subst (IsSameButStates w) (sym (made refl)) refl
joined_same w v i s (Some why) made same = subst (IsSameButStates w) (sym same) refl
