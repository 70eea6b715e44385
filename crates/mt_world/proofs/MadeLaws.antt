-- What is known of a world that was made of rows.
use Rattle.std.proofs.Common.{◌≡◌, ◌≢◌, ◌⊎◌, ℕ, ◌+◌, ◌<◌, List, [], length, length-append, slice_get, Option, Some, None, refl, sym, ap, subst, ◌∙◌, inl, inr, arith, append-nil}
use Rattle.std.specs.Prelude.{◌≤◌, ◌^◌}
use Rattle.std.proofs.lemmas.Option.{slice_get_within}
use Rattle.mt_skel.specs.Skeleton.{IsSkeleton}
use Rattle.mt_mounts.specs.declared.mount.Mount.{Mount}
use Rattle.mt_mounts.specs.Forest.{mount_at, roots}
use Rattle.mt_propagate.specs.World.{WorldView, state_of}
use Rattle.mt_propagate.specs.WellFormed.{IsWellFormed}
use Rattle.mt_world.specs.declared.misfit.Misfit.{Misfit}
use Rattle.mt_world.specs.declared.row.TableRow.{TableRow}
use Rattle.mt_world.specs.Hidden.{HasMoreHidden}
use Rattle.mt_world.specs.Kept.{keeps_row, IsKeptRow, AreGrown}
use Rattle.mt_world.specs.Leaves.{IsSound, IsGrown}
use Rattle.mt_world.specs.Made.{IsMade}
use Rattle.mt_world.specs.States.{AreThere, ArePrivate, AreJoined, IsSameButStates}
use Rattle.mt_world.specs.Told.{IsMounted}
use Rattle.mt_world.specs.Plain.{IsPlain, HasRoom}
use Rattle.mt_world.proofs.KeptLaws.{grown_on}
use Rattle.mt_world.proofs.PlainLaws.{plain_kept, slice_get_none}
use Rattle.mt_world.proofs.ToldLaws.{still_told}

-- a world in which only states changed has grown
same_grown : (w v : WorldView) → IsSameButStates w v → IsGrown w v
same_grown w v e = record {
  skel = record { more = []; filesystems = ap (λ u. u.skel.filesystems) e; room = ap (λ u. u.skel.room) e; directories = ap (λ u. u.skel.directories) e ∙ sym (append-nil w.skel.directories) };
  mounts = λ i m f. ap (λ u. mount_at u.forest i) e ∙ f;
  count = omega (arith, ap (λ u. length u.forest) e);
  spaces = omega (arith, ap (λ u. length (roots u.forest)) e);
}

module _ (w v : WorldView) (rows : List TableRow) (left : List (Option Misfit)) (g : AreGrown w rows left) (b : HasMoreHidden w.next_space w v) where
  -- each mount of a row that is kept is there, and is private
  pub are_there : AreThere v rows left
  are_there = record {
    there = λ k r e f. let t = g.kept.told k r e f in (t.mount, b.grown.mounts r.id t.mount t.there);
    apart = λ j k r s er es fr fs same.
        let one = g.kept.known j r er fr in
        let other = g.kept.known k s es fs in
        let both : Some j ≡ Some k = sym one ∙ ap g.put same ∙ other in
        cc;
  }

  pub are_private : ArePrivate v rows left
  are_private k r e f = let t = g.kept.told k r e f in b.states r.id t.mount t.there ∙ g.kept.private r.id

  module _ (u : WorldView) (lone : List (Option Misfit)) (sound : IsSound v) (well : IsWellFormed u) (same : IsSameButStates v u) (j : AreJoined u rows left lone) (few : (v.next_mount ≤ 2 ^ 62) × (v.next_space ≡ w.next_space + 1)) where
    told_on : (k : ℕ) (r : TableRow) → slice_get rows k ≡ Some r → keeps_row left k → IsMounted u rows r
    told_on k r e f =
        still_told v u sound.well_formed well (same_grown v u same) rows r (still_told w v g.kept.sound.well_formed sound.well_formed b.grown rows r (g.kept.told k r e f))

    below : (k : ℕ) (r : TableRow) → slice_get rows k ≡ Some r → keeps_row left k → r.space < w.next_space
    below k r e f =
        let t = g.kept.told k r e f in
        let m = g.kept.sound.well_formed.below r.id t.mount t.there in
        omega (arith, m.3, t.shows.space)

    only_on : (i : ℕ) (m : Mount) → mount_at u.forest i ≡ Some m → ((k : ℕ) × IsKeptRow rows left i k) ⊎ ((k : ℕ) (r : TableRow) → slice_get rows k ≡ Some r → keeps_row left k → r.space ≢ m.space)
    only_on i m e = elim (b.more i m (ap (λ x. mount_at x.forest i) (sym same) ∙ e)) [
      | inl old ↦ let k = g.kept.only i m old in inl (k.0, g.kept.found i k.0 k.1)
      | inr new ↦ inr (λ k r er f (s : r.space ≡ m.space). let l = below k r er f in absurd (omega (arith, l, s, new)))
    ]

    pub is_made : IsMade u rows left lone
    is_made = record {
      sound = record { well_formed = well; skel = subst IsSkeleton (ap (λ x. x.skel) (sym same)) sound.skel };
      few = (omega (arith, few.0, ap (λ x. x.next_mount) same), omega (arith, few.1, g.kept.few.1, ap (λ x. x.next_space) same));
      sized = (g.kept.sized, j.sized);
      told = told_on;
      joined = j.joined;
      private = j.private;
      before = w;
      grown = g;
      since = grown_on w v u b.grown (same_grown v u same);
      only = only_on;
    }

-- a plain table is kept whole
module _ (w : WorldView) (rows : List TableRow) (left lone : List (Option Misfit)) (a : IsMade w rows left lone) (p : IsPlain rows) (room : HasRoom w) where
  room_before : HasRoom a.before
  room_before = record {
    filesystems = omega (arith, room.filesystems, a.since.skel.room, ap length a.since.skel.filesystems);
    directories = omega (arith, room.directories, a.since.skel.room, ap length a.since.skel.directories, length-append a.before.skel.directories a.since.skel.more);
    mounts = omega (arith, room.mounts, a.since.skel.room, a.since.count);
    spaces = omega (arith, room.spaces, a.since.skel.room, a.since.spaces);
  }

  state_told : (k : ℕ) (r : TableRow) → slice_get rows k ≡ Some r → keeps_row left k → state_of w r.id ≡ r.state
  state_told k r e f = go (slice_get lone k) refl
    where
      go : (o : Option (Option Misfit)) → slice_get lone k ≡ o → state_of w r.id ≡ r.state
      go None none = absurd (let x = slice_get_within rows k r e in let y = slice_get_none lone k none in omega (arith, x, y, a.sized.1))
      go (Some None) is = a.joined k r e f is
      go (Some (Some why)) is = a.private k r why e f is ∙ sym (p.private k r e)

  pub plain_told : (k : ℕ) (r : TableRow) → slice_get rows k ≡ Some r → keeps_row left k × IsMounted w rows r × (state_of w r.id ≡ r.state)
  plain_told k r e = let f = plain_kept a.before rows left a.grown p room_before k r e in (f, a.told k r e f, state_told k r e f)
