-- A list of the mounts whose rows may differ holds every mount whose row differs.
use Rattle.std.proofs.Common.{◌≡◌, ℕ, true, false, cond, eqb, List, Option, Some, None, refl, sym, ap, ◌∙◌}
use Rattle.std.specs.Option.{option_map}
use Rattle.std.proofs.lemmas.Bool.{or_parts}
use Rattle.mt_skel.specs.Keyed.{row_at, among}
use Rattle.mt_skel.proofs.KeyedLaws.{row_at-key}
use Rattle.mt_mounts.specs.declared.mount.Mount.{Mount}
use Rattle.mt_mounts.specs.Forest.{id_of, mount_at}
use Rattle.mt_propagate.specs.World.{WorldView}
use Rattle.mt_propagate.specs.WellFormed.{IsWellFormed}
use Rattle.mt_propagate.specs.Touched.{IsTouched}
use Rattle.mt_info.specs.Table.{row_id, row_of, table_of}
use Rattle.mt_info.specs.MayDiffer.{may_differ}
use Rattle.mt_info.proofs.KeptRows.{row_kept}
use Rattle.mt_events.specs.Difference.{HoldsChanged}
use Rattle.mt_events.proofs.TouchedLaws.{row_nowhere, row_by_space}

module _ (w v : WorldView) (ids : List ℕ) (h : IsWellFormed w) (g : IsWellFormed v) (same : w.skel ≡ v.skel) (t : IsTouched w v ids) (n i : ℕ) (stays : may_differ w v ids i ≡ false) where
  both : mount_at w.forest i ≡ mount_at v.forest i
  both = t.mounts i (or_parts (among ids i) _ stays).0

  at_row : (o : Option Mount) → mount_at w.forest i ≡ o → row_at row_id i (table_of w n) ≡ row_at row_id i (table_of v n)
  at_row None e = row_nowhere w n i h e ∙ sym (row_nowhere v n i g (sym both ∙ e))
  at_row (Some m) e =
      let key : m.id ≡ i = row_at-key id_of i w.forest m e in
      let later : mount_at v.forest i ≡ Some m = sym both ∙ e in
      let kept = row_kept w v h g same ids t m (ap (mount_at w.forest) key ∙ e) (ap (mount_at v.forest) key ∙ later) (ap (may_differ w v ids) key ∙ stays) in
      row_by_space w n i h m e ∙ elim (eqb m.space n) as (λ b. option_map (row_of w) (cond b (Some m) None) ≡ option_map (row_of v) (cond b (Some m) None)) [ true ↦ ap Some kept | false ↦ refl ] ∙ sym (row_by_space v n i g m later)

-- a list of the mounts whose rows may differ holds every mount whose row differs, in any namespace
pub rows_held : (w v : WorldView) (ids rows : List ℕ) → IsWellFormed w → IsWellFormed v → w.skel ≡ v.skel → IsTouched w v ids
    → ((i : ℕ) → among rows i ≡ may_differ w v ids i) → (n : ℕ) → HoldsChanged (table_of w n) (table_of v n) rows
rows_held w v ids rows h g same t is n i out = at_row w v ids h g same t n i (sym (is i) ∙ out) (mount_at w.forest i) refl
