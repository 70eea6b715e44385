-- What comes locked, by the IDs of the mounts that are copied or that move.
use Rattle.std.proofs.Common.{◌≡◌, ℕ, ◌*◌, Bool, true, false, cond, ◌==◌, eqb-true, List, [], ◌∷◌, map, length, Option, Some, None, refl, sym, ap, ◌∙◌}
use Rattle.std.specs.List.{flat_map}
use Rattle.std.specs.Option.{option_map, unwrap_or}
use Rattle.std.proofs.lemmas.List.{length-map}
use Rattle.mt_mounts.specs.declared.mount.Mount.{Mount}
use Rattle.mt_mounts.specs.declared.mount.Place.{Place}
use Rattle.mt_mounts.specs.Forest.{id_of}
use Rattle.mt_propagate.specs.World.{WorldView, space_of}
use Rattle.mt_propagate.specs.Named.{unknown, mount_or_unknown}
use Rattle.mt_propagate.specs.Limits.{too_many_mounts}
use Rattle.mt_propagate.specs.Receivers.{targets}
use Rattle.mt_propagate.specs.Copies.{Source}
use Rattle.mt_propagate.specs.Plans.{top_of, member_of, copied_source}
use Rattle.mt_bind.specs.Opening.{unplaced_top}
use Rattle.mt_guard.specs.Coming.{is_foreign, locks_of_copy, copies_locks, come_locked}

-- no more of a source is asked than its ID and its attributes
module _ (w : WorldView) (foreign : Bool) (top : ℕ) where
  one : (t dir i : ℕ) (b : Bool) → (i == t) ≡ b → locks_of_copy w foreign top (cond b (top_of w t dir) (mount_or_unknown w i)) ≡ locks_of_copy w foreign top (mount_or_unknown w i)
  one t dir i true e = ap (λ k. locks_of_copy w foreign top (mount_or_unknown w k)) (sym (eqb-true i t e))
  one t dir i false e = refl

  pub members_locked : (t dir : ℕ) (ids : List ℕ) → map (locks_of_copy w foreign top) (map (member_of w t dir) ids) ≡ map (locks_of_copy w foreign top) (map (mount_or_unknown w) ids)
  members_locked t dir [] = refl
  members_locked t dir (i ∷ ids) = λ x. one t dir i (i == t) refl x ∷ members_locked t dir ids x

  pub unplaced_locked : (t : ℕ) (ms : List Mount) → map (locks_of_copy w foreign top) (map (unplaced_top t) ms) ≡ map (locks_of_copy w foreign top) ms
  unplaced_locked t [] = refl
  unplaced_locked t (m ∷ ms) = ap (λ ks. locks_of_copy w foreign top m ∷ ks) (unplaced_locked t ms)

module _ (w : WorldView) (here : ℕ) where
  alike : (top : ℕ) (xs ys : List Mount) (ts : List ℕ) → length xs ≡ length ys → ((foreign : Bool) → map (locks_of_copy w foreign top) xs ≡ map (locks_of_copy w foreign top) ys)
      → copies_locks w here top xs ts ≡ copies_locks w here top ys ts
  alike top xs ys ts many rows = λ i. cond (too_many_mounts w (length ts * many i)) [] (flat_map (λ t. rows (is_foreign w here (space_of w t)) i) ts)

  -- what a tree brings that is copied, or that moves itself
  pub come_listed : (t dir : ℕ) (ids : List ℕ) (moved : Bool) (src : Source) → copied_source w t dir ids moved ≡ src → (mount_or_unknown w t).id ≡ t → (p : Place)
      → come_locked w here src p ≡ copies_locks w here t (map (mount_or_unknown w) ids) (cond moved (targets w p) (p.mount ∷ targets w p))
  come_listed t dir ids moved src e there p =
      let ts : List ℕ = cond moved (targets w p) (p.mount ∷ targets w p) in
      ap (λ (s : Source). come_locked w here s p) (sym e)
      ∙ ap (λ k. copies_locks w here k (map (member_of w t dir) ids) ts) there
      ∙ alike t (map (member_of w t dir) ids) (map (mount_or_unknown w) ids) ts (length-map ids (member_of w t dir) ∙ sym (length-map ids (mount_or_unknown w))) (λ foreign. members_locked w foreign t t dir ids)

-- the ID of a root mount, or 0 if there is none
pub root_id : (o : Option Mount) → unwrap_or (option_map id_of o) 0 ≡ (unwrap_or o unknown).id
root_id None = refl
root_id (Some m) = refl
