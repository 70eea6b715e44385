-- Propagation targets are the hits that are in no detached tree.
use Rattle.std.proofs.Common.{◌≡◌, ℕ, true, not, ◌==◌, cond, List, [], ◌∷◌, length, refl, sym, ap, ◌∙◌, arith}
use Rattle.std.specs.List.{filter}
use Rattle.std.proofs.lemmas.Bool.Decides.{nat_tests}
use Rattle.mt_skel.specs.Keyed.{among}
use Rattle.mt_skel.proofs.ElementLaws.{In, in_filter}
use Rattle.mt_mounts.specs.declared.mount.Place.{Place}
use Rattle.mt_propagate.specs.World.{WorldView, space_of}
use Rattle.mt_propagate.specs.Receivers.{hits, is_attached, targets}

-- a target is a hit
pub target_hit : (w : WorldView) (p : Place) (t : ℕ) → In t (targets w p) → In t (hits w p)
target_hit w p t e = (in_filter (is_attached w) t (hits w p) e).0

-- where no namespace is a detached tree, all mounts are in none
all_attached : (w : WorldView) (ids : List ℕ) → w.trees ≡ [] → filter (is_attached w) ids ≡ ids
all_attached w [] e = refl
all_attached w (i ∷ ids) e =
    let here : is_attached w i ≡ true = ap (λ (ts : List ℕ). not (among ts (space_of w i))) e in
    ap (λ b. cond b (i ∷ filter (is_attached w) ids) (filter (is_attached w) ids)) here ∙ ap (λ l. i ∷ l) (all_attached w ids e)

pub all_hits : (w : WorldView) (p : Place) → w.trees ≡ [] → targets w p ≡ hits w p
all_hits w p e = all_attached w (hits w p) e

none_listed : (ts : List ℕ) → (length ts == 0) ≡ true → ts ≡ []
none_listed [] e = refl
none_listed (t ∷ ts) e = absurd (grind (arith, nat_tests, e))

pub none_out : (w : WorldView) (ids : List ℕ) → (length w.trees == 0) ≡ true → ids ≡ filter (is_attached w) ids
none_out w ids e = sym (all_attached w ids (none_listed w.trees e))
