-- A mount that goes, stays with other attributes, or comes where another forest has it, and the forest after it.
use Rattle.std.proofs.Common.{◌≡◌, ℕ, Bool, true, false, cond, ◌&&◌, eqb, eq-eqb, List, [], ◌∷◌, Some, None, refl, sym, ap, subst, ◌∙◌, inr}
use Rattle.std.specs.List.{find}
use Rattle.std.specs.Option.{ForSome, option_map, option_map_or, is_none}
use Rattle.mt_skel.specs.Keyed.{rises}
use Rattle.mt_lists.specs.Log.{AreAlikeBut}
use Rattle.mt_mounts.specs.declared.mount.Mount.{Mount}
use Rattle.mt_mounts.specs.declared.indexes.Indexes.{Indexes}
use Rattle.mt_mounts.specs.Forest.{id_of, mount_at, on, is_at, is_root, root_mount, place_eq}
use Rattle.mt_mounts.specs.Tree.{AtMostOne, IsSingle}
use Rattle.mt_mounts.specs.ForestView.{with_attrs, without_id}
use Rattle.mt_mounts.specs.Follow.{IsPartOf, given_attrs}
use Rattle.mt_mounts.specs.Indexes.{IsKeptForest}
use Rattle.mt_mounts.proofs.SlotLaws.{none_found}
use Rattle.mt_mounts.proofs.ForestLaws.{find_row, find_passes}
use Rattle.mt_mounts.proofs.WrittenLaws.{IsWritten, without_written, left_written, attrs_written}
use Rattle.mt_mounts.proofs.StackLaws.{place_self}
use Rattle.mt_mounts.proofs.KeptLaws.{mount_fits, forest_attrs, forest_same}

-- a mount that was made another one that differs in attributes alone, or was left
module _ (ms after : List Mount) (m : Mount) where
  pub forest_renewed : (x : Indexes) (since : List Mount) (noted : List ℕ) (then : List Mount) (all : List ℕ) (b : Bool) → after ≡ cond b (with_attrs m.id m.attrs ms) ms → then ≡ after → IsKeptForest ms x since noted
      → IsKeptForest after x then all
  forest_renewed x since noted then all true e t f = forest_attrs ms x since noted f after then all m.id m.attrs e (inr t)
  forest_renewed x since noted then all false e t f = forest_same ms x x since noted f after then all e f.indexed (λ q n. ap (λ l. mount_at l q) (t ∙ e))

  pub renewed_written : rises id_of ms ≡ true → (b : Bool) → after ≡ cond b (with_attrs m.id m.attrs ms) ms → IsWritten ms m.id (cond b (option_map (given_attrs m.attrs) (mount_at ms m.id)) (mount_at ms m.id)) after
  renewed_written r true e = subst (IsWritten ms m.id (option_map (given_attrs m.attrs) (mount_at ms m.id))) (sym e) (attrs_written ms r m.id (mount_at ms m.id) refl m.attrs)
  renewed_written r false e = subst (IsWritten ms m.id (mount_at ms m.id)) (sym e) (left_written ms r m.id (mount_at ms m.id) refl)

-- a mount that was taken away
pub taken_written : (ms after : List Mount) (i : ℕ) → rises id_of ms ≡ true → after ≡ without_id i ms → IsWritten ms i None after
taken_written ms after i r e = subst (IsWritten ms i None) (sym e) (without_written ms r i)

-- a mount under its own ID is the one under an ID under which another forest has it, and so are the others
pub same_under : (os ms : List Mount) (i : ℕ) (m : Mount) → mount_at os i ≡ Some m → mount_at ms m.id ≡ Some m → mount_at ms i ≡ mount_at os i
same_under os ms i m there here = ap (mount_at ms) (sym (mount_fits os i m there)) ∙ here ∙ sym there

pub others_under : (os ms after : List Mount) (i : ℕ) (m : Mount) → mount_at os i ≡ Some m → AreAlikeBut (m.id ∷ []) (mount_at ms) (mount_at after) → AreAlikeBut (i ∷ []) (mount_at ms) (mount_at after)
others_under os ms after i m there a = subst (λ k. AreAlikeBut (k ∷ []) (mount_at ms) (mount_at after)) (mount_fits os i m there) a

-- a mount that another forest has, of which this one is a part, finds its place free
module _ (ms os : List Mount) (i : ℕ) (m : Mount) (r : rises id_of ms ≡ true) (s : IsSingle os) (part : IsPartOf [] (mount_at ms) (mount_at os)) (absent : mount_at ms i ≡ None) (there : mount_at os i ≡ Some m) where
  none_like : (t : Mount → Bool) → AtMostOne t os → t m ≡ true → find t ms ≡ None
  none_like t one h = none_found _ (λ x e.
      let row = find_row t ms x r e in
      let same : x.id ≡ i = one x.id i x m (part x.id refl x row) there (find_passes t ms x e) h in
      let v : None ≡ Some x = sym absent ∙ ap (mount_at ms) (sym same) ∙ row in
      absurd (cc))

  pub is_free : ForSome m.place (λ p. on ms p ≡ None)
  is_free p e = none_like (is_at p) (s.places p) (ap (λ o. option_map_or (place_eq p) o false) e ∙ place_self p)

  pub is_rootless : m.place ≡ None → root_mount ms m.space ≡ None
  is_rootless e = none_like (is_root m.space) (s.roots m.space) (ap (λ o. is_none o && eqb m.space m.space) e ∙ eq-eqb m.space m.space refl)
