-- The indexes once a mount was written, and what they answer.
use Rattle.std.proofs.Common.{◌≡◌, ℕ, Bool, true, false, cond, List, Option, Some, None, refl, sym, ap, subst, ◌∙◌}
use Rattle.std.specs.Map.{lookup}
use Rattle.std.specs.Option.{IfSome, ForSome, option_map, option_and_then}
use Rattle.std.proofs.lemmas.Option.{same_Some}
use Rattle.indexmap.specs.IndexMap.{get}
use Rattle.mt_skel.specs.Keyed.{rises}
use Rattle.mt_lists.specs.Lists.{listed_number, with_number}
use Rattle.mt_lists.proofs.NumberedLaws.{number-by, same-by}
use Rattle.mt_mounts.specs.declared.mount.Place.{Place}
use Rattle.mt_mounts.specs.declared.mount.Mount.{Mount}
use Rattle.mt_mounts.specs.declared.mount.Attrs.{Attrs}
use Rattle.mt_mounts.specs.declared.indexes.Indexes.{Indexes}
use Rattle.mt_mounts.specs.Forest.{id_of, mount_at, on, is_at, place_eq, root_place}
use Rattle.mt_mounts.specs.Tree.{IsSingle}
use Rattle.mt_mounts.specs.ForestView.{with_attrs}
use Rattle.mt_mounts.specs.Stacks.{IsStacked, IsBare}
use Rattle.mt_mounts.specs.Indexes.{rooted_in, over, IsIndexed}
use Rattle.mt_mounts.proofs.SlotLaws.{mapped}
use Rattle.mt_mounts.proofs.WrittenLaws.{IsWritten, rows_written, attrs_of}
use Rattle.mt_mounts.proofs.PlaceLaws.{passes, alone_at, found_written, found_map}
use Rattle.mt_mounts.proofs.StackLaws.{stacked_same}
use Rattle.mt_mounts.proofs.ForestLaws.{find_row, find_passes}

-- a step to the root of a mount, from where a mount of its ID stands
module _ (ms : List Mount) (r : rises id_of ms ≡ true) (m : Mount) where
  stands : (q : Place) → over ms q ≡ Some (root_place m) → (y : Mount) × (on ms q ≡ Some y) × (mount_at ms m.id ≡ Some y)
  stands q e =
      let y = mapped root_place (on ms q) (root_place m) e in
      (y.0, y.1, ap (mount_at ms) (sym (ap (λ (p : Place). p.mount) y.2)) ∙ find_row (is_at q) ms y.0 r y.1)

  -- there is none where the mount is not there, and from its own place alone where it is
  pub bare : mount_at ms m.id ≡ None → IsBare (root_place m) (over ms)
  bare absent q e = let s = stands q e in absurd (let v : None ≡ Some s.0 = sym absent ∙ s.2 in cc)

  pub stands_once : mount_at ms m.id ≡ Some m → (q : Place) → over ms q ≡ Some (root_place m) → is_at q m ≡ true
  stands_once there q e =
      let s = stands q e in
      subst (λ y. is_at q y ≡ true) (same_Some s.0 m (sym s.2 ∙ there)) (find_passes (is_at q) ms s.0 s.1)

-- of which namespace the mount of an ID is the root mount
pub rooted : (ms : List Mount) (x : Indexes) → rises id_of ms ≡ true → IsIndexed ms x → (i : ℕ) (o : Option Mount) → mount_at ms i ≡ o → listed_number x.roots.rows i ≡ option_and_then rooted_in o
rooted ms x r h i o is = ap (λ l. listed_number l i) h.roots ∙ number-by id_of rooted_in i ms r ∙ ap (option_and_then rooted_in) is

-- a mount was written where its place is free
module _ (ms after : List Mount) (old new : Indexes) (r : rises id_of ms ≡ true) (s : IsSingle ms) (x : IsIndexed ms old) (i : ℕ) (was o : Option Mount) (is : mount_at ms i ≡ was) (w : IsWritten ms i o after)
    (free : IfSome o (λ m. ForSome m.place (λ p. on ms p ≡ None))) where
  stands_now : {A : Type 0} (f : Mount → A) (p : Place) → cond (passes (is_at p) o) (option_map f o) (cond (passes (is_at p) was) None (option_map f (on ms p))) ≡ option_map f (on after p)
  stands_now f p = go (passes (is_at p) o) (passes (is_at p) was) ∙ sym (ap (option_map f) (found_written (is_at p) ms i o after r w (s.places p) (alone_at ms i o free p) was is))
    where
      go : (b c : Bool) → cond b (option_map f o) (cond c None (option_map f (on ms p))) ≡ option_map f (cond b o (cond c None (on ms p)))
      go true c = refl
      go false true = refl
      go false false = refl

  pub indexed_written : ((p : Place) → get place_eq new.places p ≡ cond (passes (is_at p) o) (option_map id_of o) (cond (passes (is_at p) was) None (get place_eq old.places p)))
      → new.roots.rows ≡ with_number i (option_and_then rooted_in o) old.roots.rows
      → IsStacked (λ q. cond (passes (is_at q) o) (option_map root_place o) (cond (passes (is_at q) was) None (over ms q))) new.stacks
      → IsIndexed after new
  indexed_written at ro st = record {
    places = λ p. at p ∙ ap (λ z. cond (passes (is_at p) o) (option_map id_of o) (cond (passes (is_at p) was) None z)) (x.places p) ∙ stands_now id_of p;
    roots = ro ∙ ap (with_number i (option_and_then rooted_in o)) x.roots ∙ sym (rows_written ms i o after w rooted_in r);
    stacked = stacked_same new.stacks _ (over after) (stands_now root_place) st;
  }

-- the same entries and rows
pub indexed_same : (ms : List Mount) (old new : Indexes) → new.places.entries ≡ old.places.entries → new.roots.rows ≡ old.roots.rows → (IsStacked (over ms) old.stacks → IsStacked (over ms) new.stacks) → IsIndexed ms old → IsIndexed ms new
indexed_same ms old new at ro st x = record {
  places = λ p. ap (lookup (place_eq p)) at ∙ x.places p;
  roots = ro ∙ x.roots;
  stacked = st x.stacked;
}

-- other attributes
pub indexed_attrs : (ms : List Mount) (x : Indexes) (i : ℕ) (a : Attrs) → IsIndexed ms x → IsIndexed (with_attrs i a ms) x
indexed_attrs ms x i a h = record {
  places = λ p. h.places p ∙ same id_of p (λ m. refl);
  roots = h.roots ∙ sym (same-by id_of rooted_in (attrs_of i a) ms (λ y. refl) (λ y. refl));
  stacked = stacked_same x.stacks (over ms) (over (with_attrs i a ms)) (λ q. same root_place q (λ m. refl)) h.stacked;
}
  where
    same : {A : Type 0} (f : Mount → A) (p : Place) → ((m : Mount) → f (attrs_of i a m) ≡ f m) → option_map f (on ms p) ≡ option_map f (on (with_attrs i a ms) p)
    same f p k = go (on ms p) ∙ sym (ap (option_map f) (found_map (is_at p) (attrs_of i a) (λ m. refl) ms))
      where
        go : (o : Option Mount) → option_map f o ≡ option_map f (option_map (attrs_of i a) o)
        go None = refl
        go (Some m) = ap (λ z. Some z) (sym (k m))
