-- Where the mounts of a forest stand once one of them was written.
use Rattle.std.proofs.Common.{◌≡◌, ◌≢◌, ℕ, Bool, true, false, cond, ◌&&◌, eqb, eqb-true, List, [], ◌∷◌, map, Option, Some, None, refl, sym, ap, ◌∙◌, inl, inr, arith}
use Rattle.std.specs.List.{find}
use Rattle.std.specs.Option.{IfSome, ForSome, is_none, option_map, option_map_or}
use Rattle.std.proofs.lemmas.Bool.{true≢false}
use Rattle.std.proofs.lemmas.Bool.Decides.{nat_tests}
use Rattle.mt_skel.specs.Keyed.{rises}
use Rattle.mt_mounts.specs.declared.mount.Place.{Place}
use Rattle.mt_mounts.specs.declared.mount.Mount.{Mount}
use Rattle.mt_mounts.specs.Forest.{id_of, mount_at, on, is_at, is_root, root_mount, place_eq}
use Rattle.mt_mounts.specs.Tree.{AtMostOne}
use Rattle.mt_mounts.proofs.SlotLaws.{same_options, none_found, mapped}
use Rattle.mt_mounts.proofs.ForestLaws.{find_row, find_passes, find_none}
use Rattle.mt_mounts.proofs.WrittenLaws.{IsWritten, written_here, written_other, written_cases}

-- two places may be compared in either order, and the test says equality
pub turned_place : (p q : Place) → place_eq p q ≡ place_eq q p
turned_place p q = grind (arith, nat_tests)

pub same_place : (p q : Place) → place_eq p q ≡ true → p ≡ q
same_place p q h =
    let a : p.mount ≡ q.mount = grind (arith, nat_tests) in
    let b : p.dir ≡ q.dir = grind (arith, nat_tests) in
    λ i. record { mount = a i; dir = b i }

-- a mount that is at a place has it
pub placed : (p : Place) (o : Option Place) → option_map_or (place_eq p) o false ≡ true → o ≡ Some p
placed p None e = absurd (cc)
placed p (Some q) e = ap (λ z. Some z) (sym (same_place p q e))

-- a mount, if there is one, passes a test
abbrev pub passes : (Mount → Bool) → Option Mount → Bool
passes t o = option_map_or t o false

passed : (t : Mount → Bool) (o : Option Mount) → passes t o ≡ true → (m : Mount) × (o ≡ Some m) × (t m ≡ true)
passed t None e = absurd (cc)
passed t (Some m) e = (m, refl, e)

-- no mount but that of the ID passes a test that this one passes
abbrev pub IsAlone : (Mount → Bool) → List Mount → ℕ → Option Mount → Type 0
IsAlone t ms i o = (m : Mount) → o ≡ Some m → t m ≡ true → (j : ℕ) (x : Mount) → mount_at ms j ≡ Some x → t x ≡ true → j ≡ i

-- so it is at a place that is free, as the root mount of a namespace that had none, and where it is no other for the test than it was
pub alone_at : (ms : List Mount) (i : ℕ) (o : Option Mount) → IfSome o (λ m. ForSome m.place (λ p. on ms p ≡ None)) → (p : Place) → IsAlone (is_at p) ms i o
alone_at ms i o free p m is at j x g h =
    let f : ForSome m.place (λ p. on ms p ≡ None) = rw is at free in
    absurd (true≢false (sym h ∙ find_none (is_at p) ms (f p (placed p m.place at)) j x g))

pub alone_root : (ms : List Mount) (i : ℕ) (o : Option Mount) → IfSome o (λ m. m.place ≡ None → root_mount ms m.space ≡ None) → (n : ℕ) → IsAlone (is_root n) ms i o
alone_root ms i o free n m is at j x g h = absurd (true≢false (sym h ∙ find_none (is_root n) ms (go m.place (rw is at free) at) j x g))
  where
    go : (q : Option Place) → (q ≡ None → root_mount ms m.space ≡ None) → (is_none q && eqb m.space n) ≡ true → root_mount ms n ≡ None
    go None f e = ap (root_mount ms) (sym (eqb-true m.space n e)) ∙ f refl
    go (Some q) f e = absurd (cc)

pub alone_still : (t : Mount → Bool) (f : Mount → Mount) → ((m : Mount) → t (f m) ≡ t m) → (ms : List Mount) → AtMostOne t ms → (i : ℕ) (o : Option Mount) → mount_at ms i ≡ o → IsAlone t ms i (option_map f o)
alone_still t f same ms one i o is m e at j x g h =
    let was = mapped f o m e in
    one j i x was.0 g (is ∙ was.1) h (sym (same was.0) ∙ ap t was.2 ∙ at)

-- a mount that passes, where at most one does, is the one that is found
found_one : (t : Mount → Bool) (ms : List Mount) → rises id_of ms ≡ true → AtMostOne t ms → (i : ℕ) (m : Mount) → mount_at ms i ≡ Some m → t m ≡ true → find t ms ≡ Some m
found_one t ms r one i m g h = go (find t ms) refl
  where
    go : (o : Option Mount) → find t ms ≡ o → find t ms ≡ Some m
    go None e = absurd (true≢false (sym h ∙ find_none t ms e i m g))
    go (Some x) e = let row = find_row t ms x r e in e ∙ sym row ∙ ap (mount_at ms) (one x.id i x m row g (find_passes t ms x e) h) ∙ g

-- a test that at most one mount passes, once one was written
module _ (t : Mount → Bool) (ms : List Mount) (i : ℕ) (o : Option Mount) (after : List Mount) (r : rises id_of ms ≡ true) (w : IsWritten ms i o after) (one : AtMostOne t ms) (alone : IsAlone t ms i o) where
  pub one_written : AtMostOne t after
  one_written j k a b ga gb ta tb = elim (written_cases ms i o after w j a ga) [
    | inl x ↦ elim (written_cases ms i o after w k b gb) [ inl y ↦ x.0 ∙ sym y.0 | inr y ↦ absurd (y.0 (alone a x.1 ta k b y.1 tb)) ]
    | inr x ↦ elim (written_cases ms i o after w k b gb) [ inl y ↦ absurd (x.0 (alone b y.1 tb j a x.1 ta)) | inr y ↦ one j k a b x.1 y.1 ta tb ]
  ]

  -- what is found now
  pub found_written : (was : Option Mount) → mount_at ms i ≡ was → find t after ≡ cond (passes t o) o (cond (passes t was) None (find t ms))
  found_written was is = go (passes t o) refl (passes t was) refl
    where
      -- a mount that is found was not written, unless that passes
      before : passes t o ≡ false → (x : Mount) → find t after ≡ Some x → (x.id ≢ i) × (mount_at ms x.id ≡ Some x) × (t x ≡ true)
      before e x g = elim (written_cases ms i o after w x.id x (find_row t after x w.rising g)) [
        | inl y ↦ absurd (true≢false (sym (find_passes t after x g) ∙ sym (ap (passes t) y.1) ∙ e))
        | inr y ↦ (y.0, y.1, find_passes t after x g)
      ]

      go : (b : Bool) → passes t o ≡ b → (c : Bool) → passes t was ≡ c → find t after ≡ cond b o (cond c None (find t ms))
      go true e c f =
          let m = passed t o e in
          found_one t after w.rising one_written i m.0 (written_here ms i o after w i refl ∙ m.1) m.2 ∙ sym m.1
      go false e true f = none_found _ (λ x g.
          let b = before e x g in
          let m = passed t was f in
          b.0 (one x.id i x m.0 b.1 (is ∙ m.1) b.2 m.2))
      go false e false f = same_options _ _
          (λ x g. let b = before e x g in found_one t ms r one x.id x b.1 b.2)
          (λ x g.
          let row = find_row t ms x r g in
          let p = find_passes t ms x g in
          let off : x.id ≢ i = λ (s : x.id ≡ i). true≢false (sym p ∙ ap (passes t) (sym row ∙ ap (mount_at ms) s ∙ is) ∙ f) in
          found_one t after w.rising one_written x.id x (written_other ms i o after w x.id off ∙ row) p)

-- a change of what a test does not ask
pub found_map : (t : Mount → Bool) (f : Mount → Mount) → ((x : Mount) → t (f x) ≡ t x) → (ms : List Mount) → find t (map f ms) ≡ option_map f (find t ms)
found_map t f same [] = refl
found_map t f same (x ∷ xs) =
    ap (λ b. cond b (Some (f x)) (find t (map f xs))) (same x)
    ∙ (elim (t x) as (λ b. cond b (Some (f x)) (find t (map f xs)) ≡ option_map f (cond b (Some x) (find t xs))) [ true ↦ refl | false ↦ found_map t f same xs ])
