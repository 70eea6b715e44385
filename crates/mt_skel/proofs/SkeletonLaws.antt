-- What the numbers of directories say, and one directory or filesystem more.
use Rattle.std.proofs.Common.{◌≡◌, ◌≢◌, ℕ, zero, suc, ◌+◌, ◌<◌, ◌≤◌, Bool, true, false, ◌&&◌, eqb, List, [], ◌∷◌, ◌++◌, length, drop, Option, Some, None, slice_get, Decides, refl, sym, ap, ◌∙◌, inl, inr, arith, length-append, append_assoc, append-nil}
use Rattle.std.specs.List.{position_from, starts_with}
use Rattle.std.specs.Str.{bytes_eq}
use Rattle.std.proofs.lemmas.Bool.{cases_lt, false_from_ne_true, true≢false, ltb-true}
use Rattle.std.proofs.lemmas.Bool.Decides.{nat_tests, Decides-eqb, Decides-and, Decides-like, Decides-ltb, same_from_decides}
use Rattle.std.proofs.lemmas.Slice.Eq.{slice_eq-Decides, bytes_eq-Decides, starts_is}
use Rattle.std.proofs.lemmas.Option.{slice_get_within, get_or_from_slice_get, slice_get-get_or}
use Rattle.std.proofs.lemmas.List.{same_from_push, get_or_past}
use Rattle.mt_skel.proofs.ListLaws.{snoc_some, front_empty, last_of, pushed, kept, last_place}
use Rattle.mt_skel.specs.Skeleton.{Skeleton, Directory, Filesystem, path_eq, directory_eq, is_directory, is_filesystem, directory, fs_named, directory_number, child, holds, room_limit, skel_room, with_fs, with_dir, IsSkeleton}

-- the first place where a test passes
module _ {X : Type 0} (p : X → Bool) where
  pub place_found : (xs : List X) (k i : ℕ) → position_from p k xs ≡ Some i → (j : ℕ) × (x : X) × (i ≡ k + j) × (slice_get xs j ≡ Some x) × (p x ≡ true)
  place_found [] k i e = absurd (cc)
  place_found (x ∷ xs) k i e = by (p x) refl (place_found xs (k + 1) i)
    where
      by : (b : Bool) → p x ≡ b → (position_from p (k + 1) xs ≡ Some i → (j : ℕ) × (y : X) × (i ≡ k + 1 + j) × (slice_get xs j ≡ Some y) × (p y ≡ true))
          → (j : ℕ) × (y : X) × (i ≡ k + j) × (slice_get (x ∷ xs) j ≡ Some y) × (p y ≡ true)
      by true t ih = (zero, x, grind arith, refl, t)
      by false f ih = let h = ih (grind arith) in (suc h.0, h.1, omega (arith, h.2), h.3, h.4)

  pub place_first : (xs : List X) (k i n : ℕ) (x : X) → slice_get xs i ≡ Some x → p x ≡ true → ((j : ℕ) (y : X) → slice_get xs j ≡ Some y → p y ≡ true → j ≡ i) → n ≡ k + i → position_from p k xs ≡ Some n
  place_first [] k i n x e t one m = absurd (omega (arith, slice_get_within [] i x e))
  place_first (y ∷ xs) k zero n x e t one m = grind arith
  place_first (y ∷ xs) k (suc i) n x e t one m =
      grind (arith, one zero y refl, place_first xs (k + 1) i n x e t (λ j z f h. let s = one (suc j) z f h in omega arith) (omega arith))

  pub no_place : (xs : List X) (k : ℕ) → position_from p k xs ≡ None → (j : ℕ) (y : X) → slice_get xs j ≡ Some y → p y ≡ false
  no_place [] k e j y at = absurd (omega (arith, slice_get_within [] j y at))
  no_place (x ∷ xs) k e zero y at = grind arith
  no_place (x ∷ xs) k e (suc j) y at = no_place xs (k + 1) (grind arith) j y at

-- the test of paths says equality
pub path_eq-Decides : (xs ys : List (List ℕ)) → Decides (path_eq xs ys) (xs ≡ ys)
path_eq-Decides xs ys = slice_eq-Decides bytes_eq-Decides xs ys (path_eq xs ys) refl

-- the tests say equality
pub directory_eq-Decides : (d e : Directory) → Decides (directory_eq d e) (d ≡ e)
directory_eq-Decides d e =
    Decides-like (directory_eq d e) (λ h i. record { fs = h.0 i; path = h.1 i }) (λ h. (ap (λ x. x.fs) h, ap (λ x. x.path) h)) (Decides-and (eqb d.fs e.fs) (path_eq d.path e.path) (Decides-eqb d.fs e.fs) (path_eq-Decides d.path e.path))

-- a number is of a directory where the directory stands there
pub at_number : (s : Skeleton) (d : Directory) (i : ℕ) → directory_number s d ≡ Some i → slice_get s.directories i ≡ Some d
at_number s d i e =
    let h = place_found (directory_eq d) s.directories 0 i e in
    grind (arith, h.2, h.3, (directory_eq-Decides d h.1).0 h.4)

pub number_at : (s : Skeleton) → IsSkeleton s → (d : Directory) (i : ℕ) → slice_get s.directories i ≡ Some d → directory_number s d ≡ Some i
number_at s is d i e =
    place_first (directory_eq d) s.directories 0 i i d e ((directory_eq-Decides d d).1 refl) (λ j y at t. is.once j i d (at ∙ ap (λ x. Some x) (sym ((directory_eq-Decides d y).0 t))) e) (omega arith)

pub number_none : (s : Skeleton) (d : Directory) → ((i : ℕ) → ¬ (slice_get s.directories i ≡ Some d)) → directory_number s d ≡ None
number_none s d off = by (directory_number s d) refl
  where
    by : (o : Option ℕ) → directory_number s d ≡ o → o ≡ None
    by None e = refl
    by (Some i) e = absurd (off i (at_number s d i e))

-- a directory that has no number stands nowhere
pub none_number : (s : Skeleton) (d : Directory) (i : ℕ) → directory_number s d ≡ None → ¬ (slice_get s.directories i ≡ Some d)
none_number s d i e at = true≢false (sym ((directory_eq-Decides d d).1 refl) ∙ no_place (directory_eq d) s.directories 0 e i d at)

-- what the tests of numbers say
pub directory_within : (s : Skeleton) (d : ℕ) → is_directory s d ≡ true → d < length s.directories
directory_within s d e = ltb-true d (length s.directories) e

pub filesystem_within : (s : Skeleton) (f : ℕ) → is_filesystem s f ≡ true → (1 ≤ f) × (f ≤ length s.filesystems)
filesystem_within s f e = grind (arith, nat_tests)

-- what stands at a number
pub directory_at : (s : Skeleton) (i : ℕ) → i < length s.directories → slice_get s.directories i ≡ Some (directory s i)
directory_at s i l = slice_get-get_or s.directories i (record { fs = 0; path = [] }) l

pub at_directory : (s : Skeleton) (i : ℕ) (d : Directory) → slice_get s.directories i ≡ Some d → directory s i ≡ d
at_directory s i d e = get_or_from_slice_get s.directories i d (record { fs = 0; path = [] }) e

-- the directories above a directory are there
pub above_there : (s : Skeleton) → IsSkeleton s → (n fs : ℕ) (path rest : List (List ℕ)) (i : ℕ) → length rest ≡ n → slice_get s.directories i ≡ Some (record { fs = fs; path = path ++ rest })
    → (j : ℕ) × (slice_get s.directories j ≡ Some (record { fs = fs; path = path }))
above_there s is zero fs path [] i l e = (i, e ∙ ap (λ (p : List (List ℕ)). Some (record { fs = fs; path = p })) (append-nil path))
above_there s is zero fs path (x ∷ xs) i l e = absurd (omega arith)
above_there s is (suc n) fs path rest i l e = elim (last_of rest) [
  | inl none ↦ absurd (omega (arith, ap length none))
  | inr some ↦
      let split : path ++ rest ≡ (path ++ some.0) ++ some.1 ∷ [] = ap (λ r. path ++ r) some.2 ∙ sym (append_assoc path some.0 (some.1 ∷ [])) in
      let up = is.parents i fs (path ++ some.0) some.1 (e ∙ ap (λ (p : List (List ℕ)). Some (record { fs = fs; path = p })) split) in
      above_there s is n fs path some.0 up.0 (omega (arith, ap length some.2, length-append some.0 (some.1 ∷ []))) up.2
]

-- a child has the names of its directory and one more
pub child_number : (s : Skeleton) (here : ℕ) (d : Directory) (name : List ℕ) → slice_get s.directories here ≡ Some d → child s here name ≡ directory_number s (record { fs = d.fs; path = d.path ++ name ∷ [] })
child_number s here d name e = ap (λ (p : Directory). directory_number s (record { fs = p.fs; path = p.path ++ name ∷ [] })) (at_directory s here d e)

-- one name further down, where the directory is there and where it is not
pub child_at : (s : Skeleton) (fs here below : ℕ) (front : List (List ℕ)) (name : List ℕ) → slice_get s.directories here ≡ Some (record { fs = fs; path = front }) → child s here name ≡ Some below
    → slice_get s.directories below ≡ Some (record { fs = fs; path = front ++ name ∷ [] })
child_at s fs here below front name e c = at_number s (record { fs = fs; path = front ++ name ∷ [] }) below (sym (child_number s here (record { fs = fs; path = front }) name e) ∙ c)

pub none_below : (s : Skeleton) → IsSkeleton s → (fs here : ℕ) (front rest path : List (List ℕ)) (name : List ℕ) → slice_get s.directories here ≡ Some (record { fs = fs; path = front }) → child s here name ≡ None
    → path ≡ (front ++ name ∷ []) ++ rest → directory_number s (record { fs = fs; path = path }) ≡ None
none_below s is fs here front rest path name e c split = number_none s (record { fs = fs; path = path }) (λ i h.
    let above = above_there s is (length rest) fs (front ++ name ∷ []) rest i refl (h ∙ ap (λ (p : List (List ℕ)). Some (record { fs = fs; path = p })) split) in
    none_number s (record { fs = fs; path = front ++ name ∷ [] }) above.0 (sym (child_number s here (record { fs = fs; path = front }) name e) ∙ c) above.1)

-- a number whose directory stands at another is the other
pub same_place : (s : Skeleton) → IsSkeleton s → (i j : ℕ) (d : Directory) → directory s i ≡ d → slice_get s.directories j ≡ Some d → j ≡ i
same_place s is i j d e at = elim (cases_lt i (length s.directories)) [
  | inl within ↦ is.once j i d at (directory_at s i within ∙ ap (λ x. Some x) e)
  | inr past ↦ absurd (omega (arith, is.of_filesystem j d at, ap (λ x. x.fs) (sym (get_or_past s.directories i (record { fs = 0; path = [] }) past) ∙ e)))
]

-- what `holds` tests
pub record IsAbove (s : Skeleton) (outer inner : ℕ) : Type 0 where
  pub there : inner < length s.directories
  pub one : (directory s outer).fs ≡ (directory s inner).fs
  pub rest : List (List ℕ)
  pub joined : (directory s inner).path ≡ (directory s outer).path ++ rest

path_begins : (whole front : List (List ℕ)) → Decides (starts_with bytes_eq whole front) ((rest : List (List ℕ)) × (whole ≡ front ++ rest))
path_begins whole front =
    let h = starts_is bytes_eq-Decides whole front (starts_with bytes_eq whole front) refl in
    (λ t. (drop (length front) whole, h.0 t), λ r. h.1 r.0 r.1)

pub holds-Decides : (s : Skeleton) (outer inner : ℕ) → Decides (holds s outer inner) (IsAbove s outer inner)
holds-Decides s outer inner =
    let o = directory s outer in
    let i = directory s inner in
    Decides-like (holds s outer inner) (λ h. record { there = h.0.0; one = h.0.1; rest = h.1.0; joined = h.1.1 }) (λ a. ((a.there, a.one), (a.rest, a.joined)))
    (Decides-and (is_directory s inner && eqb o.fs i.fs) (starts_with bytes_eq i.path o.path) (Decides-and (is_directory s inner) (eqb o.fs i.fs) (Decides-ltb inner (length s.directories)) (Decides-eqb o.fs i.fs)) (path_begins i.path o.path))

-- a directory that is there holds itself
pub holds_self : (s : Skeleton) (d : ℕ) → d < length s.directories → holds s d d ≡ true
holds_self s d l = (holds-Decides s d d).1 (record { there = l; one = refl; rest = []; joined = sym (append-nil (directory s d).path) })

-- a directory that holds another holds what has one name more, and that is held by no other but itself
pub above_below : (s : Skeleton) (outer up here : ℕ) (name : List ℕ) → slice_get s.directories here ≡ Some (record { fs = (directory s up).fs; path = (directory s up).path ++ name ∷ [] }) → IsAbove s outer up → IsAbove s outer here
above_below s outer up here name e a =
    let below : Directory = record { fs = (directory s up).fs; path = (directory s up).path ++ name ∷ [] } in
    let h = at_directory s here below e in
    record {
      there = slice_get_within s.directories here below e;
      one = a.one ∙ ap (λ x. x.fs) (sym h);
      rest = a.rest ++ name ∷ [];
      joined = ap (λ x. x.path) h ∙ ap (λ (x : List (List ℕ)). x ++ name ∷ []) a.joined ∙ append_assoc (directory s outer).path a.rest (name ∷ []);
    }

pub holds_up : (s : Skeleton) → IsSkeleton s → (outer here up : ℕ) (name : List ℕ) → up < length s.directories → slice_get s.directories here ≡ Some (record { fs = (directory s up).fs; path = (directory s up).path ++ name ∷ [] }) → here ≢ outer
    → holds s outer up ≡ holds s outer here
holds_up s is outer here up name l e ne =
    same_from_decides (holds s outer up) (holds s outer here) (holds-Decides s outer up) (Decides-like (holds s outer here) above (above_below s outer up here name e) (holds-Decides s outer here))
  where
    above : IsAbove s outer here → IsAbove s outer up
    above a =
        let p = directory s up in
        let o = directory s outer in
        let below : Directory = record { fs = p.fs; path = p.path ++ name ∷ [] } in
        let h = at_directory s here below e in
        let one : o.fs ≡ p.fs = a.one ∙ ap (λ x. x.fs) h in
        let joined : p.path ++ name ∷ [] ≡ o.path ++ a.rest = ap (λ x. x.path) (sym h) ∙ a.joined in
        elim (last_of a.rest) [
          | inl none ↦
              let names : o.path ≡ p.path ++ name ∷ [] = sym (joined ∙ ap (λ x. o.path ++ x) none ∙ append-nil o.path) in
              absurd (ne (same_place s is outer here below (λ i. record { fs = one i; path = names i }) e))
          | inr some ↦
              let split : p.path ++ name ∷ [] ≡ (o.path ++ some.0) ++ some.1 ∷ [] = joined ∙ ap (λ x. o.path ++ x) some.2 ∙ sym (append_assoc o.path some.0 (some.1 ∷ [])) in
              record { there = l; one = one; rest = some.0; joined = (same_from_push p.path (o.path ++ some.0) name some.1 split).0 }
        ]

-- and a root is held by itself alone
pub holds_root : (s : Skeleton) → IsSkeleton s → (outer here fs : ℕ) → slice_get s.directories here ≡ Some (record { fs = fs; path = [] }) → here ≢ outer → holds s outer here ≡ false
holds_root s is outer here fs e ne = false_from_ne_true (holds s outer here) (λ t.
    let a = (holds-Decides s outer here).0 t in
    let h = at_directory s here (record { fs = fs; path = [] }) e in
    let one : (directory s outer).fs ≡ fs = a.one ∙ ap (λ x. x.fs) h in
    let names : (directory s outer).path ≡ [] = front_empty (directory s outer).path a.rest (sym a.joined ∙ ap (λ x. x.path) h) in
    ne (same_place s is outer here (record { fs = fs; path = [] }) (λ i. record { fs = one i; path = names i }) e))

pub holds_absent : (s : Skeleton) (outer inner : ℕ) → length s.directories ≤ inner → holds s outer inner ≡ false
holds_absent s outer inner l = false_from_ne_true (holds s outer inner) (λ t. let a = (holds-Decides s outer inner).0 t in omega (arith, a.there))

-- one directory more, below one that is there
pub skeleton_with_dir : (s : Skeleton) → IsSkeleton s → (up : ℕ) (p : Directory) (name : List ℕ) → slice_get s.directories up ≡ Some p → directory_number s (record { fs = p.fs; path = p.path ++ name ∷ [] }) ≡ None
    → IsSkeleton (with_dir s (record { fs = p.fs; path = p.path ++ name ∷ [] }))
skeleton_with_dir s is up p name u absent = record {
  names_once = is.names_once;
  once = λ i j d ei ej. grind (arith, pushed s.directories new d i ei, pushed s.directories new d j ej, is.once i j d, none_number s new i absent, none_number s new j absent);
  of_filesystem = λ i d e. grind (arith, pushed s.directories new d i e, is.of_filesystem i d, is.of_filesystem up p u);
  parents = λ i fs path last e. elim (pushed s.directories new (record { fs = fs; path = path ++ last ∷ [] }) i e) [
    | inl old ↦ let h = is.parents i fs path last old in (h.0, h.1, kept s.directories new (record { fs = fs; path = path }) h.0 h.2)
    | inr end ↦
        let f : p.fs ≡ fs = ap (λ x. x.fs) end.1 in
        let names : p.path ≡ path = (same_from_push p.path path name last (ap (λ x. x.path) end.1)).0 in
        let same : p ≡ record { fs = fs; path = path } = λ k. record { fs = f k; path = names k } in
        (up, omega (arith, end.0, slice_get_within s.directories up p u), kept s.directories new (record { fs = fs; path = path }) up (u ∙ ap (λ x. Some x) same))
  ];
  rooted = λ f l m. let h = is.rooted f l m in (h.0, kept s.directories new (record { fs = f; path = [] }) h.0 h.1);
}
  where
    new : Directory
    new = record { fs = p.fs; path = p.path ++ name ∷ [] }

fs_named_none : (s : Skeleton) (name : List ℕ) → fs_named s name ≡ None → (i : ℕ) (g : Filesystem) → slice_get s.filesystems i ≡ Some g → ¬ (g.name ≡ name)
fs_named_none s name e i g at same = true≢false (sym ((bytes_eq-Decides g.name name).1 same) ∙ no_place (λ (f : Filesystem). bytes_eq f.name name) s.filesystems 1 e i g at)

-- one filesystem more
pub skeleton_with_fs : (s : Skeleton) → IsSkeleton s → (f : Filesystem) → fs_named s f.name ≡ None → IsSkeleton (with_fs s f)
skeleton_with_fs s is f free = record {
  names_once = λ i j g h ei ej same. grind (arith, pushed s.filesystems f g i ei, pushed s.filesystems f h j ej, is.names_once i j g h, fs_named_none s f.name free i g, fs_named_none s f.name free j h);
  once = λ i j d ei ej. grind (arith, pushed s.directories root d i ei, pushed s.directories root d j ej, is.once i j d, is.of_filesystem i d, is.of_filesystem j d);
  of_filesystem = λ i d e. grind (arith, pushed s.directories root d i e, is.of_filesystem i d, more);
  parents = λ i fs path last e. elim (pushed s.directories root (record { fs = fs; path = path ++ last ∷ [] }) i e) [
    | inl old ↦ let h = is.parents i fs path last old in (h.0, h.1, kept s.directories root (record { fs = fs; path = path }) h.0 h.2)
    | inr end ↦ absurd (snoc_some path last (sym (ap (λ x. x.path) end.1)))
  ];
  rooted = λ n l m. elim (cases_lt (length s.filesystems) n) [
    | inl above ↦
        let same : length s.filesystems + 1 ≡ n = omega (arith, more) in
        (length s.directories, last_place s.directories root ∙ ap (λ k. Some (record { fs = k; path = [] })) same)
    | inr below ↦ let h = is.rooted n l below in (h.0, kept s.directories root (record { fs = n; path = [] }) h.0 h.1)
  ];
}
  where
    root : Directory
    root = record { fs = length s.filesystems + 1; path = [] }

    more : length (s.filesystems ++ f ∷ []) ≡ length s.filesystems + 1
    more = length-append s.filesystems (f ∷ [])

-- another room
pub roomed : (s : Skeleton) (k : ℕ) → IsSkeleton s → IsSkeleton (record s { room = k })
roomed s k is = record { names_once = is.names_once; once = is.once; of_filesystem = is.of_filesystem; parents = is.parents; rooted = is.rooted }

-- no room is above the greatest one
pub room_within : (s : Skeleton) → skel_room s ≤ room_limit
room_within s = omega arith
