-- Lines that come by rising ID: which one may come next, and what cannot come first where none such does.
use Rattle.std.proofs.Common.{◌≡◌, ◌≢◌, ℕ, ◌+◌, ◌<◌, ◌≤◌, Bool, true, false, ◌&&◌, nat_lt, List, [], ◌∷◌, ◌++◌, map, length, Option, Some, None, refl, sym, ap, subst, ◌∙◌, IsTrue, arith, append_assoc, length-append}
use Rattle.std.specs.List.{AllByRecursion, list_all}
use Rattle.std.proofs.lemmas.List.{map-append}
use Rattle.std.proofs.lemmas.Bool.Decides.{nat_tests}
use Rattle.mt_lines.specs.Lines.{Item}
use Rattle.mt_lines.specs.declared.line.LineReader.{LineReader}
use Rattle.mt_lines.specs.declared.stream.Input.{Ghosts}
use Rattle.mt_skel.specs.Keyed.{rises}
use Rattle.mt_skel.specs.Rising.{is_above}
use Rattle.mt_skel.proofs.MiddleLaws.{and-true, and_first, and_second, each_last}
use Rattle.mt_client.specs.Reading.{texts, ComeFirst, HasRead, NoneFirst}
use Rattle.mt_client.specs.RisingLines.{IsLineAbove, IsLineOf, AreRisingLines}
use Rattle.mt_client.specs.Calls.{AreRead}
use Rattle.mt_client.proofs.CallLaws.{read_both}
use Rattle.mt_client.proofs.RelayLaws.{first_alike, come_as}

module _ {X : Type 0} (key : X → ℕ) where
  -- one behind these keeps them rising exactly where its ID is above the last one
  abbrev pub Follows : Option ℕ → List X → Type 0
  Follows last rows = (r : X) → rises key (rows ++ r ∷ []) ≡ is_above last (key r)

  follows_none : Follows None []
  follows_none r = refl

  all_more : (n : ℕ) (xs : List X) (r k : X) → list_all (λ y. nat_lt n (key y)) (xs ++ r ∷ []) ≡ true → nat_lt (key r) (key k) ≡ true → list_all (λ y. nat_lt n (key y)) ((xs ++ r ∷ []) ++ k ∷ []) ≡ true
  all_more n [] r k all lt = grind (arith, nat_tests)
  all_more n (x ∷ xs) r k all lt = and-true (nat_lt n (key x)) _ (and_first (nat_lt n (key x)) _ all) (all_more n xs r k (and_second (nat_lt n (key x)) _ all) lt)

  follows_more : (xs : List X) (r k : X) → rises key (xs ++ r ∷ []) ≡ true → rises key ((xs ++ r ∷ []) ++ k ∷ []) ≡ nat_lt (key r) (key k)
  follows_more [] r k up = grind (arith, nat_tests)
  follows_more (x ∷ xs) r k up = go (nat_lt (key r) (key k)) refl (follows_more xs r k (and_second above _ up)) (all_more (key x) xs r k (and_first above _ up))
    where
      above : Bool
      above = list_all (λ y. nat_lt (key x) (key y)) (xs ++ r ∷ [])

      go : (b : Bool) → nat_lt (key r) (key k) ≡ b → rises key ((xs ++ r ∷ []) ++ k ∷ []) ≡ nat_lt (key r) (key k)
          → (nat_lt (key r) (key k) ≡ true → list_all (λ y. nat_lt (key x) (key y)) ((xs ++ r ∷ []) ++ k ∷ []) ≡ true)
          → (list_all (λ y. nat_lt (key x) (key y)) ((xs ++ r ∷ []) ++ k ∷ []) && rises key ((xs ++ r ∷ []) ++ k ∷ [])) ≡ nat_lt (key r) (key k)
      go true e ih all = and-true _ _ (all e) (ih ∙ e) ∙ sym e
      go false e ih all = grind (arith, e, ih)

  -- one more
  follows_next : (last : Option ℕ) (rows : List X) (r : X) → Follows last rows → is_above last (key r) ≡ true → Follows (Some (key r)) (rows ++ r ∷ [])
  follows_next last rows r follows above k = follows_more rows r k (follows r ∙ above)

  pub rising_more : (last : Option ℕ) (rows new : List X) (r : X) → new ≡ rows ++ r ∷ [] → Follows last rows → is_above last (key r) ≡ true → IsTrue (rises key new)
  rising_more last rows new r is follows above = ap (λ rs. rises key rs) is ∙ follows r ∙ above

  pub follows_read : (last : Option ℕ) (rows new : List X) (r : X) → new ≡ rows ++ r ∷ [] → Follows last rows → is_above last (key r) ≡ true → Follows (Some (key r)) new
  follows_read last rows new r is follows above = subst (λ rs. Follows (Some (key r)) rs) (sym is) (follows_next last rows r follows above)

  all_front : (n : ℕ) (xs ys : List X) → list_all (λ y. nat_lt n (key y)) (xs ++ ys) ≡ true → list_all (λ y. nat_lt n (key y)) xs ≡ true
  all_front n [] ys all = refl
  all_front n (x ∷ xs) ys all = and-true (nat_lt n (key x)) _ (and_first (nat_lt n (key x)) _ all) (all_front n xs ys (and_second (nat_lt n (key x)) _ all))

  rises_front : (xs ys : List X) → rises key (xs ++ ys) ≡ true → rises key xs ≡ true
  rises_front [] ys up = refl
  rises_front (x ∷ xs) ys up = and-true (list_all (λ y. nat_lt (key x) (key y)) xs) _ (all_front (key x) xs ys (and_first _ _ up)) (rises_front xs ys (and_second _ _ up))

-- one more was read
pub many_more : {X : Type 0} (n : ℕ) (rows new : List X) (r : X) → new ≡ rows ++ r ∷ [] → length rows ≡ n → length new ≡ n + 1
many_more n rows new r is many = let l = length-append rows (r ∷ []) in ap length is ∙ omega (arith, l, many)

pub valid_more : {X : Type 0} (IsSuch : X → Type 0) (rows new : List X) (r : X) → new ≡ rows ++ r ∷ [] → AllByRecursion IsSuch rows → IsSuch r → AllByRecursion IsSuch new
valid_more IsSuch rows new r is valid row = subst (λ rs. AllByRecursion IsSuch rs) (sym is) (each_last IsSuch rows r valid row)

pub read_more : {X : Type 0} (text : X → List ℕ) {R : Type 0} {g : Ghosts R} {a b c : LineReader R g} (rows new : List X) (r : X) → new ≡ rows ++ r ∷ [] → AreRead (map text rows) a b → AreRead (text r ∷ []) b c → AreRead (map text new) a c
read_more text {R} {g} {a} {b} {c} rows new r is read one = subst (λ ls. AreRead ls a c) (sym (map-append text rows (r ∷ [])) ∙ ap (λ rs. map text rs) (sym is)) (read_both read one)

abbrev pub no_rows : {X : Type 0} {key : X → ℕ} {text : X → List ℕ} {IsSuch : X → Type 0} → AreRisingLines key text IsSuch 0 []
no_rows = record { rows = []; valid = tt; rising = refl; many = refl; all = refl }

module _ {X : Type 0} (key : X → ℕ) (text : X → List ℕ) (IsSuch : X → Type 0) where
  -- the lines of so many, the last of which has this ID
  abbrev pub AreLinesTo : ℕ → Option ℕ → List (List ℕ) → Type 0
  AreLinesTo n last lines = (a : AreRisingLines key text IsSuch n lines) × Follows key last a.rows

  pub no_lines : AreLinesTo 0 None []
  no_lines = (no_rows, follows_none key)

  pub lines_join : (n : ℕ) (last : Option ℕ) (id : ℕ) (ls ms : List (List ℕ)) → AreLinesTo n last ls → IsLineOf key text IsSuch last id ms → AreLinesTo (n + 1) (Some id) (ls ++ ms)
  lines_join n last id ls ms t r =
      let a = t.0 in
      let l = length-append a.rows (r.0 ∷ []) in
      let m = a.many in (
        record {
          rows = a.rows ++ r.0 ∷ [];
          valid = each_last IsSuch a.rows r.0 a.valid r.1;
          rising = t.1 r.0 ∙ r.2;
          many = omega (arith, l, m);
          all = (λ i. a.all i ++ r.4 i) ∙ sym (map-append text a.rows (r.0 ∷ []));
        },
        λ k. follows_next key last a.rows r.0 t.1 r.2 k ∙ ap (λ n. nat_lt n (key k)) r.3,
      )

  -- a line tells which one it is the line of
  abbrev pub TellsApart : Type 0
  TellsApart = (a b : X) → IsSuch a → IsSuch b → text a ≡ text b → a ≡ b

  module _ (apart : TellsApart) where
    -- the line of one with no ID above the last one is the line of none that has
    pub none_above : (last : Option ℕ) (seen : List ℕ) (r k : X) → IsSuch r → IsSuch k → seen ≡ text r → is_above last (key r) ≡ false → is_above last (key k) ≡ true → seen ≢ text k
    none_above last seen r k p q is below above same =
        let alike = apart r k p q (sym is ∙ same) in
        let both : false ≡ true = sym below ∙ ap (λ (x : X). is_above last (key x)) alike ∙ above in
        cc

    -- those that were read are the first of those that come first
    came_front : (xs ys : List X) (middle later : List Item) → AllByRecursion IsSuch xs → AllByRecursion IsSuch ys → length xs ≤ length ys → texts (map text xs) ++ middle ≡ texts (map text ys) ++ later
        → (rest : List X) × AllByRecursion IsSuch rest × (ys ≡ xs ++ rest) × (middle ≡ texts (map text rest) ++ later)
    came_front [] ys middle later p q le e = (ys, q, refl, e)
    came_front (x ∷ xs) [] middle later p q le e = absurd (omega (arith, le))
    came_front (x ∷ xs) (y ∷ ys) middle later p q le e =
        let f = first_alike e in
        let same = apart x y p.0 q.0 f.0 in
        let r = came_front xs ys middle later p.1 q.1 (omega (arith, le)) f.1 in
        (r.0, r.1, (λ i. sym same i ∷ r.2 i), r.3)

    -- so many lines do not come first where behind fewer of them none comes with an ID above the last one
    pub lines_short : (n count : ℕ) (last : Option ℕ) (rows : List X) (before middle : Option (List Item)) → ComeFirst before (map text rows) middle → length rows ≡ n → n < count → AllByRecursion IsSuch rows → Follows key last rows
        → NoneFirst (IsLineAbove key text IsSuch last) middle → NoneFirst (AreRisingLines key text IsSuch count) before
    lines_short n count last rows before middle came many lt valid follows none lines later k e =
        let m = k.many in
        let c = came.known _ e in
        let f = came_front rows k.rows c.0 later valid k.valid (omega (arith, m, many, lt)) (sym c.2 ∙ ap (λ ls. texts ls ++ later) k.all) in
        go f.0 f.1 f.2 (c.1 ∙ ap Some f.3)
      where
        go : (rest : List X) → AllByRecursion IsSuch rest → k.rows ≡ rows ++ rest → middle ≡ Some (texts (map text rest) ++ later) → ⊥
        go [] v same there =
            let l = ap length same in
            let a = length-append rows [] in
            let m = k.many in
            omega (arith, l, a, m, many, lt)
        go (x ∷ rest) v same there =
            let up = rises_front key (rows ++ x ∷ []) rest (ap (rises key) (append_assoc rows (x ∷ []) rest ∙ sym same) ∙ k.rising) in
            none (text x ∷ []) (texts (map text rest) ++ later) (x, v.0, sym (follows x) ∙ up, refl) there

    pub lines_ended : (n count : ℕ) (last : Option ℕ) (before middle : Option (List Item)) → HasRead (AreLinesTo n last) before middle → n < count → NoneFirst (IsLineAbove key text IsSuch last) middle → NoneFirst (AreRisingLines key text IsSuch count) before
    lines_ended n count last before middle h lt none = lines_short n count last h.1.0.rows before middle (come_as h.1.0.all h.2) h.1.0.many lt h.1.0.valid h.1.1 none
