-- Of the numbers of all namespaces only those change in which a mount was touched.
use Rattle.std.proofs.Common.{◌≡◌, ℕ, zero, suc, ◌+◌, ◌<◌, ◌≤◌, Bool, true, false, cond, List, [], ◌∷◌, ◌++◌, map, drop, length, slice_index_or, slice_set, Option, Some, None, refl, sym, ap, ◌∙◌, subst, arith, true≢false, append-nil, append_assoc}
use Rattle.std.specs.Prelude.{nat_eq, nat_lt}
use Rattle.std.specs.List.{filter, list_all}
use Rattle.std.specs.Option.{option_map, option_to_list, unwrap_or}
use Rattle.std.proofs.lemmas.Bool.{false_from_ne_true}
use Rattle.std.proofs.lemmas.Iterator.Adapters.{option_map_id}
use Rattle.std.proofs.lemmas.Bool.Decides.{nat_tests}
use Rattle.std.proofs.lemmas.List.{drop_more, drop_all}
use Rattle.mt_skel.specs.Keyed.{row_at, put, rises, among}
use Rattle.mt_skel.proofs.ElementLaws.{any_in}
use Rattle.mt_skel.proofs.KeyedLaws.{row_at-key, row_at-put, rises-put, row_at-below, row_at-filter, row_at-map, rises-map, same_rows, passing}
use Rattle.mt_skel.proofs.MiddleLaws.{and_first, and_second}
use Rattle.mt_propagate.specs.World.{WorldView}
use Rattle.mt_propagate.specs.WellFormed.{IsWellFormed}
use Rattle.mt_propagate.proofs.RowLaws.{none-picked}
use Rattle.mt_info.specs.Table.{table_of}
use Rattle.mt_events.specs.Posts.{PostView}
use Rattle.mt_events.specs.Difference.{HoldsChanged}
use Rattle.mt_book.specs.Book.{space_in, number_in, command_limit, next_number, next_post, counted, posts_at_change}
use Rattle.mt_book.specs.Parts.{is_part, is_touched, space_at, merged}
use Rattle.mt_book.proofs.PlaceLaws.{above_at}
use Rattle.mt_book.proofs.DirectoryLaws.{same_number, no_post}
use Rattle.mt_book.proofs.StayLaws.{untouched}
use Rattle.mt_book.proofs.ThereLaws.{numbered_row}
use Rattle.mt_book.proofs.TouchedLaws.{part_holds}

-- the row of one of these namespaces
abbrev pub is_in : List ℕ → ℕ × ℕ → Bool
is_in spaces r = among spaces (space_in r)

-- ---- the rows of some namespaces, found one after the other

module _ {X : Type 0} (key : X → ℕ) where
  all_lower : (j k : ℕ) (xs : List X) → j ≤ k → list_all (λ y. nat_lt k (key y)) xs ≡ true → list_all (λ y. nat_lt j (key y)) xs ≡ true
  all_lower j k [] l h = refl
  all_lower j k (y ∷ ys) l h =
      let ih = all_lower j k ys l in
      grind (arith, nat_tests)

below : (k : ℕ) (ys : List ℕ) → list_all (λ y. nat_lt k y) ys ≡ true → among ys k ≡ false
below k [] h = refl
below k (y ∷ ys) h =
    let ih = below k ys in
    grind (arith, nat_tests)

apart : (s : ℕ) (rest : List ℕ) (rs : List (ℕ × ℕ)) → list_all (λ r. nat_lt s (space_in r)) rs ≡ true → filter (is_in (s ∷ rest)) rs ≡ filter (is_in rest) rs
apart s rest [] h = refl
apart s rest (r ∷ rs) h = let ih = apart s rest rs in grind (arith, nat_tests)

-- the rows of some namespaces are that of the lowest, if it has one, and then those of the others
pub next_row : (s : ℕ) (rest : List ℕ) (rs : List (ℕ × ℕ)) → list_all (λ y. nat_lt s y) rest ≡ true → rises space_in rs ≡ true
    → filter (is_in (s ∷ rest)) rs ≡ option_to_list (row_at space_in s rs) ++ filter (is_in rest) rs
next_row s rest [] a up = refl
next_row s rest (r ∷ rs) a up =
    let ih = next_row s rest rs a in
    let alone = apart s rest rs in
    let none = row_at-below space_in s rs in
    let over : s ≤ space_in r → list_all (λ q. nat_lt s (space_in q)) rs ≡ true = λ l. all_lower space_in s (space_in r) rs l (and_first _ _ up) in
    let off : space_in r ≤ s → among rest (space_in r) ≡ false = λ l. below (space_in r) rest (all_lower (λ k. k) (space_in r) s rest l a) in
    grind (arith, nat_tests)

-- rows that are left of rising ones
pub drop_rises : {X : Type 0} (key : X → ℕ) (xs : List X) (i : ℕ) → rises key xs ≡ true → rises key (drop i xs) ≡ true
drop_rises key xs zero up = up
drop_rises key [] (suc i) up = refl
drop_rises key (x ∷ xs) (suc i) up = drop_rises key xs i (and_second _ _ up)

pub next_found : (spaces : List ℕ) (rs found new all : List (ℕ × ℕ)) (i d : ℕ) → i < length spaces → rises (λ k. k) spaces ≡ true → rises space_in rs ≡ true → found ++ filter (is_in (drop i spaces)) rs ≡ all
    → new ≡ found ++ option_to_list (row_at space_in (slice_index_or spaces i d) rs) → new ++ filter (is_in (drop (i + 1) spaces)) rs ≡ all
next_found spaces rs found new all i d l rise up before e =
    let s = slice_index_or spaces i d in
    let rest = drop (i + 1) spaces in
    let split = drop_more spaces i d l in
    let above = and_first _ _ (ap (rises (λ k. k)) (sym split) ∙ drop_rises (λ k. k) spaces i rise) in
    ap (λ t. t ++ filter (is_in rest) rs) e ∙ append_assoc found (option_to_list (row_at space_in s rs)) (filter (is_in rest) rs)
    ∙ ap (λ t. found ++ t) (sym (next_row s rest rs above up)) ∙ ap (λ (t : List ℕ). found ++ filter (is_in t) rs) (sym split) ∙ before

-- of no namespaces there are no rows
pub none_in : (rs : List (ℕ × ℕ)) → filter (is_in []) rs ≡ []
none_in rs = none-picked (is_in []) rs (λ r there. refl)

-- once each of the namespaces was looked for, all their rows are found
pub last_found : (spaces : List ℕ) (rs found all : List (ℕ × ℕ)) (i : ℕ) → length spaces ≤ i → found ++ filter (is_in (drop i spaces)) rs ≡ all → found ≡ all
last_found spaces rs found all i l before =
    sym (append-nil found) ∙ ap (λ t. found ++ t) (sym (ap (λ (t : List ℕ). filter (is_in t) rs) (drop_all i spaces l) ∙ none_in rs)) ∙ before

-- ---- the rows once some have changed

-- a row is put in the place of the one with its key
set_put : (rs : List (ℕ × ℕ)) (at : ℕ) (c : ℕ × ℕ) → rises space_in rs ≡ true → at < length rs → space_in c ≡ space_at rs at → slice_set rs at c ≡ put space_in c rs
set_put [] at c up l e = absurd (omega (arith, l))
set_put (r ∷ rs) zero c up l e = grind (arith, nat_tests)
set_put (r ∷ rs) (suc at) c up l e =
    let low = above_at (space_in r) rs at (and_first _ _ up) (omega (arith, l)) in
    let rest : slice_set rs at c ≡ put space_in c rs = set_put rs at c (and_second (list_all (λ q. nat_lt (space_in r) (space_in q)) rs) (rises space_in rs) up) (omega (arith, l)) e in
    let keys : space_in r < space_in c = omega (arith, low, e) in
    grind (arith, nat_tests)

-- the row at the place where a namespace is found
module _ (rs : List (ℕ × ℕ)) (at : ℕ) (c : ℕ × ℕ) (up : rises space_in rs ≡ true) (l : at < length rs) (is : row_at space_in (space_in c) rs ≡ Some (slice_index_or rs at (0, 0))) where
  is_put : slice_set rs at c ≡ put space_in c rs
  is_put = set_put rs at c up l (sym (row_at-key space_in (space_in c) rs (slice_index_or rs at (0, 0)) is))

  pub set_rises : rises space_in (slice_set rs at c) ≡ true
  set_rises = ap (rises space_in) is_put ∙ rises-put space_in c rs up

  -- a namespace that has a number gets the new one
  pub put_here : (n : ℕ) → row_at space_in n (slice_set rs at c) ≡ merged rs (c ∷ []) n
  put_here n =
      ap (row_at space_in n) is_put ∙ row_at-put space_in n c rs
      ∙ by (row_at space_in n rs) (nat_eq n (space_in c)) (λ q. let same : n ≡ space_in c = grind (arith, nat_tests) in ap (λ k. row_at space_in k rs) same ∙ is)
    where
      by : (o : Option (ℕ × ℕ)) (b : Bool) → (b ≡ true → o ≡ Some (slice_index_or rs at (0, 0))) → cond b (Some c) o ≡ option_map (λ r. unwrap_or (cond b (Some c) None) r) o
      by o false there = sym (option_map_id o)
      by o true there = sym (ap (option_map (λ r. unwrap_or (Some c) r)) (there refl))

-- one change after the other
put_next : (rs new : List (ℕ × ℕ)) (c : ℕ × ℕ) (cs : List (ℕ × ℕ)) → ((n : ℕ) → row_at space_in n new ≡ merged rs (c ∷ []) n) → list_all (λ q. nat_lt (space_in c) (space_in q)) cs ≡ true
    → (n : ℕ) → merged new cs n ≡ merged rs (c ∷ cs) n
put_next rs new c cs rows above n =
    ap (option_map (λ r. unwrap_or (row_at space_in n cs) r)) (rows n)
    ∙ by (row_at space_in n rs) (row_at space_in n cs) (nat_eq n (space_in c)) (λ q. let same : n ≡ space_in c = grind (arith, nat_tests) in ap (λ k. row_at space_in k cs) same ∙ row_at-below space_in (space_in c) cs above)
  where
    by : (o m : Option (ℕ × ℕ)) (b : Bool) → (b ≡ true → m ≡ None)
        → option_map (λ r. unwrap_or m r) (option_map (λ r. unwrap_or (cond b (Some c) None) r) o) ≡ option_map (λ r. unwrap_or (cond b (Some c) m) r) o
    by None m b none = refl
    by (Some r) m false none = refl
    by (Some r) m true none = ap (λ o. Some (unwrap_or o c)) (none refl)

pub next_merged : (changed rs new : List (ℕ × ℕ)) (i : ℕ) (d : ℕ × ℕ) → i < length changed → rises space_in changed ≡ true → ((n : ℕ) → row_at space_in n new ≡ merged rs (slice_index_or changed i d ∷ []) n)
    → (n : ℕ) → merged new (drop (i + 1) changed) n ≡ merged rs (drop i changed) n
next_merged changed rs new i d l up rows n =
    let c = slice_index_or changed i d in
    let cs = drop (i + 1) changed in
    let split = drop_more changed i d l in
    let above = and_first _ _ (ap (rises space_in) (sym split) ∙ drop_rises space_in changed i up) in
    put_next rs new c cs rows above n ∙ ap (λ (t : List (ℕ × ℕ)). merged rs t n) (sym split)

-- ---- numbers and posts of the namespaces touched, and of all

pub few_filter : (t : ℕ × ℕ → Bool) (rs : List (ℕ × ℕ)) → ((i : ℕ) (r : ℕ × ℕ) → i < length rs → r ≡ slice_index_or rs i r → number_in r ≤ command_limit)
    → (i : ℕ) (r : ℕ × ℕ) → i < length (filter t rs) → r ≡ slice_index_or (filter t rs) i r → number_in r ≤ command_limit
few_filter t [] few = λ i r l e. absurd (omega (arith, l))
few_filter t (x ∷ rs) few = by (t x) (few_filter t rs (λ i r l e. few (suc i) r (omega (arith, l)) e))
  where
    by : (b : Bool) → ((i : ℕ) (r : ℕ × ℕ) → i < length (filter t rs) → r ≡ slice_index_or (filter t rs) i r → number_in r ≤ command_limit)
        → (i : ℕ) (r : ℕ × ℕ) → i < length (cond b (x ∷ filter t rs) (filter t rs)) → r ≡ slice_index_or (cond b (x ∷ filter t rs) (filter t rs)) i r → number_in r ≤ command_limit
    by true ih zero r l e = few zero r (omega arith) e
    by true ih (suc i) r l e = ih i r (omega (arith, l)) e
    by false ih i r l e = ih i r l e

abbrev pub count_row : WorldView → WorldView → ℕ × ℕ → ℕ × ℕ
count_row w v r = numbered_row (space_in r) (next_number w v (space_in r) (number_in r))

counted-map : (w v : WorldView) (rs : List (ℕ × ℕ)) → counted w v rs ≡ map (count_row w v) rs
counted-map w v [] = refl
counted-map w v (r ∷ rs) = ap (λ l. count_row w v r ∷ l) (counted-map w v rs)

-- new numbers leave the namespaces in their order
pub counted_rises : (w v : WorldView) (rs : List (ℕ × ℕ)) → rises space_in (counted w v rs) ≡ rises space_in rs
counted_rises w v rs = ap (rises space_in) (counted-map w v rs) ∙ rises-map space_in (count_row w v) (λ r. refl) rs

counted_at : (w v : WorldView) (q : ℕ) (rs : List (ℕ × ℕ)) → row_at space_in q (counted w v rs) ≡ option_map (count_row w v) (row_at space_in q rs)
counted_at w v q rs = ap (row_at space_in q) (counted-map w v rs) ∙ row_at-map space_in (count_row w v) (λ r. refl) q rs

-- a namespace in which none of these mounts is has the same rows
pub quiet_of : (w v : WorldView) (ids spaces : List ℕ) → IsWellFormed w → IsWellFormed v → ((n : ℕ) → HoldsChanged (table_of w n) (table_of v n) ids) → ((n : ℕ) → among spaces n ≡ is_touched w v ids n)
    → (n : ℕ) → among spaces n ≡ false → HoldsChanged (table_of w n) (table_of v n) []
quiet_of w v ids spaces h g held touched n off =
    subst (HoldsChanged (table_of w n) (table_of v n)) (none-picked (is_part w v n) ids (λ i there. false_from_ne_true (is_part w v n i) (λ on. true≢false (sym (any_in (is_part w v n) i ids there on) ∙ sym (touched n) ∙ off)))) (part_holds w v n ids h g (held n))

-- these are all namespaces whose rows differ
module _ (w v : WorldView) (spaces : List ℕ) (h : IsWellFormed w) (g : IsWellFormed v) (quiet : (n : ℕ) → among spaces n ≡ false → HoldsChanged (table_of w n) (table_of v n) []) where
  same_row : (r : ℕ × ℕ) → is_in spaces r ≡ false → count_row w v r ≡ r
  same_row r off = ap (numbered_row (space_in r)) (same_number w v (space_in r) h (untouched w v (space_in r) h g (quiet (space_in r) off)) (number_in r))

  one_number : (q : ℕ) (rs : List (ℕ × ℕ)) → rises space_in rs ≡ true → merged rs (counted w v (filter (is_in spaces) rs)) q ≡ row_at space_in q (counted w v rs)
  one_number q rs up =
      ap (λ (o : Option (ℕ × ℕ)). option_map (λ r. unwrap_or o r) (row_at space_in q rs)) (counted_at w v q (filter (is_in spaces) rs) ∙ ap (option_map (count_row w v)) (row_at-filter space_in (is_in spaces) q rs up))
      ∙ by (row_at space_in q rs) ∙ sym (counted_at w v q rs)
    where
      by : (o : Option (ℕ × ℕ)) → option_map (λ r. unwrap_or (option_map (count_row w v) (passing (is_in spaces) o)) r) o ≡ option_map (count_row w v) o
      by None = refl
      by (Some r) = go (is_in spaces r) refl
        where
          go : (b : Bool) → is_in spaces r ≡ b → Some (unwrap_or (option_map (count_row w v) (cond b (Some r) None)) r) ≡ Some (count_row w v r)
          go true is = refl
          go false is = ap Some (sym (same_row r is))

  pub all_numbers : (rs all : List (ℕ × ℕ)) → rises space_in rs ≡ true → rises space_in all ≡ true → ((n : ℕ) → row_at space_in n all ≡ merged rs (counted w v (filter (is_in spaces) rs)) n) → all ≡ counted w v rs
  all_numbers rs all up rise rows = same_rows space_in all (counted w v rs) rise (counted_rises w v rs ∙ up) (λ q. rows q ∙ one_number q rs up)

  pub all_posts : (rs : List (ℕ × ℕ)) → posts_at_change w v rs ≡ posts_at_change w v (filter (is_in spaces) rs)
  all_posts [] = refl
  all_posts (r ∷ rs) = by (is_in spaces r) refl (all_posts rs)
    where
      by : (b : Bool) → is_in spaces r ≡ b → posts_at_change w v rs ≡ posts_at_change w v (filter (is_in spaces) rs) → posts_at_change w v (r ∷ rs) ≡ posts_at_change w v (cond b (r ∷ filter (is_in spaces) rs) (filter (is_in spaces) rs))
      by true is ih = ap (λ (l : List PostView). option_to_list (next_post w v (space_in r) (number_in r)) ++ l) ih
      by false is ih =
          ap (λ (o : Option PostView). option_to_list o ++ posts_at_change w v rs)
          (no_post w v (space_in r) h (untouched w v (space_in r) h g (quiet (space_in r) is)) (number_in r + 1))
          ∙ ih
