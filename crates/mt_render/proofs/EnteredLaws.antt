-- Items that are entered into lists one after the other, by rising keys.
use Rattle.std.proofs.Common.{◌≡◌, ℕ, ◌+◌, ◌<◌, Bool, true, false, cond, ◌&&◌, List, [], ◌∷◌, ◌++◌, take, drop, length, get_or, Option, Some, None, refl, sym, ap, ◌∙◌, arith}
use Rattle.std.specs.Prelude.{nat_lt}
use Rattle.std.specs.List.{list_all}
use Rattle.std.specs.Option.{option_and_then}
use Rattle.std.proofs.lemmas.Bool.Decides.{nat_tests}
use Rattle.mt_skel.specs.Keyed.{row_at, put, rises}
use Rattle.mt_skel.proofs.ListLaws.{take_next, split_next}
use Rattle.mt_lists.specs.Lists.{ListRow, listed_number, with_number}
use Rattle.mt_lists.specs.Numbered.{rows_by}
use Rattle.mt_lists.proofs.NumberedLaws.{number-by, put-by}

module _ {X : Type 0} (key : X → ℕ) where
  above_last : (k : ℕ) (ys : List X) (x : X) → list_all (λ z. nat_lt k (key z)) (ys ++ x ∷ []) ≡ true → nat_lt k (key x) ≡ true
  above_last k [] x h = grind (arith, nat_tests)
  above_last k (y ∷ ys) x h = above_last k ys x (grind (arith, nat_tests))

  all_left : (k : ℕ) (xs ys : List X) → list_all (λ z. nat_lt k (key z)) (xs ++ ys) ≡ true → list_all (λ z. nat_lt k (key z)) xs ≡ true
  all_left k [] ys h = refl
  all_left k (x ∷ xs) ys h = grind (arith, nat_tests, all_left k xs ys)

  rises_left : (xs ys : List X) → rises key (xs ++ ys) ≡ true → rises key xs ≡ true
  rises_left [] ys h = refl
  rises_left (x ∷ xs) ys h = grind (arith, nat_tests, rises_left xs ys, all_left (key x) xs ys)

  put_behind : (front : List X) (x : X) → rises key (front ++ x ∷ []) ≡ true → put key x front ≡ front ++ x ∷ []
  put_behind [] x h = refl
  put_behind (y ∷ ys) x h = grind (arith, nat_tests, put_behind ys x, above_last (key y) ys x)

  none_behind : (front : List X) (x : X) → rises key (front ++ x ∷ []) ≡ true → row_at key (key x) front ≡ None
  none_behind [] x h = refl
  none_behind (y ∷ ys) x h = grind (arith, nat_tests, none_behind ys x, above_last (key y) ys x)

  -- the items up to one rise as all do
  rises_next : (xs : List X) (i : ℕ) (x : X) → i < length xs → x ≡ get_or xs i x → rises key xs ≡ true → rises key (take i xs ++ x ∷ []) ≡ true
  rises_next xs i x low is h = rises_left (take i xs ++ x ∷ []) (drop (i + 1) xs) (ap (rises key) (sym (split_next xs i x low is)) ∙ h)

module _ {X : Type 0} (key : X → ℕ) (number : X → Option ℕ) where
  -- the next item is not there yet
  pub not_entered : (xs : List X) (i : ℕ) (x : X) (rows : List ListRow) → i < length xs → x ≡ get_or xs i x → rises key xs ≡ true → rows ≡ rows_by key number (take i xs) → listed_number rows (key x) ≡ None
  not_entered xs i x rows low is up told =
      let next = rises_next key xs i x low is up in
      ap (λ rs. listed_number rs (key x)) told ∙ number-by key number (key x) (take i xs) (rises_left key (take i xs) (x ∷ []) next) ∙ ap (option_and_then number) (none_behind key (take i xs) x next)

  -- once it is entered it is listed with those before
  pub entered : (xs : List X) (i : ℕ) (x : X) (old new : List ListRow) → i < length xs → x ≡ get_or xs i x → rises key xs ≡ true → old ≡ rows_by key number (take i xs) → new ≡ with_number (key x) (number x) old
      → new ≡ rows_by key number (take (i + 1) xs)
  entered xs i x old new low is up told e =
      let next = rises_next key xs i x low is up in
      e ∙ ap (with_number (key x) (number x)) told ∙ sym (put-by key number x (take i xs) (rises_left key (take i xs) (x ∷ []) next))
      ∙ ap (rows_by key number) (put_behind key (take i xs) x next ∙ sym (take_next xs i x low is))
