-- A table changed exactly where some mount left it, or has a row that is new or not as it was.
use Rattle.std.proofs.Common.{◌≡◌, ℕ, ◌+◌, ◌<◌, Bool, true, false, cond, not, ◌&&◌, ◌||◌, List, [], ◌∷◌, ◌++◌, map, drop, length, get_or, Option, Some, None, refl, ap, ◌∙◌, arith}
use Rattle.std.specs.List.{filter, list_any}
use Rattle.std.specs.Option.{option_to_list, is_some}
use Rattle.std.proofs.lemmas.Bool.Decides.{nat_tests}
use Rattle.std.proofs.lemmas.List.{drop_more}
use Rattle.mt_skel.specs.Keyed.{row_at, has, rises}
use Rattle.mt_mounts.specs.declared.mount.Mount.{Mount}
use Rattle.mt_mounts.specs.Forest.{mount_at}
use Rattle.mt_propagate.specs.World.{WorldView}
use Rattle.mt_propagate.specs.WellFormed.{IsWellFormed}
use Rattle.mt_info.specs.declared.row.Row.{Row}
use Rattle.mt_info.specs.Table.{row_id, row_of, table_of}
use Rattle.mt_info.specs.SameRow.{row_eq}
use Rattle.mt_events.specs.Posts.{itself, is_nothing}
use Rattle.mt_events.specs.Difference.{difference, is_empty, HoldsChanged}
use Rattle.mt_events.specs.ByMount.{collected, new_row, is_news}
use Rattle.mt_events.proofs.TouchedLaws.{new_arrived, new_other, gone_are, new_rows_are}

-- a mount that the first table has not has a new row exactly where the second has one
pub arrived-new : (a b : List Row) (i : ℕ) → has row_id i a ≡ false → is_some (new_row a b i) ≡ has row_id i b
arrived-new a b i out =
    let none : row_at row_id i a ≡ None = grind (arith, out) in
    let new = λ (r : Row) (e : row_at row_id i b ≡ Some r). new_arrived a b i r e none in
    grind (arith, new)

-- one that both have has a new row where it is known to differ
pub other-new : (v w : WorldView) (n i : ℕ) → IsWellFormed v → IsWellFormed w → has row_id i (table_of w n) ≡ true
    → ((x y : Mount) → mount_at v.forest i ≡ Some x → mount_at w.forest i ≡ Some y → row_eq (row_of v x) (row_of w y) ≡ false) → true ≡ is_some (new_row (table_of v n) (table_of w n) i)
other-new v w n i h g here other =
    let new = λ (r : Row) (e : row_at row_id i (table_of w n) ≡ Some r). new_other v w n i h g r e other in
    grind (arith, here, new)

-- one mount more of those that are gone over
pub any-step : (p : ℕ → Bool) (ids : List ℕ) (i d : ℕ) (all b : Bool) → i < length ids → list_any p (drop i ids) ≡ all → b ≡ p (get_or ids i d)
    → (b ≡ true → true ≡ all) × (b ≡ false → list_any p (drop (i + 1) ids) ≡ all)
any-step p ids i d all b l before is =
    let whole : list_any p (drop i ids) ≡ p (get_or ids i d) || list_any p (drop (i + 1) ids) = ap (list_any p) (drop_more ids i d l) in
    (λ t. grind (arith, whole, before, is), λ f. grind (arith, whole, before, is))

-- what left and what is new, in lists, is nothing exactly where no mount has news
listed : (p : ℕ → Bool) (f : ℕ → Option Row) (ids : List ℕ) → list_any (λ i. p i || is_some (f i)) ids ≡ not (is_nothing (filter p ids) (collected f ids))
listed p f [] = refl
listed p f (i ∷ ids) = by (p i) (f i) (listed p f ids)
  where
    by : (b : Bool) (o : Option Row) → list_any (λ i. p i || is_some (f i)) ids ≡ not (is_nothing (filter p ids) (collected f ids))
        → (b || is_some o) || list_any (λ i. p i || is_some (f i)) ids ≡ not (is_nothing (cond b (i ∷ filter p ids) (filter p ids)) (option_to_list o ++ collected f ids))
    by true o ih = grind (arith, nat_tests)
    by false None ih = ih
    by false (Some r) ih = grind (arith, nat_tests)

pub news-changed : (a b : List Row) (ids : List ℕ) → rises itself ids ≡ true → HoldsChanged a b ids → rises row_id a ≡ true → rises row_id b ≡ true
    → list_any (is_news a b) ids ≡ not (is_empty (difference a b))
unfolding difference
news-changed a b ids up held ra rb =
    listed (λ i. has row_id i a && not (has row_id i b)) (new_row a b) ids
    ∙ ap (λ l. not (is_nothing l (collected (new_row a b) ids))) (gone_are a b ids up held ra)
    ∙ ap (λ l. not (is_nothing (map row_id (filter (λ (r : Row). not (has row_id r.id b)) a)) l)) (new_rows_are a b ids up held rb)
