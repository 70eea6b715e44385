-- The rows below each row, as lists of their IDs have them.
use Rattle.std.proofs.Common.{◌≡◌, ℕ, suc, ◌+◌, ◌<◌, Bool, true, false, cond, not, ◌&&◌, ◌==◌, List, [], ◌∷◌, ◌++◌, map, take, length, get_or, Option, Some, None, refl, sym, ap, ◌∙◌, inl, inr, arith}
use Rattle.std.specs.List.{filter, filter_map, cons_option}
use Rattle.std.specs.Option.{option_map_or, option_and_then}
use Rattle.std.proofs.lemmas.Bool.Decides.{nat_tests}
use Rattle.mt_skel.specs.Keyed.{row_at, put, rises}
use Rattle.mt_skel.proofs.ElementLaws.{In, in_row, in_filter}
use Rattle.mt_lists.specs.Lists.{ListRow, ids}
use Rattle.mt_lists.specs.Numbered.{rows_by, has_number}
use Rattle.mt_lists.proofs.NumberedLaws.{ids-by}
use Rattle.mt_info.specs.declared.row.Row.{Row}
use Rattle.mt_info.specs.Table.{row_id}
use Rattle.mt_render.specs.Forest.{is_child, child_rows}
use Rattle.mt_render.specs.Steps.{other_parent, IsFamily}

-- a row has a mount as its other parent exactly if it is a child of it
child_test : (i : ℕ) (r : Row) → has_number row_id other_parent i r ≡ is_child i r
child_test i r = go (r.parent == r.id) refl (r.parent == i) refl (r.id == i) refl
  where
    go : (u : Bool) → (r.parent == r.id) ≡ u → (v : Bool) → (r.parent == i) ≡ v → (w : Bool) → (r.id == i) ≡ w → option_map_or (λ m. m == i) (cond u None (Some r.parent)) false ≡ (v && not w)
    go u eu v ev w ew = grind (arith, nat_tests)

of_ids : (rows xs : List Row) → ((x : Row) → In x xs → row_at row_id x.id rows ≡ Some x) → filter_map (λ i. row_at row_id i rows) (map row_id xs) ≡ xs
of_ids rows [] f = refl
of_ids rows (x ∷ xs) f = ap (λ o. cons_option o (filter_map (λ i. row_at row_id i rows) (map row_id xs))) (f x (inl refl)) ∙ ap (λ l. x ∷ l) (of_ids rows xs (λ y h. f y (inr h)))

-- the rows of the IDs that are listed are the children
pub listed_children : (rows : List Row) (parents : List ListRow) → IsFamily rows parents → (r : Row) → filter_map (λ i. row_at row_id i rows) (ids parents r.id) ≡ child_rows rows r
listed_children rows parents h r =
    ap (λ (is : List ℕ). filter_map (λ i. row_at row_id i rows) is) (ap (λ ps. ids ps r.id) h.listed ∙ ids-by row_id other_parent rows r.id ∙ ap (λ s. map row_id (filter s rows)) (λ i x. child_test r.id x i))
    ∙ of_ids rows (child_rows rows r) (λ x there. in_row row_id rows x h.rising (in_filter (is_child r.id) x rows there).0)
