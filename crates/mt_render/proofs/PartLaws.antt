-- The part of a table that a path leads to.
use Rattle.std.proofs.Common.{◌≡◌, ℕ, suc, ◌+◌, ◌<◌, ◌&&◌, Bool, List, [], ◌∷◌, map, length, get_or, drop, drop-cons, refl, sym, ap, ◌∙◌, arith}
use Rattle.std.specs.List.{filter, starts_with}
use Rattle.std.specs.Str.{bytes_eq}
use Rattle.mt_info.specs.declared.row.Row.{Row}
use Rattle.mt_render.specs.Forest.{without_lines, drawn_from}
use Rattle.mt_render.specs.Steps.{StepView, step_of, has_step}
use Rattle.mt_render.specs.Parts.{is_at_or_below, is_in_part, part_below}
use Rattle.mt_render.proofs.StepLaws.{has_same}

begins-cons : (xs ys : List (List ℕ)) (x y : List ℕ) → starts_with bytes_eq (x ∷ xs) (y ∷ ys) ≡ (bytes_eq y x && starts_with bytes_eq xs ys)
begins-cons xs ys x y = refl

-- one name further
pub begins_step : (all below rest : List (List ℕ)) (i : ℕ) (x y d : List ℕ) → i < length all → y ≡ get_or all i d → below ≡ x ∷ rest
    → starts_with bytes_eq below (drop i all) ≡ (bytes_eq y x && starts_with bytes_eq rest (drop (i + 1) all))
begins_step all below rest i x y d within at more =
    let next : suc i ≡ i + 1 = omega arith in
    let split : drop i all ≡ y ∷ drop (i + 1) all = drop-cons all i d within ∙ (λ k. sym at k ∷ drop (next k) all) in
    (λ k. starts_with bytes_eq (more k) (split k)) ∙ begins-cons rest (drop (i + 1) all) x y

-- the mounts at and below a row, as steps tell them
pub below_told : (rows table : List Row) (top : Row) (drawn : List StepView) (i : ℕ) → rows ≡ table → drawn ≡ map step_of (drawn_from rows (length rows) (without_lines top)) → has_step drawn i ≡ is_at_or_below table top i
below_told rows table top drawn i same e =
    ap (λ ss. has_step ss i) e ∙ has_same i (drawn_from rows (length rows) (without_lines top)) ∙ ap (λ rs. is_at_or_below rs top i) same

-- the part by tests that agree at every mount
pub part_told : (below : ℕ → Bool) (rows table kept : List Row) (top : Row) (path names : List (List ℕ)) → ((i : ℕ) → below i ≡ is_at_or_below table top i) → rows ≡ table → path ≡ names
    → kept ≡ filter (is_in_part below top path) rows → kept ≡ part_below table top names
part_told below rows table kept top path names same rows_same names_same e =
    e ∙ (λ k. filter (is_in_part (λ i. same i k) top (names_same k)) (rows_same k))
