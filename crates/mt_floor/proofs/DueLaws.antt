-- The posts that are due to one watcher.
use Rattle.std.proofs.Common.{◌≡◌, ℕ, true, false, cond, not, eqb, ltb, List, [], ◌∷◌, ◌++◌, map, Option, Some, None, refl, ap, ◌∙◌, arith}
use Rattle.std.specs.List.{filter, list_all}
use Rattle.std.specs.Option.{option_map_or}
use Rattle.std.proofs.lemmas.Bool.Decides.{nat_tests}
use Rattle.mt_skel.specs.Keyed.{row_at, rises}
use Rattle.mt_skel.proofs.KeyedLaws.{row_at-below, row_at-filter, rises-filter, passing}
use Rattle.mt_skel.proofs.MiddleLaws.{and_second}
use Rattle.mt_events.specs.Posts.{PostView}
use Rattle.mt_events.specs.Following.{names_space}
use Rattle.mt_floor.specs.Watcher.{Watcher, Due, watcher_key, is_open, follows, due_for, due_pairs}

due_for-append : (key : ℕ) (xs ys : List Due) → due_for key (xs ++ ys) ≡ due_for key xs ++ due_for key ys
due_for-append key [] ys = refl
due_for-append key (x ∷ xs) ys = let ih = due_for-append key xs ys in grind (arith, nat_tests)

-- a post that is due to these watchers
abbrev for_each : PostView → List Watcher → List Due
for_each p rs = map (λ (r : Watcher). record { post = p; key = r.key }) rs

abbrev one_if : PostView → Option Watcher → List PostView
one_if p o = option_map_or (λ (r : Watcher). p ∷ []) o []

once : (key : ℕ) (p : PostView) (rs : List Watcher) → rises watcher_key rs ≡ true → due_for key (for_each p rs) ≡ one_if p (row_at watcher_key key rs)
once key p [] h = refl
once key p (r ∷ rs) h =
    let ih = once key p rs (and_second (list_all (λ y. ltb (watcher_key r) (watcher_key y)) rs) (rises watcher_key rs) h) in
    let none = row_at-below watcher_key key rs in
    grind (arith, nat_tests)

-- what of some posts is due to a watcher
abbrev pub due_row : List PostView → Option Watcher → List PostView
due_row ps o = option_map_or (λ (r : Watcher). cond (is_open r.phase) (filter (λ (p : PostView). names_space r.scope p.space) ps) []) o []

passed : (p : PostView) (o : Option Watcher) → one_if p (passing (follows p) o) ≡ option_map_or (λ r. cond (follows p r) (p ∷ []) []) o []
passed p None = refl
passed p (Some r) = elim (follows p r) as (λ b. one_if p (cond b (Some r) None) ≡ cond b (p ∷ []) []) [ true ↦ refl | false ↦ refl ]

both : (p : PostView) (ps : List PostView) (o : Option Watcher) → option_map_or (λ r. cond (follows p r) (p ∷ []) []) o [] ++ due_row ps o ≡ due_row (p ∷ ps) o
both p ps None = refl
both p ps (Some r) = grind (arith, nat_tests)

none_due : (o : Option Watcher) → ◌≡◌ {A = List PostView} [] (due_row [] o)
none_due None = refl
none_due (Some r) = elim (is_open r.phase) as (λ b. ◌≡◌ {A = List PostView} [] (cond b [] [])) [ true ↦ refl | false ↦ refl ]

-- to an open watcher those are due that its scope names, to another none
pub due_all : (key : ℕ) (ps : List PostView) (rs : List Watcher) → rises watcher_key rs ≡ true → due_for key (due_pairs ps rs) ≡ due_row ps (row_at watcher_key key rs)
due_all key [] rs h = none_due (row_at watcher_key key rs)
due_all key (p ∷ ps) rs h =
    due_for-append key (for_each p (filter (follows p) rs)) (due_pairs ps rs)
    ∙ (λ i. (once key p (filter (follows p) rs) (rises-filter watcher_key (follows p) rs h) ∙ ap (one_if p) (row_at-filter watcher_key (follows p) key rs h) ∙ passed p (row_at watcher_key key rs)) i ++ due_all key ps rs h i)
    ∙ both p ps (row_at watcher_key key rs)

abbrev pub but : ℕ → List Due → List Due
but key ds = filter (λ (e : Due). not (eqb e.key key)) ds

-- nothing is due to a watcher whose posts were taken out
pub but_same : (key : ℕ) (ds : List Due) → due_for key (but key ds) ≡ []
but_same key [] = refl
but_same key (e ∷ ds) = let ih = but_same key ds in grind (arith, nat_tests)

pub but_other : (key other : ℕ) (ds : List Due) → eqb key other ≡ false → due_for other (but key ds) ≡ due_for other ds
but_other key other [] ne = refl
but_other key other (e ∷ ds) ne = let ih = but_other key other ds ne in grind (arith, nat_tests)
