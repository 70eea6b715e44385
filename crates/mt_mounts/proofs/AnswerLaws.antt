-- What the lists and indexes answer is what the mounts are.
use Rattle.std.proofs.Common.{◌≡◌, ℕ, suc, ◌++◌, Bool, true, false, cond, ◌&&◌, eqb, List, [], ◌∷◌, map, length, Option, Some, None, refl, ap, ◌∙◌, inl, inr}
use Rattle.std.specs.List.{find, filter}
use Rattle.std.specs.Option.{option_map, option_map_or, option_and_then, is_none}
use Rattle.mt_skel.specs.Keyed.{rises}
use Rattle.mt_skel.proofs.ElementLaws.{In, in_row, in_filter}
use Rattle.mt_lists.specs.Lists.{ListRow, first, ids}
use Rattle.mt_lists.specs.Numbered.{rows_by, has_number}
use Rattle.mt_lists.proofs.NumberedLaws.{ids-by}
use Rattle.mt_mounts.specs.declared.mount.Place.{Place}
use Rattle.mt_mounts.specs.declared.mount.Mount.{Mount}
use Rattle.mt_mounts.specs.Forest.{id_of, mount_at, stands_on, children, in_space, mounts_in, is_root, root_mount, roots}
use Rattle.mt_mounts.specs.Seats.{parent_of, own_space}
use Rattle.mt_mounts.specs.Indexes.{rooted_in}
use Rattle.mt_mounts.specs.Slots.{mounts_of}
use Rattle.mt_mounts.proofs.ForestLaws.{find_row}

-- the mount whose ID was found
pub mount_found : (t : Mount → Bool) (ms : List Mount) → rises id_of ms ≡ true → option_and_then (mount_at ms) (option_map id_of (find t ms)) ≡ find t ms
mount_found t ms r = go (find t ms) (λ m e. find_row t ms m r e)
  where
    go : (o : Option Mount) → ((m : Mount) → o ≡ Some m → mount_at ms m.id ≡ Some m) → option_and_then (mount_at ms) (option_map id_of o) ≡ o
    go None f = refl
    go (Some m) f = f m refl

first_found : (t : Mount → Bool) (ms : List Mount) → first (map id_of (filter t ms)) ≡ option_map id_of (find t ms)
first_found t [] = refl
first_found t (m ∷ ms) =
    elim (t m) as (λ b. first (map id_of (cond b (m ∷ filter t ms) (filter t ms))) ≡ option_map id_of (cond b (Some m) (find t ms))) [ true ↦ refl | false ↦ first_found t ms ]

numbered_as : (number : Mount → Option ℕ) (t : ℕ → Mount → Bool) → ((n : ℕ) (m : Mount) → has_number id_of number n m ≡ t n m) → (ms : List Mount) (rows : List ListRow) → rows ≡ rows_by id_of number ms → (n : ℕ) → ids rows n ≡ map id_of (filter (t n) ms)
numbered_as number t same ms rows e n = ap (λ r. ids r n) e ∙ ids-by id_of number ms n ∙ ap (λ s. map id_of (filter s ms)) (λ i m. same n m i)

child_test : (i : ℕ) (m : Mount) → has_number id_of parent_of i m ≡ stands_on i m
child_test i m =
    elim m.place as (λ o. option_map_or (λ n. eqb n i) (option_map (λ (p : Place). p.mount) o) false ≡ option_map_or (λ (p : Place). eqb p.mount i) o false) [ None ↦ refl | Some p ↦ refl ]

root_test : (n : ℕ) (m : Mount) → has_number id_of rooted_in n m ≡ is_root n m
root_test n m = elim (is_none m.place) as (λ b. option_map_or (λ k. eqb k n) (cond b (Some m.space) None) false ≡ (b && eqb m.space n)) [ true ↦ refl | false ↦ refl ]

-- the rows answer the children of a mount, the mounts of a namespace, and its root mount
pub child_ids : (ms : List Mount) (rows : List ListRow) → rows ≡ rows_by id_of parent_of ms → (i : ℕ) → ids rows i ≡ children ms i
child_ids ms rows e i = numbered_as parent_of stands_on child_test ms rows e i

pub space_ids : (ms : List Mount) (rows : List ListRow) → rows ≡ rows_by id_of own_space ms → (n : ℕ) → ids rows n ≡ map id_of (mounts_in ms n)
space_ids ms rows e n = numbered_as own_space in_space (λ k m. refl) ms rows e n

pub root_first : (ms : List Mount) (rows : List ListRow) → rows ≡ rows_by id_of rooted_in ms → (n : ℕ) → first (ids rows n) ≡ option_map id_of (root_mount ms n)
root_first ms rows e n = ap first (numbered_as rooted_in is_root root_test ms rows e n) ∙ first_found (is_root n) ms

-- how many root mounts there are
count_roots : (ms : List Mount) → length (rows_by id_of rooted_in ms) ≡ length (roots ms)
count_roots [] = refl
count_roots (m ∷ ms) =
    elim (is_none m.place) as (λ b. length (option_map_or (λ n. record { id = m.id; number = n } ∷ rows_by id_of rooted_in ms) (cond b (Some m.space) None) (rows_by id_of rooted_in ms)) ≡ length (cond b (m ∷ roots ms) (roots ms)))
    [ true ↦ ap suc (count_roots ms) | false ↦ count_roots ms ]

pub root_count : (ms : List Mount) (rows : List ListRow) → rows ≡ rows_by id_of rooted_in ms → length rows ≡ length (roots ms)
root_count ms rows e = ap length e ∙ count_roots ms

of_ids : (ms xs : List Mount) → ((x : Mount) → In x xs → mount_at ms x.id ≡ Some x) → mounts_of ms (map id_of xs) ≡ xs
of_ids ms [] f = refl
of_ids ms (x ∷ xs) f =
    ap (λ o. option_map_or (λ m. m ∷ []) o [] ++ mounts_of ms (map id_of xs)) (f x (inl refl)) ∙ ap (λ l. x ∷ l) (of_ids ms xs (λ y h. f y (inr h)))

-- the mounts of a namespace are those of its IDs
pub space_mounts : (ms : List Mount) (n : ℕ) → rises id_of ms ≡ true → mounts_of ms (map id_of (mounts_in ms n)) ≡ mounts_in ms n
space_mounts ms n r = of_ids ms (mounts_in ms n) (λ x h. in_row id_of ms x r (in_filter (in_space n) x ms h).0)
