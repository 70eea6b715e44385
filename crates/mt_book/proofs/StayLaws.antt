-- The namespaces that were there stay, but where one is dropped; and what is not touched has no other number and no post.
use Rattle.std.proofs.Common.{◌≡◌, ℕ, ◌-◌, Bool, true, false, cond, List, [], ◌∷◌, Result, Ok, Err, refl, sym, ap, ◌∙◌, arith}
use Rattle.std.specs.List.{filter, list_all, range_with_len}
use Rattle.std.specs.Result.{is_ok}
use Rattle.std.proofs.lemmas.Bool.Decides.{nat_tests}
use Rattle.std.proofs.lemmas.List.Folds.{list_all-append, list_all-map}
use Rattle.mt_skel.specs.declared.fault.Fault.{Fault}
use Rattle.mt_skel.specs.Skeleton.{IsSkeleton}
use Rattle.mt_skel.proofs.ElementLaws.{in_filter}
use Rattle.mt_skel.proofs.KeyedLaws.{same_rows}
use Rattle.mt_skel.proofs.MiddleLaws.{and-true}
use Rattle.mt_propagate.specs.World.{WorldView, is_space}
use Rattle.mt_propagate.specs.WellFormed.{IsWellFormed}
use Rattle.mt_propagate.proofs.RowLaws.{in_all}
use Rattle.mt_info.specs.Table.{row_id, table_of}
use Rattle.mt_info.proofs.TableLaws.{table_rises}
use Rattle.mt_events.specs.Difference.{HoldsChanged}
use Rattle.mt_events.proofs.EmptyLaws.{all-weaker}
use Rattle.mt_book.specs.declared.command.Command.{Command}
use Rattle.mt_book.specs.declared.command.Command.TheVariants.{DropSpace, MoveTree}
use Rattle.mt_book.specs.declared.command.Reply.{Reply}
use Rattle.mt_book.specs.Step.{step, makes_space, drops_space, ends_space, world_or, next_world, after}
use Rattle.mt_book.specs.Book.{space_in, spaces_of, space_numbers, counted, with_newborn, still_there}
use Rattle.mt_book.specs.History.{space_number}
use Rattle.mt_book.proofs.SpaceLaws.{step_stays, made_there}
use Rattle.mt_book.proofs.ThereLaws.{numbered_row}

-- ---- a namespace in which no mount may have changed

-- its table stays
pub untouched : (w v : WorldView) (n : ℕ) → IsWellFormed w → IsWellFormed v → HoldsChanged (table_of w n) (table_of v n) [] → table_of v n ≡ table_of w n
untouched w v n h g held = same_rows row_id (table_of v n) (table_of w n) (table_rises v n g) (table_rises w n h) (λ q. sym (held q refl))

-- ---- namespaces that were there

-- each of these is there
abbrev pub all_there : WorldView → List (ℕ × ℕ) → Bool
all_there w rs = list_all (λ r. is_space w (space_in r)) rs

none_ends : (c : Command) (n : ℕ) → drops_space c ≡ false → ends_space n c ≡ false
none_ends (DropSpace k) n d = absurd (cc)
none_ends (MoveTree tree k path) n d = absurd (cc)
none_ends c n d = refl

-- with the one that a command makes
newborn_there : (v : WorldView) (rs : List (ℕ × ℕ)) (n : ℕ) (more : Bool) → all_there v rs ≡ true → (more ≡ true → is_space v n ≡ true) → all_there v (with_newborn rs n more) ≡ true
newborn_there v rs n more all made =
    list_all-append (λ r. is_space v (space_in r)) rs (cond more (numbered_row n 0 ∷ []) [])
    ∙ and-true (all_there v rs) (all_there v (cond more (numbered_row n 0 ∷ []) [])) all (last more made)
  where
    last : (b : Bool) → (b ≡ true → is_space v n ≡ true) → all_there v (cond b (numbered_row n 0 ∷ []) []) ≡ true
    last true f = and-true (is_space v n) true (f refl) refl
    last false f = refl

-- a filter leaves out none of them, whatever their numbers are
counted_there : (w v : WorldView) (rs : List (ℕ × ℕ)) → all_there v rs ≡ true → still_there v (counted w v rs) ≡ counted w v rs
counted_there w v [] all = refl
counted_there w v (r ∷ rs) all = let ih = counted_there w v rs in grind (arith, nat_tests)

-- after a command that drops none, all are there
pub all_stay : (w v : WorldView) (c : Command) (rs : List (ℕ × ℕ)) → IsWellFormed w → IsSkeleton w.skel → is_ok (step w c) ≡ true → v ≡ next_world w c → drops_space c ≡ false → all_there w rs ≡ true
    → still_there v (counted w v (with_newborn rs w.next_space (makes_space c))) ≡ counted w v (with_newborn rs w.next_space (makes_space c))
all_stay w v c rs h s ok next drops all = counted_there w v (with_newborn rs w.next_space (makes_space c)) (by (step w c) refl ok next)
  where
    by : (q : Result (WorldView × Reply) Fault) → step w c ≡ q → is_ok q ≡ true → v ≡ world_or w q → all_there v (with_newborn rs w.next_space (makes_space c)) ≡ true
    by (Ok p) e t is =
        let done : step w c ≡ Ok (v, p.1) = e ∙ ap (λ (x : WorldView). Ok (x, p.1)) (sym is) in
        newborn_there v rs w.next_space (makes_space c)
        (all-weaker (λ r. is_space w (space_in r)) (λ r. is_space v (space_in r)) (λ r there. step_stays w c v p.1 (space_in r) h s done (none_ends c (space_in r) drops) there) rs all)
        (made_there w c v p.1 h s done)
    by (Err x) e t is = absurd (cc)

-- ---- what is kept of them

passed : (t : ℕ → Bool) (xs : List ℕ) → list_all t (filter t xs) ≡ true
passed t xs = in_all t (filter t xs) (λ x there. (in_filter t x xs there).1)

pub numbers-there : (cs : List Command) → all_there (after cs) (space_numbers cs) ≡ true
unfolding space_numbers
numbers-there cs =
    list_all-map (λ r. is_space (after cs) (space_in r)) (λ n. numbered_row n (space_number n cs)) (spaces_of (after cs))
    ∙ passed (is_space (after cs)) (range_with_len 1 ((after cs).next_space - 1))
