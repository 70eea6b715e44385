-- The posts of commands have in their fields what every post has there by its type.
use Rattle.std.proofs.Common.{◌≡◌, ℕ, ◌+◌, ◌-◌, ◌<◌, ◌≤◌, ◌^◌, Bool, true, false, cond, not, List, [], ◌∷◌, ◌++◌, length, Some, None, IsTrue, refl, sym, ◌∙◌, subst, arith, length-append, append_assoc}
use Rattle.std.proofs.lemmas.List.{length-map}
use Rattle.std.specs.List.{filter, AllByRecursion}
use Rattle.mt_skel.specs.Keyed.{rises, has}
use Rattle.mt_skel.proofs.KeyedLaws.{rises-filter}
use Rattle.mt_skel.proofs.SortedLaws.{rises-keys}
use Rattle.mt_skel.proofs.MiddleLaws.{each_append, each_left, each_right}
use Rattle.mt_propagate.specs.World.{WorldView}
use Rattle.mt_propagate.specs.Limits.{most_mounts}
use Rattle.mt_propagate.proofs.SizeLaws.{few_pass}
use Rattle.mt_info.specs.declared.row.Row.{Row}
use Rattle.mt_info.specs.Laws.{IsRow}
use Rattle.mt_info.specs.Table.{row_id, table_of}
use Rattle.mt_info.proofs.TableLaws.{table_rises}
use Rattle.mt_events.specs.Posts.{PostView, IsPost}
use Rattle.mt_events.specs.Difference.{difference, is_row_of, is_empty, post_of}
use Rattle.mt_events.proofs.ChangeLaws.{difference_told}
use Rattle.mt_book.specs.declared.command.Command.{Command}
use Rattle.mt_book.specs.Step.{next_world, after}
use Rattle.mt_book.specs.Commands.{IsCommand}
use Rattle.mt_book.specs.History.{space_number, posts_of, posts_from}
use Rattle.mt_book.specs.Book.{command_limit}
use Rattle.mt_book.proofs.EachLaws.{each_kept, each_given, each_map}
use Rattle.mt_book.proofs.TextLaws.{HasTexts, after_texts, next_texts}
use Rattle.mt_book.proofs.RowLaws.{CanTell, table_valid, table_within}
use Rattle.mt_book.proofs.GrowthLaws.{IsReached, reached, next_reached}
use Rattle.mt_book.proofs.NextLaws.{number-few}
use Rattle.mt_book.proofs.HistoryLaws.{given}

-- what is true of a table that can be told
record IsTable (t : List Row) : Type 0 where
  valid : AllByRecursion IsRow t
  rising : IsTrue (rises row_id t)
  within : length t ≤ most_mounts

table_told : (w : WorldView) (n : ℕ) → CanTell w → IsTable (table_of w n)
table_told w n h = record { valid = table_valid w n h; rising = table_rises w n h.formed; within = table_within w n h }

-- the post of a difference of two tables
difference_valid : (n number : ℕ) (a b : List Row) (p : PostView) → IsTable a → IsTable b → n < 2 ^ 64 → 1 ≤ number → number < 2 ^ 64 → post_of n number (difference a b) ≡ Some p → IsPost p
unfolding difference
difference_valid n number a b p h k space first small e = by (is_empty (difference a b)) refl e
  where
    made : is_empty (difference a b) ≡ false → IsPost (record { space = n; number = number; gone = (difference a b).gone; rows = (difference a b).rows })
    made some = record {
      space = space;
      number = small;
      first = first;
      gone = each_map IsRow (λ i. i < 2 ^ 64) row_id (λ r valid. valid.id) (filter (λ r. not (has row_id r.id b)) a) (each_kept IsRow (λ r. not (has row_id r.id b)) a h.valid);
      rows = each_kept IsRow (λ r. not (is_row_of a r)) b k.valid;
      counted = omega (arith, length-map (filter (λ r. not (has row_id r.id b)) a) row_id, few_pass (λ r. not (has row_id r.id b)) a, few_pass (λ r. not (is_row_of a r)) b, h.within, k.within);
      rising_gone = rises-keys row_id (filter (λ (r : Row). not (has row_id r.id b)) a) ∙ rises-filter row_id (λ (r : Row). not (has row_id r.id b)) a h.rising;
      rising_rows = rises-filter row_id (λ r. not (is_row_of a r)) b k.rising;
      change = difference_told a b k.rising some;
    }

    by : (q : Bool) → is_empty (difference a b) ≡ q → cond q None (Some (record { space = n; number = number; gone = (difference a b).gone; rows = (difference a b).rows })) ≡ Some p → IsPost p
    by true is f = absurd (cc)
    by false is f =
        let r : PostView = record { space = n; number = number; gone = (difference a b).gone; rows = (difference a b).rows } in
        let same : r ≡ p = cc in
        subst IsPost same (made is)

-- the world after few commands
reached_tell : (w : WorldView) (k : ℕ) → k ≤ 1048576 → HasTexts w.skel → IsReached w k → CanTell w
reached_tell w k few texts h = record {
  formed = h.well_formed;
  skeleton = h.skeleton;
  texts = texts;
  within = h.within;
  mounts = omega (arith, few, h.mounts);
  groups = omega (arith, few, h.groups);
  spaces = omega (arith, few, h.spaces);
}

-- the posts of one command
pub one_valid : (cs : List Command) (c : Command) → length cs < command_limit → AllByRecursion IsCommand cs → IsCommand c → AllByRecursion IsPost (posts_of cs c)
unfolding posts_of
one_valid cs c few before here =
    each_given IsPost (λ n. given n (space_number n cs + 1) (after cs) c) 1 ((next_world (after cs) c).next_space - 1)
    (λ n p low high e. difference_valid n (space_number n cs + 1) (table_of (after cs) n) (table_of (next_world (after cs) c) n) p (table_told (after cs) n old) (table_told (next_world (after cs) c) n new)
    (omega (arith, high, new.spaces)) (omega arith) (omega (arith, number-few n cs, few)) e)
  where
    old : CanTell (after cs)
    old = reached_tell (after cs) (length cs) (omega (arith, few)) (after_texts cs before) (reached cs)

    new : CanTell (next_world (after cs) c)
    new = reached_tell (next_world (after cs) c) (length cs + 1) (omega (arith, few)) (next_texts (after cs) c (after_texts cs before) here) (next_reached (after cs) c (length cs) (reached cs))

-- the posts of commands that come after others
pub posts_valid : (before cs : List Command) → length (before ++ cs) ≤ command_limit → AllByRecursion IsCommand (before ++ cs) → AllByRecursion IsPost (posts_from before cs)
posts_valid before [] few valid = tt
posts_valid before (c ∷ cs) few valid =
    let later = each_right IsCommand before (c ∷ cs) valid in
    let same = append_assoc before (c ∷ []) cs in
    each_append IsPost (posts_of before c) (posts_from (before ++ c ∷ []) cs)
    (one_valid before c (omega (arith, few, length-append before (c ∷ cs))) (each_left IsCommand before (c ∷ cs) valid) later.0)
    (posts_valid (before ++ c ∷ []) cs (subst (λ (l : List Command). length l ≤ command_limit) (sym same) few) (subst (AllByRecursion IsCommand) (sym same) valid))
