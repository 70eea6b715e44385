-- One command more: its posts, and the numbers.
use Rattle.std.proofs.Common.{◌≡◌, inr, ℕ, ◌+◌, ◌-◌, ◌<◌, ◌≤◌, Bool, true, false, cond, List, [], ◌∷◌, ◌++◌, length, Option, None, Some, Ok, refl, sym, ap, ◌∙◌, subst, arith, length-append, append-nil}
use Rattle.std.specs.List.{filter_map, range_with_len}
use Rattle.std.specs.Option.{option_to_list}
use Rattle.std.specs.Result.{is_ok}
use Rattle.mt_propagate.specs.World.{WorldView, empty_world, is_space}
use Rattle.mt_info.specs.Table.{table_of}
use Rattle.mt_skel.proofs.MiddleLaws.{and_first, and_second, and-true}
use Rattle.mt_events.specs.Posts.{PostView}
use Rattle.mt_events.specs.Difference.{difference, is_empty}
use Rattle.mt_book.specs.declared.command.Command.{Command}
use Rattle.mt_book.specs.declared.command.Reply.{Reply}
use Rattle.mt_book.specs.Step.{step, makes_space, world_or, next_world, after_from, after}
use Rattle.mt_book.specs.History.{events_from, events, space_number, posts_of}
use Rattle.mt_book.specs.Book.{command_limit, accepts, spaces_of, space_numbers, next_number, next_post, counted, posts_at_change, with_newborn, still_there, AreNumbers}
use Rattle.mt_book.proofs.GrowthLaws.{reached, step_spaces}
use Rattle.mt_book.proofs.HistoryLaws.{step_good, after_good, after-append, events-append, table_nowhere, given}
use Rattle.mt_book.proofs.DirectoryLaws.{no_post}
use Rattle.mt_book.proofs.SpaceLaws.{step_gone}
use Rattle.mt_book.proofs.ThereLaws.{paired, all_in, newborn-rows, counted-rows, posted-rows, there-rows, spaces-next, posts-all, all-rise, rows-few}
use Rattle.mt_book.proofs.EndLaws.{number_late}

-- the world after an accepted command is the one that it has made
pub after-accepted : (cs : List Command) (c : Command) (v : WorldView) (r : Reply) → step (after cs) c ≡ Ok (v, r) → after (cs ++ c ∷ []) ≡ v
after-accepted cs c v r e = after-append cs (c ∷ []) ∙ ap (world_or (after cs)) e

-- at most one post of a namespace for each command
one-more : (b : Bool) (k : ℕ) (p : PostView) → k + length (option_to_list (cond b None (Some p))) ≡ cond b k (k + 1)
one-more true k p = omega arith
one-more false k p = omega arith

number-more : (n : ℕ) (cs : List Command) (c : Command) → space_number n (cs ++ c ∷ []) ≡ next_number (after cs) (next_world (after cs) c) n (space_number n cs)
number-more n cs c =
    let w = after cs in
    let d = difference (table_of w n) (table_of (next_world w c) n) in
    let here = option_to_list (given n (space_number n cs + 1) w c) in
    let post : PostView = record { space = n; number = space_number n cs + 1; gone = d.gone; rows = d.rows } in
    ap (λ (l : List PostView). length l) (events-append n cs (c ∷ []))
    ∙ length-append (events n cs) (here ++ [])
    ∙ ap (λ (l : List PostView). space_number n cs + length l) (append-nil here)
    ∙ one-more (is_empty d) (space_number n cs) post

-- the next number of a namespace is its number after the command
pub number-next : (n : ℕ) (cs : List Command) (c : Command) (v : WorldView) (r : Reply) → step (after cs) c ≡ Ok (v, r) → next_number (after cs) v n (space_number n cs) ≡ space_number n (cs ++ c ∷ [])
number-next n cs c v r e = ap (λ (x : WorldView). next_number (after cs) x n (space_number n cs)) (sym (ap (world_or (after cs)) e)) ∙ sym (number-more n cs c)

-- no number rises above the count of commands
from-few : (n k : ℕ) (w : WorldView) (cs : List Command) → length (events_from n k w cs) ≤ length cs
from-few n k w [] = omega arith
from-few n k w (c ∷ cs) =
    let first = option_to_list (given n k w c) in
    omega (arith, length-append first (events_from n (k + length first) (next_world w c) cs), from-few n (k + length first) (next_world w c) cs, at-most-one (given n k w c))
  where
    at-most-one : (o : Option PostView) → length (option_to_list o) ≤ 1
    at-most-one None = omega arith
    at-most-one (Some p) = omega arith

pub number-few : (n : ℕ) (cs : List Command) → space_number n cs ≤ length cs
unfolding events
number-few n cs = from-few n 1 empty_world cs

-- a namespace whose number was not given out yet has number 0
pub number-newborn : (n : ℕ) (cs : List Command) → (after cs).next_space ≤ n → space_number n cs ≡ 0
number-newborn n cs late = number_late n cs (inr late)

-- ---- the numbers and posts of all namespaces

pub numbers-next : (cs : List Command) (c : Command) (v : WorldView) (r : Reply) → step (after cs) c ≡ Ok (v, r)
    → still_there v (counted (after cs) v (with_newborn (space_numbers cs) (after cs).next_space (makes_space c))) ≡ space_numbers (cs ++ c ∷ [])
unfolding space_numbers
numbers-next cs c v r e =
    let w = after cs in
    let h = reached cs in
    let more = makes_space c in
    let f : ℕ → ℕ = λ n. space_number n cs in
    let g : ℕ → ℕ = λ n. space_number n (cs ++ c ∷ []) in
    ap (λ l. still_there v (counted w v l)) (newborn-rows f w more (number-newborn w.next_space cs (omega arith)))
    ∙ ap (still_there v) (counted-rows w v f g (λ n. number-next n cs c v r e) (all_in w more))
    ∙ there-rows v g (all_in w more)
    ∙ ap (paired g) (spaces-next w v more h.well_formed.from_one.1 (step_spaces w c v r (length cs) h e) (λ n low gone. step_gone w c v r n h.well_formed h.skeleton e low gone))
    ∙ ap (λ (x : WorldView). paired g (spaces_of x)) (sym (after-accepted cs c v r e))

-- one that was not there, and that the command did not make, has no post
gone_none : (cs : List Command) (c : Command) (v : WorldView) (r : Reply) → step (after cs) c ≡ Ok (v, r) → (n k : ℕ) → n < (after cs).next_space → is_space (after cs) n ≡ false → next_post (after cs) v n k ≡ None
gone_none cs c v r e n k low gone =
    let w = after cs in
    let g = after_good cs in
    no_post w v n g.formed (table_nowhere v n (step_good w c v r g e).formed (step_gone w c v r n g.formed g.skeleton e low gone) ∙ sym (table_nowhere w n g.formed gone)) (k + 1)

pub posts-next : (cs : List Command) (c : Command) (v : WorldView) (r : Reply) → step (after cs) c ≡ Ok (v, r)
    → posts_at_change (after cs) v (with_newborn (space_numbers cs) (after cs).next_space (makes_space c)) ≡ posts_of cs c
unfolding space_numbers posts_of
posts-next cs c v r e =
    let w = after cs in
    let h = reached cs in
    let more = makes_space c in
    let f : ℕ → ℕ = λ n. space_number n cs in
    ap (posts_at_change w v) (newborn-rows f w more (number-newborn w.next_space cs (omega arith)))
    ∙ posted-rows w v f (all_in w more)
    ∙ posts-all w more v.next_space (λ n. next_post w v n (f n)) h.well_formed.from_one.1 (step_spaces w c v r (length cs) h e) (λ n low gone. gone_none cs c v r e n (f n) low gone)
    ∙ ap (λ (x : WorldView). filter_map (λ n. next_post w x n (f n)) (range_with_len 1 (x.next_space - 1))) (sym (ap (world_or w) e))

-- the numbers of all namespaces, and of one that is made, are in order, and each can go up
pub numbers-are : (cs : List Command) (more : Bool) → length cs ≤ command_limit → AreNumbers (with_newborn (space_numbers cs) (after cs).next_space more)
unfolding space_numbers
numbers-are cs more few =
    let w = after cs in
    let f : ℕ → ℕ = λ n. space_number n cs in
    subst AreNumbers (sym (newborn-rows f w more (number-newborn w.next_space cs (omega arith)))) (record {
      rising = all-rise f w more (reached cs).well_formed.from_one.1;
      few = λ i r low at. rows-few f command_limit (λ n. at_most (space_number n cs) (number-few n cs)) (all_in w more) i r low at;
    })
  where
    at_most : (a : ℕ) → a ≤ length cs → a ≤ command_limit
    at_most a l = omega (arith, l, few)

-- a journal stays one of accepted commands
accepts-from : (w : WorldView) (cs : List Command) (c : Command) → accepts w cs ≡ true → is_ok (step (after_from w cs) c) ≡ true → accepts w (cs ++ c ∷ []) ≡ true
accepts-from w [] c a e = and-true (is_ok (step w c)) true e refl
accepts-from w (d ∷ cs) c a e =
    let here = and_first (is_ok (step w d)) (accepts (next_world w d) cs) a in
    let later = and_second (is_ok (step w d)) (accepts (next_world w d) cs) a in
    and-true (is_ok (step w d)) (accepts (next_world w d) (cs ++ c ∷ [])) here (accepts-from (next_world w d) cs c later e)

pub accepts-next : (cs : List Command) (c : Command) (v : WorldView) (r : Reply) → accepts empty_world cs ≡ true → step (after cs) c ≡ Ok (v, r) → accepts empty_world (cs ++ c ∷ []) ≡ true
unfolding after
accepts-next cs c v r a e = accepts-from empty_world cs c a (ap is_ok e)
