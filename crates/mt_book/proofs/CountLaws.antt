-- How many posts there are.
use Rattle.std.proofs.Common.{ℕ, zero, suc, ◌+◌, ◌-◌, ◌*◌, ◌≤◌, List, [], ◌∷◌, ◌++◌, length, Option, Some, None, arith, length-append}
use Rattle.std.specs.List.{filter_map, cons_option, range_with_len}
use Rattle.mt_events.specs.Posts.{PostView}
use Rattle.mt_book.specs.declared.command.Command.{Command}
use Rattle.mt_book.specs.Step.{next_world, after}
use Rattle.mt_book.specs.History.{space_number, posts_of, posts_from}
use Rattle.mt_book.proofs.GrowthLaws.{reached, next_reached}
use Rattle.mt_book.proofs.HistoryLaws.{given}

few_given : (f : ℕ → Option PostView) (a n : ℕ) → length (filter_map f (range_with_len a n)) ≤ n
few_given f a zero = omega arith
few_given f a (suc n) =
    let ih = few_given f (a + 1) n in
    elim (f a) as (λ o. length (cons_option o (filter_map f (range_with_len (a + 1) n))) ≤ suc n) [ None ↦ omega (arith, ih) | Some p ↦ omega (arith, ih) ]

-- a command gives no more posts than there are commands up to it, itself among them
pub few_posts : (cs : List Command) (c : Command) → length (posts_of cs c) ≤ length cs + 1
unfolding posts_of
few_posts cs c =
    omega (arith, few_given (λ n. given n (space_number n cs + 1) (after cs) c) 1 ((next_world (after cs) c).next_space - 1), (next_reached (after cs) c (length cs) (reached cs)).spaces)

-- and each of the commands after others no more than there are commands in all
pub posts_few : (before cs : List Command) (m : ℕ) → length before + length cs ≤ m → length (posts_from before cs) ≤ length cs * m
posts_few before [] m l = omega arith
posts_few before (c ∷ cs) m l =
    let here = few_posts before c in
    let rest = posts_few (before ++ c ∷ []) cs m (omega (arith, l, length-append before (c ∷ []))) in
    omega (arith, here, rest, l, length-append (posts_of before c) (posts_from (before ++ c ∷ []) cs))
