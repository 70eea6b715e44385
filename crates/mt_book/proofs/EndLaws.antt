-- Where the posts of a namespace begin and end.
use Rattle.std.proofs.Common.{◌≡◌, ◌⊎◌, inl, inr, ℕ, ◌+◌, ◌<◌, ◌≤◌, Bool, true, false, cond, not, ◌&&◌, ◌==◌, List, [], ◌∷◌, ◌++◌, map, length, Option, Some, None, Ok, refl, sym, ap, ◌∙◌, arith, length-append}
use Rattle.std.specs.List.{filter}
use Rattle.std.specs.Option.{option_to_list}
use Rattle.std.proofs.lemmas.Bool.Decides.{nat_tests, leb_tells}
use Rattle.std.proofs.lemmas.List.{length-map}
use Rattle.mt_skel.specs.Keyed.{has}
use Rattle.mt_propagate.specs.World.{WorldView, empty_world, is_space}
use Rattle.mt_info.specs.declared.row.Row.{Row}
use Rattle.mt_info.specs.Table.{row_id, table_of}
use Rattle.mt_events.specs.Posts.{PostView}
use Rattle.mt_events.specs.declared.post.Delta.{Delta}
use Rattle.mt_events.specs.Difference.{difference, is_empty, post_of}
use Rattle.mt_events.specs.Following.{space_posts}
use Rattle.mt_book.specs.declared.command.Command.{Command}
use Rattle.mt_book.specs.declared.command.Reply.{Reply}
use Rattle.mt_book.specs.Step.{step, makes_space, ends_space, world_or, next_world, after_from, after}
use Rattle.mt_book.specs.History.{events_from, events, space_number, posts_of, posts_from}
use Rattle.mt_book.proofs.EffectLaws.{next_by}
use Rattle.mt_book.proofs.HasLaws.{out_nowhere}
use Rattle.mt_book.proofs.DirectoryLaws.{no_post}
use Rattle.mt_book.proofs.HistoryLaws.{IsGood, next_good, after_good, next_higher, same_table, table_nowhere, given, given_out, posts_of_space, space_events}
use Rattle.mt_book.proofs.GrowthLaws.{IsReached, step_spaces, next_reached, none_reached}
use Rattle.mt_book.proofs.SpaceLaws.{step_gone, step_ends, ended_there, has_row, made_there}

-- one that is gone does not come again
next_gone : (n : ℕ) (w : WorldView) (c : Command) → IsGood w → n < w.next_space → is_space w n ≡ false → is_space (next_world w c) n ≡ false
next_gone n w c g low gone = next_by (λ v. is_space v n ≡ false) w c gone (λ v r e. step_gone w c v r n g.formed g.skeleton e low gone)

-- ---- before it is made

from_higher : (w : WorldView) (cs : List Command) → w.next_space ≤ (after_from w cs).next_space
from_higher w [] = omega arith
from_higher w (c ∷ cs) = omega (arith, next_higher w c, from_higher (next_world w c) cs)

-- a namespace whose number was not given out has no post
none_late : (n number : ℕ) (w : WorldView) (cs : List Command) → IsGood w → (n ≡ 0) ⊎ ((after_from w cs).next_space ≤ n) → events_from n number w cs ≡ []
none_late n number w [] g late = refl
none_late n number w (c ∷ cs) g late =
    let higher = from_higher (next_world w c) cs in
    let here : (n ≡ 0) ⊎ ((next_world w c).next_space ≤ n) = elim late [ inl zero ↦ inl zero | inr l ↦ inr (omega (arith, l, higher)) ] in
    ap (λ o. option_to_list o ++ events_from n (number + length (option_to_list o)) (next_world w c) cs) (given_out n number w c g here)
    ∙ none_late n (number + 0) (next_world w c) cs (next_good w c g) late

pub number_late : (n : ℕ) (cs : List Command) → (n ≡ 0) ⊎ ((after cs).next_space ≤ n) → space_number n cs ≡ 0
unfolding after events
number_late n cs late = ap length (none_late n 1 empty_world cs (after_good []) late)

-- ---- when it is made

-- a table that a namespace has, and had not, gives a post
given_some : (n number : ℕ) (w : WorldView) (c : Command) → IsGood w → is_space w n ≡ false → is_space (next_world w c) n ≡ true → 1 ≤ length (option_to_list (given n number w c))
given_some n number w c g off on = by (given n number w c) refl
  where
    v : IsGood (next_world w c)
    v = next_good w c g

    by : (o : Option PostView) → given n number w c ≡ o → 1 ≤ length (option_to_list o)
    by (Some p) e = omega arith
    by None e =
        let row = has_row (next_world w c) n v.formed on in
        let none : table_of (next_world w c) n ≡ [] = sym (same_table n number w (next_world w c) g v e) ∙ table_nowhere w n g.formed off in
        absurd (omega (arith, row, ap (λ (t : List Row). length t) none))

-- it is there then
next_made : (n k : ℕ) (w : WorldView) (c : Command) → IsReached w k → w.next_space ≤ n → n < (next_world w c).next_space → is_space (next_world w c) n ≡ true
next_made n k w c h low high = next_by (λ v. n < v.next_space → is_space v n ≡ true) w c (λ l. absurd (omega (arith, low, l))) made high
  where
    made : (v : WorldView) (r : Reply) → step w c ≡ Ok (v, r) → n < v.next_space → is_space v n ≡ true
    made v r e l = which (makes_space c) refl (step_spaces w c v r k h e)
      where
        which : (b : Bool) → makes_space c ≡ b → v.next_space ≡ w.next_space + cond b 1 0 → is_space v n ≡ true
        which true m s =
            let same : w.next_space ≡ n = omega (arith, low, l, s) in
            ap (is_space v) (sym same) ∙ made_there w c v r h.well_formed h.skeleton e m
        which false m s = absurd (omega (arith, low, l, s))

made_from : (n number k : ℕ) (w : WorldView) (cs : List Command) → IsReached w k → w.next_space ≤ n → n < (after_from w cs).next_space → 1 ≤ length (events_from n number w cs)
made_from n number k w [] h low high = absurd (omega (arith, low, high))
made_from n number k w (c ∷ cs) h low high =
    let here = option_to_list (given n number w c) in
    let all = length-append here (events_from n (number + length here) (next_world w c) cs) in
    elim (leb_tells (next_world w c).next_space n) [
      | inl late ↦ let later = made_from n (number + length here) (k + 1) (next_world w c) cs (next_reached w c k h) late.1 high in omega (arith, later, all)
      | inr made ↦
          let some = given_some n number w c (record { formed = h.well_formed; skeleton = h.skeleton }) (out_nowhere w n h.well_formed (inr low)) (next_made n k w c h low made.1) in
          omega (arith, some, all)
    ]

-- a namespace whose number was given out has had a post
pub number_some : (n : ℕ) (cs : List Command) → 1 ≤ n → n < (after cs).next_space → 1 ≤ space_number n cs
unfolding after events
number_some n cs one low = made_from n 1 0 empty_world cs none_reached one low

-- ---- once it is gone

-- a namespace that was there and is gone has no post more
pub no_more : (n number : ℕ) (w : WorldView) (cs : List Command) → IsGood w → n < w.next_space → is_space w n ≡ false → events_from n number w cs ≡ []
no_more n number w [] g low gone = refl
no_more n number w (c ∷ cs) g low gone =
    let v = next_good w c g in
    let later = next_gone n w c g low gone in
    let post = no_post w (next_world w c) n g.formed (table_nowhere (next_world w c) n v.formed later ∙ sym (table_nowhere w n g.formed gone)) number in
    ap (λ o. option_to_list o ++ events_from n (number + length (option_to_list o)) (next_world w c) cs) post
    ∙ no_more n (number + 0) (next_world w c) cs v (omega (arith, low, next_higher w c)) later

pub silent : (n : ℕ) (before cs : List Command) → n < (after before).next_space → is_space (after before) n ≡ false → space_posts n (posts_from before cs) ≡ []
silent n before cs low gone = space_events n before cs ∙ no_more n (space_number n before + 1) (after before) cs (after_good before) low gone

-- so a namespace that is not there has had no post, or has none more
pub none_or_silent : (n number : ℕ) (before cs : List Command) → is_space (after before) n ≡ false → (space_number n before ≡ 0) ⊎ (events_from n number (after before) cs ≡ [])
none_or_silent n number before cs gone = elim (leb_tells (after before).next_space n) [
  | inl late ↦ inl (number_late n before (inr late.1))
  | inr low ↦ inr (no_more n number (after before) cs (after_good before) low.1 gone)
]

-- ---- the last post

all_gone : (t : List Row) → filter (λ (r : Row). not (has row_id r.id [])) t ≡ t
all_gone [] = refl
all_gone (r ∷ t) = ap (λ l. r ∷ l) (all_gone t)

-- a table that is emptied
abbrev told : List ℕ → Delta
told ids = record { gone = ids; rows = [] }

some_told : (t : List Row) → 1 ≤ length t → is_empty (told (map row_id t)) ≡ false
some_told t some =
    let count = length-map t row_id in
    let off : (length (map row_id t) == 0) ≡ false = grind (arith, nat_tests) in
    ap (λ b. b && (length {A = Row} [] == 0)) off

emptied : (n number : ℕ) (t : List Row) → 1 ≤ length t → post_of n number (difference t []) ≡ Some (record { space = n; number = number; gone = map row_id t; rows = [] })
unfolding difference
emptied n number t some =
    let p : PostView = record { space = n; number = number; gone = map row_id t; rows = [] } in
    ap (λ (rs : List Row). post_of n number (told (map row_id rs))) (all_gone t)
    ∙ ap (λ (b : Bool). cond {A = Option PostView} b None (Some p)) (some_told t some)

-- a command that ends a namespace gives one post of it, the next one, which tells that all its mounts are gone
pub last_post : (n : ℕ) (cs : List Command) (c : Command) (v : WorldView) (r : Reply) → step (after cs) c ≡ Ok (v, r) → ends_space n c ≡ true
    → space_posts n (posts_of cs c) ≡ record { space = n; number = space_number n cs + 1; gone = map row_id (table_of (after cs) n); rows = [] } ∷ []
last_post n cs c v r e d =
    let w = after cs in
    let g = after_good cs in
    let k = space_number n cs + 1 in
    let there = ended_there w c v r n e d in
    let next : next_world w c ≡ v = ap (world_or w) e in
    let gone = step_ends w c v r n g.formed g.skeleton e d in
    let empty : table_of (next_world w c) n ≡ [] = table_nowhere (next_world w c) n (next_good w c g).formed (ap (λ (x : WorldView). is_space x n) next ∙ gone) in
    posts_of_space cs c n
    ∙ ap (λ t. option_to_list (post_of n k (difference (table_of w n) t))) empty
    ∙ ap option_to_list (emptied n k (table_of w n) (has_row w n g.formed there))
