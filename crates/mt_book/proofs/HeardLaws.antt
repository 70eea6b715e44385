-- The posts that are heard of namespaces, one after another.
use Rattle.std.proofs.Common.{◌≡◌, ◌<◌, ℕ, suc, ◌+◌, Bool, true, false, cond, List, [], ◌++◌, length, drop, get_or, drop-cons, Option, None, refl, sym, ap, ◌∙◌, arith}
use Rattle.std.specs.Option.{option_to_list}
use Rattle.mt_events.specs.Posts.{PostView}
use Rattle.mt_book.specs.Between.{BetweenView, heard_posts}
use Rattle.mt_book.specs.Book.{next_post, posts_at_change}

-- where nobody asks there is none
pub heard_one : (h : Bool) (o : Option PostView) → cond h (option_to_list o) [] ≡ option_to_list (cond h o None)
heard_one true o = refl
heard_one false o = refl

pub heard_none : (h : Bool) → cond {A = List PostView} h [] [] ≡ []
heard_none true = refl
heard_none false = refl

heard_first : (h : Bool) (o : Option PostView) (l : List PostView) → cond h (option_to_list o ++ l) [] ≡ option_to_list (cond h o None) ++ cond h l []
heard_first true o l = refl
heard_first false o l = refl

-- those from a namespace on are its own and those of the others
pub heard_next : (b : BetweenView) (rs : List (ℕ × ℕ)) (i : ℕ) (p : Option PostView) → i < length rs → p ≡ cond b.heard (next_post b.old b.new (get_or rs i (0, 0)).0 (get_or rs i (0, 0)).1) None
    → heard_posts b (drop i rs) ≡ option_to_list p ++ heard_posts b (drop (i + 1) rs)
heard_next b rs i p inside is =
    let o = next_post b.old b.new (get_or rs i (0, 0)).0 (get_or rs i (0, 0)).1 in
    let rest : suc i ≡ i + 1 = omega arith in
    ap (heard_posts b) (drop-cons rs i (0, 0) inside) ∙ heard_first b.heard o (posts_at_change b.old b.new (drop (suc i) rs))
    ∙ ap (λ q. option_to_list q ++ heard_posts b (drop (suc i) rs)) (sym is) ∙ ap (λ k. option_to_list p ++ heard_posts b (drop k rs)) rest
