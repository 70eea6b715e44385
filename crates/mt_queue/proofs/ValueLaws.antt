-- The posts after the items of a queue.
use Rattle.std.proofs.Common.{◌≡◌, ◌+◌, List, [], ◌∷◌, ◌++◌, length, refl, ap, ◌∙◌, arith, length-append}
use Rattle.std.specs.Arc.{arc_value}
use Rattle.mt_events.specs.Posts.{PostView}
use Rattle.mt_queue.specs.PassViews.{Item, values}

pub values-append : (xs ys : List Item) → values (xs ++ ys) ≡ values xs ++ values ys
values-append [] ys = refl
values-append (x ∷ xs) ys = ap (λ l. arc_value x ∷ l) (values-append xs ys)

pub length-values : (xs : List Item) → length (values xs) ≡ length xs
length-values [] = refl
length-values (x ∷ xs) = grind (arith, length-values xs)

-- what is held is what was sent beyond what was taken
pub held_length : (sent taken : List PostView) (items : List Item) → sent ≡ taken ++ values items → length sent ≡ length taken + length items
held_length sent taken items e = ap length e ∙ omega (arith, length-append taken (values items), length-values items)

pub nothing_held : (taken : List PostView) (items : List Item) → taken ≡ taken ++ values items → items ≡ []
nothing_held taken [] e = refl
nothing_held taken (x ∷ items) e = absurd (omega (arith, ap length e, length-append taken (values (x ∷ items))))
