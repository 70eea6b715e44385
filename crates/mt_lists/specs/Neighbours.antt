-- The neighbours of a number in a rising list, and the ends of the list. No public clause cites this module.
-- A word with no source is this project's rule.
use Rattle.std.specs.Prelude.{◌≡◌, ℕ, suc, ◌+◌, ◌-◌, ◌≤◌, ◌==◌, cond, List, [], ◌∷◌, length, Option, None, Some, nat_lt}
use Rattle.std.specs.Option.{option_map, unwrap_or}

-- the last below k of a rising list
abbrev pub below : ℕ → List ℕ → Option ℕ
below k [] = None
below k (x ∷ xs) = cond (nat_lt x k) (Some (unwrap_or (below k xs) x)) None

-- the first and the last of a list, and how many it has
pub record Ends : Type 0 where
  pub first : ℕ
  pub last : ℕ
  pub count : ℕ

-- the last of a list that begins with x
abbrev pub last_from : ℕ → List ℕ → ℕ
last_from x [] = x
last_from x (y ∷ ys) = last_from y ys

-- the ends and the length of a list, if it has any number
abbrev pub ends_of : List ℕ → Option Ends
ends_of [] = None
ends_of (x ∷ xs) = Some (record { first = x; last = last_from x xs; count = suc (length xs) })

-- the last of a list
abbrev pub last_of : List ℕ → Option ℕ
last_of xs = option_map (λ (e : Ends). e.last) (ends_of xs)

-- the ends of a list once it has one number more
abbrev pub grown : ℕ → Option Ends → Ends
grown i None = record { first = i; last = i; count = 1 }
grown i (Some e) = record { first = cond (nat_lt i e.first) i e.first; last = cond (nat_lt e.last i) i e.last; count = e.count + 1 }

-- the ends of a list once it has lost a number that had these neighbours
abbrev pub shrunk : ℕ → Option ℕ → Option ℕ → Ends → Option Ends
shrunk i before after e = cond (e.count == 1) None (Some (record {
  first = cond (e.first == i) (unwrap_or after i) e.first;
  last = cond (e.last == i) (unwrap_or before i) e.last;
  count = e.count - 1;
}))

-- the place below a number was sought from the end of a list down to here
pub record IsSought (id : ℕ) (xs : List ℕ) (here : Option ℕ) : Type 0 where
  pub bound : ℕ
  pub high : id ≤ bound
  pub is : here ≡ below bound xs
