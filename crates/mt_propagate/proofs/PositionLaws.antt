-- Where a copy is among the copies of source mounts at targets.
use Rattle.std.proofs.Common.{◌≡◌, ◌≢◌, ℕ, suc, ◌+◌, ◌*◌, ◌<◌, ◌≤◌, ◌^◌, Bool, true, false, cond, not, ◌&&◌, ◌||◌, List, [], ◌∷◌, ◌++◌, map, length, refl, sym, ap, ◌∙◌, subst, arith}
use Rattle.std.specs.Prelude.{nat_eq, nat_lt}
use Rattle.std.specs.List.{list_any, position_or_len}
use Rattle.std.proofs.lemmas.Bool.Decides.{nat_tests}
use Rattle.std.proofs.lemmas.Nat.{mul-le}
use Rattle.mt_skel.proofs.PlaceLaws.{place-within}
use Rattle.mt_propagate.specs.Copies.{MountCopy, copy_eq}
use Rattle.mt_propagate.specs.Planned.{copies_by}
use Rattle.mt_propagate.proofs.NumberLaws.{copy_by}
use Rattle.mt_propagate.proofs.ListedLaws.{length-pairs}

-- there is one exactly where the index is below that
pub index-found : {X : Type 0} (p : X → Bool) (xs : List X) → nat_lt (position_or_len p xs) (length xs) ≡ list_any p xs
index-found p [] = refl
index-found p (x ∷ xs) = by (p x) (index-found p xs)
  where
    by : (b : Bool) → nat_lt (position_or_len p xs) (length xs) ≡ list_any p xs → nat_lt (cond (not b) (1 + position_or_len p xs) 0) (suc (length xs)) ≡ (b || list_any p xs)
    by true e = grind (arith, nat_tests)
    by false e = grind (arith, nat_tests)

count-by : (ss ts : List ℕ) → length (copies_by ss ts) ≡ length ts * length ss
count-by ss ts = length-pairs copy_by ss ts

module _ (t s : ℕ) where
  abbrev pub sought : MountCopy → Bool
  sought c = copy_eq (record { target = t; source = s }) c

  abbrev block : ℕ → List ℕ → List MountCopy
  block u ss = map (λ (s : ℕ). record { target = u; source = s }) ss

  -- at the target, in the order of the sources
  in_block : (u : ℕ) (ss : List ℕ) (rest : List MountCopy) → nat_eq t u ≡ true → position_or_len (nat_eq s) ss < length ss
      → position_or_len sought (block u ss ++ rest) ≡ position_or_len (nat_eq s) ss
  in_block u [] rest e l = absurd (omega (arith, l))
  in_block u (k ∷ ss) rest e l = by (nat_eq t u) (nat_eq s k) e l (in_block u ss rest e)
    where
      by : (a b : Bool) → a ≡ true → cond (not b) (1 + position_or_len (nat_eq s) ss) 0 < suc (length ss)
          → (position_or_len (nat_eq s) ss < length ss → position_or_len sought (block u ss ++ rest) ≡ position_or_len (nat_eq s) ss)
          → cond (not (a && b)) (1 + position_or_len sought (block u ss ++ rest)) 0 ≡ cond (not b) (1 + position_or_len (nat_eq s) ss) 0
      by true true e l ih = refl
      by true false e l ih = let i = ih (omega (arith, l)) in omega (arith, i)
      by false b e l ih = absurd (cc)

  -- after a target at which it is not
  past_target : (u : ℕ) (ss : List ℕ) (rest : List MountCopy) → nat_eq t u ≡ false → position_or_len sought (block u ss ++ rest) ≡ length ss + position_or_len sought rest
  past_target u [] rest e = omega arith
  past_target u (k ∷ ss) rest e = by (nat_eq t u) e (past_target u ss rest e)
    where
      by : (a : Bool) → a ≡ false → position_or_len sought (block u ss ++ rest) ≡ length ss + position_or_len sought rest
          → cond (not (a && nat_eq s k)) (1 + position_or_len sought (block u ss ++ rest)) 0 ≡ suc (length ss) + position_or_len sought rest
      by true e ih = absurd (cc)
      by false e ih = omega (arith, ih)

  -- after a target, where its source is none of these
  past_sources : (u : ℕ) (ss : List ℕ) (rest : List MountCopy) → position_or_len (nat_eq s) ss ≡ length ss → position_or_len sought (block u ss ++ rest) ≡ length ss + position_or_len sought rest
  past_sources u [] rest e = omega arith
  past_sources u (k ∷ ss) rest e = by (nat_eq t u) (nat_eq s k) e (past_sources u ss rest)
    where
      by : (a b : Bool) → cond (not b) (1 + position_or_len (nat_eq s) ss) 0 ≡ suc (length ss)
          → (position_or_len (nat_eq s) ss ≡ length ss → position_or_len sought (block u ss ++ rest) ≡ length ss + position_or_len sought rest)
          → cond (not (a && b)) (1 + position_or_len sought (block u ss ++ rest)) 0 ≡ suc (length ss) + position_or_len sought rest
      by a true e ih = absurd (omega (arith, e))
      by true false e ih = let i = ih (omega (arith, e)) in omega (arith, i)
      by false false e ih = let i = ih (omega (arith, e)) in omega (arith, i)

  module _ (ss : List ℕ) where
    copy_index : (ts : List ℕ) → position_or_len (nat_eq t) ts < length ts → position_or_len (nat_eq s) ss < length ss
        → position_or_len sought (copies_by ss ts) ≡ position_or_len (nat_eq t) ts * length ss + position_or_len (nat_eq s) ss
    copy_index [] lt ls = absurd (omega (arith, lt))
    copy_index (u ∷ ts) lt ls = by (nat_eq t u) refl lt (λ l. copy_index ts l ls)
      where
        by : (b : Bool) → nat_eq t u ≡ b → cond (not b) (1 + position_or_len (nat_eq t) ts) 0 < suc (length ts)
            → (position_or_len (nat_eq t) ts < length ts → position_or_len sought (copies_by ss ts) ≡ position_or_len (nat_eq t) ts * length ss + position_or_len (nat_eq s) ss)
            → position_or_len sought (block u ss ++ copies_by ss ts) ≡ cond (not b) (1 + position_or_len (nat_eq t) ts) 0 * length ss + position_or_len (nat_eq s) ss
        by true e l ih = let i = in_block u ss (copies_by ss ts) e ls in omega (arith, i)
        by false e l ih = let i = past_target u ss (copies_by ss ts) e in let j = ih (omega (arith, l)) in omega (arith, i, j)

    -- where there is no such target, or no such source
    no_target : (ts : List ℕ) → position_or_len (nat_eq t) ts ≡ length ts → position_or_len sought (copies_by ss ts) ≡ length ts * length ss
    no_target [] e = omega arith
    no_target (u ∷ ts) e = by (nat_eq t u) refl e (no_target ts)
      where
        by : (b : Bool) → nat_eq t u ≡ b → cond (not b) (1 + position_or_len (nat_eq t) ts) 0 ≡ suc (length ts)
            → (position_or_len (nat_eq t) ts ≡ length ts → position_or_len sought (copies_by ss ts) ≡ length ts * length ss)
            → position_or_len sought (block u ss ++ copies_by ss ts) ≡ suc (length ts) * length ss
        by true e l ih = absurd (omega (arith, l))
        by false e l ih = let i = past_target u ss (copies_by ss ts) e in let j = ih (omega (arith, l)) in omega (arith, i, j)

    no_source : (ts : List ℕ) → position_or_len (nat_eq s) ss ≡ length ss → position_or_len sought (copies_by ss ts) ≡ length ts * length ss
    no_source [] e = omega arith
    no_source (u ∷ ts) e = let i = past_sources u ss (copies_by ss ts) e in let j = no_source ts e in omega (arith, i, j)

-- an index among targets and one among sources make one that is below the count of copies
below-count : (a b m n : ℕ) → a < m → b < n → a * n + b < m * n
below-count a b m n la lb =
    let row : suc a * n ≤ m * n = mul-le (suc a) n m n (omega (arith, la)) (omega arith) in
    omega (arith, row, lb)

-- the same, given the list of all copies, how many targets and sources there are, and the two indexes
module _ (t s : ℕ) (ss ts : List ℕ) (cs : List MountCopy) (m n a b : ℕ) (made : copies_by ss ts ≡ cs) (targets : m ≡ length ts) (sources : n ≡ length ss) (before : a ≡ position_or_len (nat_eq t) ts)
    (index : b ≡ position_or_len (nat_eq s) ss) where
  pub count-fits : length cs < 2 ^ 64 → m * n < 2 ^ 64
  count-fits l = subst (λ k. k < 2 ^ 64) (sym ((λ i. targets i * sources i) ∙ sym (count-by ss ts) ∙ ap length made)) l

  position-is : position_or_len (sought t s) (copies_by ss ts) ≡ position_or_len (sought t s) cs
  position-is = ap (position_or_len (sought t s)) made

  pub absent-target : a ≡ m → m * n ≡ position_or_len (sought t s) cs
  absent-target e = (λ i. targets i * sources i) ∙ sym (no_target t s ss ts (sym before ∙ e ∙ targets)) ∙ position-is

  pub absent-source : b ≡ n → m * n ≡ position_or_len (sought t s) cs
  absent-source e = (λ i. targets i * sources i) ∙ sym (no_source t s ss ts (sym index ∙ e ∙ sources)) ∙ position-is

  module _ (there : a ≢ m) (known : b ≢ n) where
    lower : (a < m) × (b < n)
    lower =
        let at = place-within (nat_eq t) ts in
        let bt = place-within (nat_eq s) ss in
        let la : a ≤ m = omega (arith, at, before, targets) in
        let lb : b ≤ n = omega (arith, bt, index, sources) in
        (omega (arith, la, there), omega (arith, lb, known))

    pub index-fits : length cs < 2 ^ 64 → a * n + b < 2 ^ 64
    index-fits l = let low = below-count a b m n lower.0 lower.1 in let fits = count-fits l in omega (arith, low, fits)

    pub present : a * n + b ≡ position_or_len (sought t s) cs
    present =
        let lt : position_or_len (nat_eq t) ts < length ts = let l = lower.0 in omega (arith, l, before, targets) in
        let ls : position_or_len (nat_eq s) ss < length ss = let l = lower.1 in omega (arith, l, index, sources) in
        (λ i. before i * sources i + index i) ∙ sym (copy_index t s ss ts lt ls) ∙ position-is
