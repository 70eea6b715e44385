-- The mounts on the way up to another one.
use Rattle.std.proofs.Common.{◌≡◌, ℕ, zero, suc, ◌+◌, ◌-◌, ◌≤◌, ◌<◌, true, false, not, ◌==◌, List, [], ◌∷◌, ◌++◌, length, Option, Some, None, sym, ap, ◌∙◌, append-nil, append_assoc, arith}
use Rattle.std.specs.List.{take_while}
use Rattle.mt_skel.specs.Chain.{chain}
use Rattle.mt_skel.proofs.WorklistLaws.{within, within-suc, within-self}
use Rattle.mt_reach.specs.declared.row.SeenRow.{SeenRow}
use Rattle.mt_reach.specs.declared.upward.Step.TheVariants.{ToParent}
use Rattle.mt_reach.specs.Tree.{step_up, in_tree}
use Rattle.mt_reach.specs.Refusals.{way_below}

module _ (next : ℕ → Option ℕ) (i : ℕ) where
  -- the numbers before the goal
  abbrev pub before : List ℕ → List ℕ
  before = take_while (λ k. not (k == i))

  none_met : (k h : ℕ) → next h ≡ None → (h == i) ≡ false → within next i k h ≡ false
  none_met zero h none off = grind arith
  none_met (suc k) h none off = within-suc next i k h ∙ grind arith

  goal_first : (k h : ℕ) → (h == i) ≡ true → before (chain next k h) ≡ []
  goal_first zero h is = grind arith
  goal_first (suc k) h is = grind arith

  other_first : (k h m : ℕ) → (h == i) ≡ false → next h ≡ Some m → before (chain next (suc k) h) ≡ h ∷ before (chain next k m)
  other_first k h m off is = grind arith

module _ (rows : List SeenRow) (i from : ℕ) where
  abbrev up : ℕ → Option ℕ
  up = step_up rows ToParent

  -- after so many steps up
  pub record IsGoingUp (count here : ℕ) (way : List ℕ) : Type 0 where
    pub met : count ≤ length rows → in_tree rows i from ≡ within up i (length rows - count) here
    pub left : count ≤ length rows → way ++ before up i (chain up (length rows - count) here) ≡ way_below rows i from
    pub over : length rows < count → in_tree rows i from ≡ false

  pub begun_up : (way : List ℕ) → way ≡ [] → IsGoingUp 0 from way
  begun_up way none =
      let same : length rows - 0 ≡ length rows = omega arith in
      record {
        met = λ l. ap (λ k. within up i k from) (sym same);
        left = λ l. (λ k. none k ++ before up i (chain up (same k) from));
        over = λ l. absurd (omega arith);
      }

  module _ (count here : ℕ) (way more : List ℕ) (w : IsGoingUp count here way) (l : count ≤ length rows) where
    pub up_met : (here == i) ≡ true → in_tree rows i from ≡ true
    up_met is = w.met l ∙ within-self up i (length rows - count) here is

    pub up_left : (here == i) ≡ true → way ≡ way_below rows i from
    up_left is = sym (append-nil way) ∙ ap (λ t. way ++ t) (sym (goal_first up i (length rows - count) here is)) ∙ w.left l

    module _ (off : (here == i) ≡ false) where
      pub up_ended : up here ≡ None → in_tree rows i from ≡ false
      up_ended none = w.met l ∙ none_met up i (length rows - count) here none off

      last : length rows < count + 1 → in_tree rows i from ≡ false
      last b = let none : length rows - count ≡ 0 = omega arith in w.met l ∙ ap (λ k. within up i k here) none ∙ grind arith

      pub up_step : (m : ℕ) → up here ≡ Some m → more ≡ way ++ here ∷ [] → IsGoingUp (count + 1) m more
      up_step m is longer = record {
        met = λ b.
            let s : length rows - count ≡ suc (length rows - (count + 1)) = omega arith in
            w.met l ∙ ap (λ k. within up i k here) s ∙ within-suc up i (length rows - (count + 1)) here ∙ grind arith;
        left = λ b.
            let s : length rows - count ≡ suc (length rows - (count + 1)) = omega arith in
            let rest = before up i (chain up (length rows - (count + 1)) m) in
            ap (λ t. t ++ rest) longer ∙ append_assoc way (here ∷ []) rest
            ∙ ap (λ t. way ++ t) (sym (ap (λ k. before up i (chain up k here)) s ∙ other_first up i (length rows - (count + 1)) here m off is))
            ∙ w.left l;
        over = last;
      }
