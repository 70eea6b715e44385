-- Groups that are appended on the way up from one.
use Rattle.std.proofs.Common.{◌≡◌, ℕ, suc, ◌+◌, ◌-◌, ◌≤◌, ◌<◌, List, [], ◌∷◌, ◌++◌, length, Option, Some, None, sym, ap, ◌∙◌, append_assoc, arith}
use Rattle.mt_skel.specs.Chain.{chain}
use Rattle.mt_skel.proofs.ChainLaws.{chain-last}
use Rattle.mt_reach.specs.declared.row.SeenRow.{SeenRow}
use Rattle.mt_reach.specs.declared.upward.Step.{Step}
use Rattle.mt_reach.specs.Tree.{step_up, steps_up}

chain-suc-some : (next : ℕ → Option ℕ) (k h m : ℕ) → next h ≡ Some m → chain next (suc k) h ≡ h ∷ chain next k m
chain-suc-some next k h m is = grind arith

module _ (rows : List SeenRow) (step : Step) (first : ℕ) where
  abbrev up : ℕ → Option ℕ
  up = step_up rows step

  -- after so many steps up, from the groups that were there before
  pub record IsPushing (count here : ℕ) (before groups : List ℕ) : Type 0 where
    pub left : count ≤ length rows → groups ++ chain up (length rows - count) here ≡ before ++ steps_up rows step first
    pub over : length rows < count → groups ≡ before ++ steps_up rows step first

  pub begun_pushing : (before groups : List ℕ) → groups ≡ before → IsPushing 0 first before groups
  begun_pushing before groups e =
      let same : length rows - 0 ≡ length rows = omega arith in
      record { left = λ l. (λ k. e k ++ chain up (same k) first); over = λ l. absurd (omega arith) }

  module _ (count here : ℕ) (before groups more : List ℕ) (w : IsPushing count here before groups) (l : count ≤ length rows) (longer : more ≡ groups ++ here ∷ []) where
    -- where no master is left
    pub pushed_last : up here ≡ None → more ≡ before ++ steps_up rows step first
    pushed_last none = longer ∙ ap (λ t. groups ++ t) (sym (chain-last up (length rows - count) here none)) ∙ w.left l

    out : length rows < count + 1 → more ≡ before ++ steps_up rows step first
    out b = let none : length rows - count ≡ 0 = omega arith in longer ∙ ap (λ k. groups ++ chain up k here) (sym none) ∙ w.left l

    pub pushed_step : (m : ℕ) → up here ≡ Some m → IsPushing (count + 1) m before more
    pushed_step m is = record {
      left = λ b.
          let s : length rows - count ≡ suc (length rows - (count + 1)) = omega arith in
          let rest = chain up (length rows - (count + 1)) m in
          ap (λ t. t ++ rest) longer ∙ append_assoc groups (here ∷ []) rest
          ∙ ap (λ t. groups ++ t) (sym (ap (λ k. chain up k here) s ∙ chain-suc-some up (length rows - (count + 1)) here m is)) ∙ w.left l;
      over = out;
    }
