-- A way up: all numbers on it answer alike whether the goal is met.
use Rattle.std.proofs.Common.{◌≡◌, ℕ, suc, ◌+◌, ◌-◌, ◌≤◌, ◌<◌, Bool, true, false, ◌==◌, List, [], ◌∷◌, ◌++◌, length, Some, None, refl, sym, ap, ◌∙◌, arith}
use Rattle.std.specs.List.{list_all}
use Rattle.std.proofs.lemmas.List.Folds.{list_all-append}
use Rattle.mt_skel.proofs.WorklistLaws.{within, within-suc}
use Rattle.mt_info.specs.SameRow.{bool_eq}
use Rattle.mt_reach.specs.declared.row.SeenRow.{SeenRow}
use Rattle.mt_reach.specs.declared.upward.Step.{Step}
use Rattle.mt_reach.specs.Tree.{step_up, leads_up}
use Rattle.mt_reach.proofs.MeetLaws.{meets_up}

bool_same : (b : Bool) → bool_eq b b ≡ true
bool_same true = refl
bool_same false = refl

module _ (rows : List SeenRow) (step : Step) (goal : ℕ) where
  -- a number answers so
  abbrev pub answers : Bool → ℕ → Bool
  answers met h = bool_eq (leads_up rows step goal h) met

  -- after so many steps up from the first number
  pub record IsOnWay (first count here : ℕ) (way : List ℕ) : Type 0 where
    pub same : leads_up rows step goal here ≡ leads_up rows step goal first
    pub passed : list_all (answers (leads_up rows step goal first)) way ≡ true
    pub left : count ≤ length rows → leads_up rows step goal first ≡ within (step_up rows step) goal (length rows - count) here
    pub over : length rows < count → leads_up rows step goal first ≡ false

  pub way_start : (first : ℕ) (way : List ℕ) → way ≡ [] → IsOnWay first 0 first way
  way_start first way none = record {
    same = refl;
    passed = ap (list_all (answers (leads_up rows step goal first))) none;
    left = λ l. let same : length rows ≡ length rows - 0 = omega arith in ap (λ k. within (step_up rows step) goal k first) same;
    over = λ l. absurd (omega arith);
  }

  module _ (first count here : ℕ) (way more : List ℕ) (w : IsOnWay first count here way) (off : (here == goal) ≡ false) (longer : more ≡ way ++ here ∷ []) where
    -- the number that is met is passed
    pub way_passed : list_all (answers (leads_up rows step goal first)) more ≡ true
    way_passed =
        let met = leads_up rows step goal first in
        let one : answers met here ≡ true = ap (λ b. bool_eq b met) w.same ∙ bool_same met in
        let all = w.passed in
        ap (list_all (answers met)) longer ∙ list_all-append (answers met) way (here ∷ []) ∙ grind arith

    -- above one that has no next none is left
    pub way_ended : step_up rows step here ≡ None → leads_up rows step goal first ≡ false
    way_ended none = let u = meets_up rows step goal here in sym w.same ∙ u ∙ grind arith

    last : length rows < count + 1 → count ≤ length rows → leads_up rows step goal first ≡ false
    last l m = let none : length rows - count ≡ 0 = omega arith in w.left m ∙ ap (λ k. within (step_up rows step) goal k here) none ∙ grind arith

    -- one step further up
    pub way_step : (above : ℕ) → step_up rows step here ≡ Some above → count ≤ length rows → IsOnWay first (count + 1) above more
    way_step above is l =
        let u = meets_up rows step goal here in
        let same = w.same in
        record {
          same = grind arith;
          passed = way_passed;
          left = λ k.
              let s : length rows - count ≡ suc (length rows - (count + 1)) = omega arith in
              let before = w.left l ∙ ap (λ j. within (step_up rows step) goal j here) s ∙ within-suc (step_up rows step) goal (length rows - (count + 1)) here in
              grind arith;
          over = λ k. last k l;
        }

  -- what is passed answers as the first
  pub way_answers : (met : Bool) (first : ℕ) (way : List ℕ) → met ≡ leads_up rows step goal first → list_all (answers (leads_up rows step goal first)) way ≡ true → list_all (answers met) way ≡ true
  way_answers met first way e all = ap (λ b. list_all (answers b) way) e ∙ all
