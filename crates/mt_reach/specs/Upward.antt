-- What is kept of ways up. No public clause cites this module.
-- A word with no source is this project's rule.
use Rattle.std.specs.Prelude.{◌≡◌, ℕ, Bool, nat_eq, List, IfSome}
use Rattle.std.specs.declared.hash.FoldHasher.{FoldHasher}
use Rattle.std.specs.declared.hash.BuildHasherDefault.{BuildHasherDefault}
use Rattle.indexmap.specs.IndexMap.{IndexMap, get}
use Rattle.mt_reach.specs.declared.row.SeenRow.{SeenRow}
use Rattle.mt_reach.specs.declared.upward.Step.{Step}
use Rattle.mt_reach.specs.Tree.{leads_up}

-- rows, which steps are gone, and the goal
pub record UpwardView : Type 0 where
  pub rows : List SeenRow
  pub step : Step
  pub goal : ℕ

-- what is kept of a number is whether the goal is met from it on
abbrev pub AreMet : List SeenRow → Step → ℕ → IndexMap ℕ Bool (BuildHasherDefault FoldHasher) → Type 0
AreMet rows step goal m = (h : ℕ) → IfSome (get nat_eq m h) (λ met. met ≡ leads_up rows step goal h)
