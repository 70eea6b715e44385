-- The lines that lead to a row of a tree, as they grow and shrink on the way through it. No public clause cites this module.
-- A word with no source is this project's rule.
use Rattle.std.specs.Prelude.{◌≡◌, ℕ, ◌+◌, Bool, cond, List, ◌++◌, codes}
use Rattle.std.specs.List.{flat_map}
use Rattle.mt_terminal.specs.Terminal.{cells_of_text}
use Rattle.mt_render.specs.declared.leads.Strokes.{Strokes}
use Rattle.mt_render.specs.declared.leads.Path.{Path}
use Rattle.mt_render.specs.Trees.{bar}
use Rattle.mt_render.specs.Steps.{StepView, led}

-- what stands in front of all below a row
abbrev pub piece_below : Strokes → Bool → List ℕ
piece_below s last = cond last (codes "  ") (bar s)

-- and in front of all below the last of several rows, each a child of the one before
abbrev pub bars : Strokes → List Bool → List ℕ
bars s lasts = flat_map (piece_below s) lasts

-- a path has what stands in front of all below its last row, and how many cells that takes
pub record IsBarred (path : Path) : Type 0 where
  pub bars_told : path.bars.items ≡ bars path.strokes path.lasts.items
  pub width_told : path.width ≡ cells_of_text path.bars.items

-- a text takes so many cells of a line, whatever follows it
pub record HasWidth (width : ℕ) (text : List ℕ) : Type 0 where
  pub cells : (more : List ℕ) → cells_of_text (text ++ more) ≡ width + cells_of_text more

-- a path has come to the next row
pub record HasGoneOn (old : Path) (step : StepView) (new : Path) : Type 0 where
  pub strokes_kept : new.strokes ≡ old.strokes
  pub lasts_told : new.lasts.items ≡ led old.lasts.items step
  pub barred : IsBarred new
