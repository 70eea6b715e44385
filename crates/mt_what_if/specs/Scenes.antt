-- The world of tables, on which lines are tried.
-- A word with no source is this project's rule.
use Rattle.std.specs.Prelude.{◌≡◌, ℕ, ◌+◌, false, if◌then◌else◌, List, [], ◌∷◌, map, Option}
use Rattle.mt_propagate.specs.World.{WorldView}
use Rattle.mt_propagate.specs.WellFormed.{IsWellFormed}
use Rattle.mt_questions.specs.Tables.{ToldTable}
use Rattle.mt_world.specs.declared.misfit.Misfit.{Misfit}
use Rattle.mt_world.specs.declared.row.TableRow.{TableRow}
use Rattle.mt_world.specs.Locked.{with_foreign_locks}
use Rattle.mt_world.specs.Made.{IsMade, KeepsPlain}
use Rattle.mt_what_if.specs.KnownSpaces.{TitledSpace}
use Rattle.mt_what_if.specs.Trials.{TrialView}

-- the namespaces of tables that count from a number on, under their names
abbrev pub called_from : ℕ → List ToldTable → List TitledSpace
called_from n [] = []
called_from n (t ∷ tables) = record { number = n; name = t.name; is_named = false; is_new = false } ∷ called_from (n + 1) tables

-- the numbers of those tables that count from a number on which are of foreign namespaces
abbrev pub foreign_from : ℕ → List ToldTable → List ℕ
foreign_from n [] = []
foreign_from n (t ∷ tables) = if t.is_foreign then n ∷ foreign_from (n + 1) tables else foreign_from (n + 1) tables

-- no line was tried yet on the world of these rows: those that are kept are told by it, and of plain tables all are kept; in the foreign namespaces all is
-- locked, or nothing; its filesystems are known by the devices of the rows
pub record IsWorldOfTables (rows : List TableRow) (foreign : List ℕ) (t : TrialView) : Type 0 where
  pub well_formed : IsWellFormed t.start
  -- the world before anything is locked
  pub bare : WorldView
  pub left : List (Option Misfit)
  pub private : List (Option Misfit)
  pub made : IsMade bare rows left private
  pub plain : KeepsPlain bare rows left
  pub locked : t.start ≡ with_foreign_locks rows foreign bare
  pub named : t.names ≡ map (λ (r : TableRow). r.device) rows
  pub fresh : (t.commands ≡ []) × (t.given ≡ []) × (t.refused ≡ [])
