-- Columns of text: cells with spaces behind them up to the widest one of their column, which is at most 60 wide (the form: findmnt(8)).
-- A word with no source is this project's rule.
use Rattle.std.specs.Prelude.{ℕ, ◌-◌, max, min, List, ◌++◌, replicate, codes, refl}
use Rattle.std.specs.Coded.{Coded, code_by, coded×, coded_ℕ, coded_list}
use Rattle.mt_terminal.specs.Terminal.{cells_of_text}
use Rattle.mt_render.specs.declared.columns.Widths.{Widths}

-- the cells of one line
pub record CellsView : Type 0 where
  pub id : List ℕ
  pub target : List ℕ
  pub source : List ℕ
  pub kind : List ℕ
  pub options : List ℕ
  pub propagation : List ℕ

-- a line of cells is stored as the tuple of its fields
abbrev pub cells_code : Coded CellsView
cells_code =
    code_by (List ℕ × (List ℕ × (List ℕ × (List ℕ × (List ℕ × List ℕ))))) (coded× (coded_list coded_ℕ) (coded× (coded_list coded_ℕ) (coded× (coded_list coded_ℕ) (coded× (coded_list coded_ℕ) (coded× (coded_list coded_ℕ) (coded_list coded_ℕ))))))
    (λ c. (c.id, (c.target, (c.source, (c.kind, (c.options, c.propagation))))))
    (λ t. record { id = t.0; target = t.1.0; source = t.1.1.0; kind = t.1.1.1.0; options = t.1.1.1.1.0; propagation = t.1.1.1.1.1 }) (λ _. refl)

-- columns without a cell
abbrev pub no_widths : Widths
no_widths = record { id = 0; target = 0; source = 0; kind = 0; options = 0 }

-- how wide a column is at most
abbrev pub most_width : ℕ
most_width = 60

-- how wide a column is for a cell
abbrev pub width_for : List ℕ → ℕ
width_for cell = min (cells_of_text cell) most_width

-- columns that are wide enough for these cells too, as far as a column may be
abbrev pub widened : Widths → CellsView → Widths
widened w c = record {
  id = max w.id (width_for c.id);
  target = max w.target (width_for c.target);
  source = max w.source (width_for c.source);
  kind = max w.kind (width_for c.kind);
  options = max w.options (width_for c.options);
}

-- a cell that others follow: spaces up to the width of its column, and one more; one that is wider pushes them to the right
abbrev pub padded : ℕ → List ℕ → List ℕ
padded w cell = cell ++ (replicate (w - cells_of_text cell) 32 ++ codes " ")

-- the line of these cells: behind the last one stands no space
unfoldable pub cells_line : Widths → CellsView → List ℕ
cells_line w c =
    padded w.id c.id ++ (padded w.target c.target ++ (padded w.source c.source ++ (padded w.kind c.kind ++ (padded w.options c.options ++ (c.propagation ++ codes "\n")))))
