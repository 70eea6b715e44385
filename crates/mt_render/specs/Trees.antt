-- Tables as trees of text (the form: findmnt(8)).
-- A word with no source is this project's rule.
use Rattle.std.specs.Prelude.{ℕ, Bool, ◌==◌, cond, List, [], ◌∷◌, ◌++◌, map, length, codes, decimal}
use Rattle.std.specs.List.{flat_map, fold, join_with_byte}
use Rattle.mt_skel.specs.Escapes.{escaped}
use Rattle.mt_info.specs.RowLine.{path_text, option_words}
use Rattle.mt_events.specs.Mirrors.{MirrorView}
use Rattle.mt_terminal.specs.Terminal.{terminal_text}
use Rattle.mt_render.specs.declared.leads.Strokes.{Strokes}
use Rattle.mt_render.specs.declared.leads.Strokes.TheVariants.{Lines, Ascii}
use Rattle.mt_render.specs.declared.columns.Widths.{Widths}
use Rattle.mt_render.specs.declared.named.SpaceName.{SpaceName}
use Rattle.mt_render.specs.Named.{name_in, name_words}
use Rattle.mt_render.specs.Propagation.{propagation}
use Rattle.mt_render.specs.Columns.{CellsView, no_widths, widened, cells_line}
use Rattle.mt_render.specs.Forest.{BranchView, tree, strays}

-- in front of a row that is not the last child of its parent; in UTF-8, `├─`
abbrev pub tee : Strokes → List ℕ
tee Lines = 226 ∷ 148 ∷ 156 ∷ 226 ∷ 148 ∷ 128 ∷ []
tee Ascii = codes "|-"

-- in front of the last child of its parent; in UTF-8, `└─`
abbrev pub corner : Strokes → List ℕ
corner Lines = 226 ∷ 148 ∷ 148 ∷ 226 ∷ 148 ∷ 128 ∷ []
corner Ascii = codes "`-"

-- in front of all below a row that is not the last child of its parent; in UTF-8, `│ `
abbrev pub bar : Strokes → List ℕ
bar Lines = 226 ∷ 148 ∷ 130 ∷ 32 ∷ []
bar Ascii = codes "| "

-- the lines that lead to a row: its own piece, and in front of that one for each row above it but the top one
abbrev pub lead : Strokes → List Bool → List ℕ
lead s [] = []
lead s (last ∷ []) = cond last (corner s) (tee s)
lead s (last ∷ next ∷ lasts) = cond last (codes "  ") (bar s) ++ lead s (next ∷ lasts)

-- the directory that a mount shows at its root, where that is not the root of its filesystem
abbrev pub shown_root : List (List ℕ) → List ℕ
shown_root [] = []
shown_root (n ∷ ns) = codes "[" ++ (path_text (n ∷ ns) ++ codes "]")

-- the cells of a row, of which the names are strangers' text
abbrev pub cells : Strokes → BranchView → CellsView
cells s b = record {
  id = decimal b.row.id;
  target = lead s b.lasts ++ terminal_text (path_text b.row.point);
  source = terminal_text (escaped b.row.source ++ shown_root b.row.root);
  kind = terminal_text (escaped b.row.kind);
  options = join_with_byte 44 (option_words b.row.attrs);
  propagation = propagation b.row;
}

-- the cells of the line above the rows
abbrev pub header : CellsView
header = record {
  id = codes "ID";
  target = codes "TARGET";
  source = codes "SOURCE";
  kind = codes "FSTYPE";
  options = codes "OPTIONS";
  propagation = codes "PROPAGATION";
}

-- the lines of the rows that are in no tree, behind a line that says so
abbrev pub strays_text : Widths → List CellsView → List ℕ
strays_text w cs = cond (length cs == 0) [] (codes "not in a tree:\n" ++ flat_map (cells_line w) cs)

-- lines in columns that fit them all
abbrev pub columns_text : Widths → List CellsView → List CellsView → List ℕ
columns_text w lines others = flat_map (cells_line w) lines ++ strays_text w others

abbrev pub fitted_text : List CellsView → List CellsView → List ℕ
fitted_text lines others = columns_text (fold widened (fold widened no_widths lines) others) lines others

-- the line above the table of a namespace: its number, and its name
abbrev pub heading : ℕ → List ℕ → List ℕ
heading space name = codes "namespace " ++ (decimal space ++ (terminal_text (name_words name) ++ codes "\n"))

-- the table of a namespace
unfoldable pub part_tree : Strokes → List SpaceName → MirrorView → List ℕ
part_tree s names m = heading m.space (name_in names m.space) ++ fitted_text (header ∷ map (cells s) (tree m.rows)) (map (cells s) (strays m.rows))

-- tables, each but the first behind an empty line
abbrev pub apart : Strokes → List SpaceName → List MirrorView → List ℕ
apart s names parts = flat_map (λ m. 10 ∷ part_tree s names m) parts

abbrev pub trees_text : Strokes → List SpaceName → List MirrorView → List ℕ
trees_text s names [] = []
trees_text s names (m ∷ later) = part_tree s names m ++ apart s names later
