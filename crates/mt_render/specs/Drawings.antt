-- What each drawing is.
-- A word with no source is this project's rule.
use Rattle.std.specs.Prelude.{ℕ, List}
use Rattle.std.specs.List.{flat_map}
use Rattle.mt_events.specs.Mirrors.{MirrorView}
use Rattle.mt_render.specs.declared.drawing.Drawing.{Drawing}
use Rattle.mt_render.specs.declared.drawing.Drawing.TheVariants.{Tree, PlainTree, Graph, FlatJson, NestedJson}
use Rattle.mt_render.specs.declared.leads.Strokes.TheVariants.{Lines, Ascii}
use Rattle.mt_render.specs.declared.named.SpaceName.{SpaceName}
use Rattle.mt_render.specs.Trees.{trees_text}
use Rattle.mt_render.specs.Graphs.{graph_text}
use Rattle.mt_render.specs.Objects.{flat_line, nested_line}

-- tables as they are drawn, with these names of their namespaces
unfoldable pub drawing_text : Drawing → List SpaceName → List MirrorView → List ℕ
drawing_text Tree names parts = trees_text Lines names parts
drawing_text PlainTree names parts = trees_text Ascii names parts
drawing_text Graph names parts = graph_text names parts
drawing_text FlatJson names parts = flat_map (flat_line names) parts
drawing_text NestedJson names parts = flat_map (nested_line names) parts
