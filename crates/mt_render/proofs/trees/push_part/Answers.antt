use Rattle.std.proofs.Common.{◌≡◌, ◌++◌, ◌∷◌, [], ◌∙◌, List, map, ap, sym, refl}
use Rattle.mt_events.specs.Mirrors.{MirrorView}
use Rattle.mt_render.specs.declared.leads.Strokes.{Strokes}
use Rattle.mt_render.specs.declared.named.SpaceName.{SpaceName}
use Rattle.mt_render.specs.Columns.{CellsView}
use Rattle.mt_render.specs.Forest.{tree, strays}
use Rattle.mt_render.specs.Named.{name_in}
use Rattle.mt_render.specs.Trees.{header, heading, cells, fitted_text, part_tree}
use Rattle.mt_render.specs.Steps.{step_of, unrolled}
use Rattle.mt_render.proofs.AppendLaws.{two}
use Rattle.mt_render.proofs.StepLaws.{tree_unrolled, stray_unrolled}
use Rattle.mt_render.proofs.trees.push_part.Goals as goal

opened : (s : Strokes) (names : List SpaceName) (m : MirrorView)
    → part_tree s names m ≡ heading m.space (name_in names m.space) ++ fitted_text (header ∷ map (cells s) (tree m.rows)) (map (cells s) (strays m.rows))
unfolding part_tree
opened s names m = refl

pub returns : goal.returns
returns c =
    let m = c.args.part.now in
    let s = c.args.strokes in
    let first : c.push.new.self.items ≡ header ∷ [] =
    c.in_ok-push.ensures.items ∙ ap (λ (ls : List CellsView). ls ++ c.in_ok-header.field-0 ∷ []) c.new-lines.ensures.items ∙ ap (λ (h : CellsView). h ∷ []) c.in_ok-header.ensures in
    let table = c.in_ok-children.ensures ∙ c.table.ensures in
    let drawn : c.deref-2.result.now ≡ map step_of (tree m.rows) = c.deref-2.ensures.value ∙ c.in_ok-drawn.ensures ∙ ap (λ rs. map step_of (tree rs)) table in
    let below : c.deref-3.result.now ≡ map step_of (strays m.rows) = c.deref-3.ensures.value ∙ c.in_ok-strays.ensures ∙ ap (λ rs. map step_of (strays rs)) table in
    let lines : c.deref-4.result.now ≡ header ∷ map (cells s) (tree m.rows) =
    c.deref-4.ensures.value ∙ c.in_ok-push_cells.ensures ∙ ap (λ (ls : List CellsView). ls ++ map (cells s) (unrolled [] c.deref-2.result.now)) first ∙ ap (λ ss. header ∷ map (cells s) (unrolled [] ss)) drawn
    ∙ ap (λ bs. header ∷ map (cells s) bs) (tree_unrolled m.rows) in
    let others : c.deref-5.result.now ≡ map (cells s) (strays m.rows) =
    c.deref-5.ensures.value ∙ c.in_ok-push_cells-2.ensures ∙ ap (λ (ls : List CellsView). ls ++ map (cells s) (unrolled [] c.deref-3.result.now)) c.new-others.ensures.items ∙ ap (λ ss. map (cells s) (unrolled [] ss)) below
    ∙ ap (λ bs. map (cells s) bs) (stray_unrolled m.rows) in
    let end = c.push_heading.new.text.items in
    let fitted =
    c.in_ok-push_columns.ensures ∙ ap (λ ls. end ++ fitted_text ls c.deref-5.result.now) lines ∙ ap (λ os. end ++ fitted_text (header ∷ map (cells s) (tree m.rows)) os) others in
    let name = c.name_in.ensures ∙ ap (λ n. name_in c.args.names.now n) c.space-space.ensures in
    let headed = c.in_ok-push_heading.ensures ∙ (λ i. c.args.text.now.items ++ heading (c.space-space.ensures i) (name i)) in
    two c.args.text.now.items end c.push_columns.new.text.items (heading m.space (name_in c.args.names.now m.space)) (fitted_text (header ∷ map (cells s) (tree m.rows)) (map (cells s) (strays m.rows)))
    headed fitted
    ∙ ap (λ t. c.args.text.now.items ++ t) (sym (opened s c.args.names.now m))
