use Rattle.std.proofs.Common.{ℕ, List, ap, ◌∙◌}
use Rattle.std.specs.List.{filter_map}
use Rattle.std.proofs.lemmas.Result.{IfOk-weaker}
use Rattle.mt_skel.specs.Keyed.{row_at}
use Rattle.mt_info.specs.Table.{row_id}
use Rattle.mt_render.specs.Forest.{child_rows}
use Rattle.mt_render.proofs.ChildrenLaws.{listed_children}
use Rattle.mt_render.proofs.children.Children.below.Goals as goal

pub returns : goal.returns
returns c =
    IfOk-weaker c.rows_of.result _ _
    (λ v e.
    e ∙ ap (λ (is : List ℕ). filter_map (λ i. row_at row_id i c.self.inside.rows.now) is) (c.deref.ensures.value ∙ c.in_ok-ids.ensures)
    ∙ listed_children c.self.inside.rows.now c.self.inside.parents.rows c.self.invariant c.args.row.now ∙ ap (λ rs. child_rows rs c.args.row.now) c.self.view_is)
    c.rows_of.ensures
