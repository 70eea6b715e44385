use Rattle.std.proofs.Common.{◌∙◌, ap}
use Rattle.std.proofs.lemmas.Result.{IfOk-weaker}
use Rattle.mt_render.specs.Steps.{has_step}
use Rattle.mt_render.proofs.PartLaws.{below_told}
use Rattle.mt_render.proofs.part.ids_below.Goals as goal

pub returns : goal.returns
returns c =
    IfOk-weaker c.drawn_ids.result _ _ (λ ids e i. e i ∙ below_told c.in_ok-children.children c.args.table.now c.args.top.now c.deref.result.now i c.in_ok-children.ensures (c.deref.ensures.value ∙ c.in_ok-drawn.ensures)) c.drawn_ids.ensures
