use Rattle.std.proofs.Common.{◌≡◌, ◌++◌, map, drop}
use Rattle.serde_json.specs.View.{view}
use Rattle.mt_render.specs.Steps.{StepView}
use Rattle.mt_render.specs.Objects.{flat_node}
use Rattle.mt_render.proofs.objects.push_strays.Given as goal

-- the objects that were appended, and those to come
abbrev pub invariant-others : goal.invariant-others
invariant-others l =
    map view l.values.items ++ map (λ (s : StepView). flat_node s.row) (drop l.step-index l.others) ≡ map view l.initial.values.items ++ map (λ (s : StepView). flat_node s.row) l.others
