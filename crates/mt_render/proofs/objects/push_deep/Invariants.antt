use Rattle.std.proofs.Common.{◌≡◌, ◌++◌, map, drop}
use Rattle.std.specs.List.{filter}
use Rattle.serde_json.specs.View.{view}
use Rattle.mt_render.specs.Steps.{StepView, stands_deep}
use Rattle.mt_render.specs.Objects.{flat_node}
use Rattle.mt_render.proofs.objects.push_deep.Given as goal

-- the objects that were appended, and those to come
abbrev pub invariant-drawn : goal.invariant-drawn
invariant-drawn l =
    map view l.values.items ++ map (λ (s : StepView). flat_node s.row) (filter stands_deep (drop l.step-index l.drawn)) ≡ map view l.initial.values.items ++ map (λ (s : StepView). flat_node s.row) (filter stands_deep l.drawn)
