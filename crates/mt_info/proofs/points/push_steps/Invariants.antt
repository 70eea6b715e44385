use Rattle.std.proofs.Common.{◌≡◌, ◌++◌, ◌∷◌, drop}
use Rattle.std.specs.List.{flat_map}
use Rattle.mt_skel.specs.Front.{IsFront}
use Rattle.mt_skel.specs.Escapes.{escaped}
use Rattle.mt_info.specs.Steps.{step_names}
use Rattle.mt_info.proofs.points.push_steps.Given as goal

-- the names of the steps passed, and of those to come
abbrev pub invariant-steps : goal.invariant-steps
invariant-steps l = record {
  text : l.text.items ++ flat_map (λ n. 47 ∷ escaped n) (flat_map (step_names l.skel) (drop l.step-index l.way)) ≡ l.initial.text.items ++ flat_map (λ n. 47 ∷ escaped n) (flat_map (step_names l.skel) l.way);
  kept : IsFront l.initial.text.items l.text.items;
}
