use Rattle.std.proofs.Common.{◌≡◌, ◌++◌, drop}
use Rattle.std.specs.List.{flat_map}
use Rattle.mt_info.specs.Steps.{step_names}
use Rattle.mt_info.proofs.points.add_steps.Given as goal

-- the names of the steps passed, and of those to come
abbrev pub invariant-steps : goal.invariant-steps
invariant-steps l = l.names ++ flat_map (step_names l.skel) (drop l.step-index l.way) ≡ l.fn.path ++ flat_map (step_names l.skel) l.way
