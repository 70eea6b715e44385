use Rattle.std.proofs.Common.{◌≡◌, ◌-◌, ◌≤◌}
use Rattle.indexmap.specs.IndexMap.{get}
use Rattle.mt_skel.specs.Chain.{follow}
use Rattle.mt_mounts.specs.Forest.{place_eq, root_place}
use Rattle.mt_propagate.proofs.stacks.last_within.Given as goal

-- the steps that are left lead from here to the last
abbrev pub invariant-stack : goal.invariant-stack
invariant-stack l = record {
  within : l._step ≤ l.steps;
  leads : follow (λ m. get place_eq l.standing (root_place m)) (l.steps - l._step) l.here ≡ follow (λ m. get place_eq l.standing (root_place m)) l.steps l.fn.first;
}
