use Rattle.std.proofs.Common.{◌≡◌, ◌++◌, ◌==◌, not, drop}
use Rattle.std.specs.List.{filter}
use Rattle.mt_mounts.proofs.forest.Forest.gather_children.Given as goal

-- the children gathered, and those that are left to gather
abbrev pub invariant-loop-child : goal.invariant-loop-child
invariant-loop-child l =
    l.gathered.items ++ filter (λ child. not (child == l.start)) (drop l.child-index l.child-items)
    ≡ l.initial.gathered.items ++ filter (λ child. not (child == l.start)) l.child-items
