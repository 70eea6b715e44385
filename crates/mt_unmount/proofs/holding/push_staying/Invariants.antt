use Rattle.std.proofs.Common.{◌≡◌, ◌++◌, drop, not}
use Rattle.std.specs.List.{filter}
use Rattle.mt_skel.specs.Keyed.{among}
use Rattle.mt_unmount.proofs.holding.push_staying.Given as goal

-- the children passed are there, if they are no candidates
abbrev pub invariant-loop-child : goal.invariant-loop-child
invariant-loop-child l = l.ids.items ++ filter (λ j. not (among l.candidates j)) (drop l.child-index l.child-items) ≡ l.initial.ids.items ++ filter (λ j. not (among l.candidates j)) l.child-items
