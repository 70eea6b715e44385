use Rattle.std.proofs.Common.{◌≡◌, ℕ, take}
use Rattle.mt_skel.specs.Keyed.{among}
use Rattle.mt_unmount.proofs.holding.started.Given as goal

-- the set has the IDs passed
abbrev pub invariant-loop-id : goal.invariant-loop-id
invariant-loop-id l = (j : ℕ) → among l.set.keys j ≡ among (take l.id-index l.ids) j
