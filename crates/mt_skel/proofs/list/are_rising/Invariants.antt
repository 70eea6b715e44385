use Rattle.std.proofs.Common.{◌≡◌, drop}
use Rattle.mt_skel.specs.Keyed.{rises}
use Rattle.mt_skel.specs.Rising.{rises_after}
use Rattle.mt_skel.proofs.list.are_rising.Given as goal

-- all numbers rise exactly if those to come rise, all of them above the last one
abbrev pub invariant-numbers : goal.invariant-numbers
invariant-numbers l = rises_after (λ k. k) l.last (drop l.number-index l.numbers) ≡ rises (λ k. k) l.numbers
