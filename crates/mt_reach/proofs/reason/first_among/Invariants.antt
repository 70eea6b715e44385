use Rattle.std.proofs.Common.{◌≡◌, drop, find}
use Rattle.mt_skel.specs.Keyed.{among}
use Rattle.mt_reach.proofs.reason.first_among.Given as goal

-- none of those passed was among the others
abbrev pub invariant-numbers : goal.invariant-numbers
invariant-numbers l = find (among l.others) (drop l.number-index l.numbers) ≡ find (among l.others) l.numbers
