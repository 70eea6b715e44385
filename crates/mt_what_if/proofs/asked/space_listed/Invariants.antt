use Rattle.std.proofs.Common.{◌≡◌, drop}
use Rattle.mt_what_if.specs.Asked.{space_listed}
use Rattle.mt_what_if.proofs.asked.space_listed.Given as goal

-- none passed is the word
abbrev pub invariant-names : goal.invariant-names
invariant-names l = space_listed (drop l.name-index l.names) l.word ≡ space_listed l.names l.word
