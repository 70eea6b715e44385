use Rattle.std.proofs.Common.{◌≡◌, ◌++◌, drop}
use Rattle.std.specs.List.{flat_map}
use Rattle.mt_what_if.specs.Unsure.{unsure_of}
use Rattle.mt_what_if.proofs.unsure.push_unsures.Given as goal

-- the lines appended, and those to come
abbrev pub invariant-rows : goal.invariant-rows
invariant-rows l =
    l.text.items ++ flat_map (unsure_of l.numbers l.peers.peers l.named l.before) (drop l.row-index l.after)
    ≡ l.initial.text.items ++ flat_map (unsure_of l.numbers l.peers.peers l.named l.before) l.after
