use Rattle.std.proofs.Common.{◌≡◌, ◌+◌, ◌-◌, ◌++◌, map}
use Rattle.std.specs.List.{range_with_len}
use Rattle.mt_what_if.specs.Naming.{made_space}
use Rattle.mt_what_if.proofs.naming.push_made.Given as goal

-- the namespaces added, and those to come
abbrev pub invariant-numbers : goal.invariant-numbers
invariant-numbers l =
    l.spaces.items ++ map (made_space l.last) (range_with_len l.number (l.next - l.number))
    ≡ l.initial.spaces.items ++ map (made_space l.last) (range_with_len (l.last + 1) (l.next - (l.last + 1)))
