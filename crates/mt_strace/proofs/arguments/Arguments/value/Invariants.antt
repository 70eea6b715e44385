use Rattle.std.proofs.Common.{◌≡◌, length}
use Rattle.mt_strace.specs.Arguments.{value_named}
use Rattle.mt_strace.proofs.arguments.Arguments.value.Given as goal

abbrev pub invariant-fields : goal.invariant-fields
invariant-fields l = value_named l.name l.fields ≡ value_named l.name l.initial.fields

abbrev pub decreases-fields : goal.decreases-fields
decreases-fields l = length l.fields
