-- What a call of mount_setattr(2) changes, where its structure tells all of it.
use Rattle.std.proofs.Common.{◌≡◌, ℕ, List, Some, refl}
use Rattle.std.specs.Prelude.{codes}
use Rattle.mt_strace.specs.Arguments.{value_named}
use Rattle.mt_trace.specs.Flags.{flags_of}
use Rattle.mt_trace.specs.MountFlags.{attribute_change}
use Rattle.mt_trace.specs.SystemCalls.{change_told}

pub all_told : (flags fields : List (List ℕ)) (s c p : List ℕ) → value_named (codes "attr_set=") fields ≡ Some s → value_named (codes "attr_clr=") fields ≡ Some c → value_named (codes "propagation=") fields ≡ Some p
    → change_told flags fields ≡ attribute_change flags (flags_of s) (flags_of c) (flags_of p)
all_told flags fields s c p es ec ep = rw (es, ec, ep) refl
