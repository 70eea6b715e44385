-- What the law of this crate says.
-- A word with no source is this project's rule.
use Rattle.std.specs.Prelude.{◌≡◌, Some}
use Rattle.mt_skel.specs.Fault.{name_of}
use Rattle.mt_skel.specs.declared.fault.Fault.{Fault}
use Rattle.mt_protocol.specs.Refusals.{refusal_named}

-- the name of each refusal is that of no other
abbrev pub NamesTellRefusals : Type 0
NamesTellRefusals = (fault : Fault) → refusal_named (name_of fault) ≡ Some fault
