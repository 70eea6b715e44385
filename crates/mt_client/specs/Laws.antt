-- What the law of this crate says.
-- A word with no source is this project's rule.
use Rattle.std.specs.Prelude.{◌≡◌, true, ◌++◌, codes}
use Rattle.mt_skel.specs.Fault.{name_of}
use Rattle.mt_skel.specs.declared.fault.Fault.{Fault}
use Rattle.mt_client.specs.Requests.{is_refusal}

-- the line of each refusal refuses
abbrev pub RefusalsAreRead : Type 0
RefusalsAreRead = (fault : Fault) → is_refusal (codes "no " ++ name_of fault) ≡ true
