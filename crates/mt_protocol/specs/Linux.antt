-- What Linux has in the place of a refusal.
-- A word with no source is this project's rule.
use Rattle.std.specs.Prelude.{List, [], map}
use Rattle.mt_protocol.specs.declared.errno.Errno.{Errno}
use Rattle.mt_protocol.specs.declared.refusal.InLinux.{InLinux}
use Rattle.mt_protocol.specs.declared.refusal.InLinux.TheVariants.{Errors, Nothing}

-- its errors
abbrev pub errnos_in : InLinux → List Errno
errnos_in (Errors cases) = map (λ c. c.errno) cases.now
errnos_in (Nothing why) = []
