-- The refusals of a server, by their names, and the errors of Linux in their place.
-- A word with no source is this project's rule.
use Rattle.std.specs.Prelude.{ℕ, List, [], ◌∷◌, Option}
use Rattle.std.specs.List.{find}
use Rattle.std.specs.Str.{bytes_eq}
use Rattle.mt_skel.specs.Fault.{name_of}
use Rattle.mt_skel.specs.declared.fault.Fault.{Fault}
use Rattle.mt_skel.specs.declared.fault.Fault.TheVariants.{TooLong, NoEntry, EntryExists, NotMountRoot, RootPlace, Unbindable, SharedParent, IntoItself, UnbindableInside, Busy, BadAttr, NoMemory, Detached, NotDetached, Locked, LockedInside, LockedAttr}
use Rattle.mt_protocol.specs.declared.errno.Errno.{Errno}
use Rattle.mt_protocol.specs.declared.errno.Errno.TheVariants.{Ebusy, Eexist, Einval, Eloop, Enametoolong, Enoent, Enomem, Eperm}
use Rattle.mt_protocol.specs.declared.refusal.TheConstants.{REFUSALS}

-- the refusal of a name, if it is that of one; a law says that `REFUSALS` lacks none
unfoldable pub refusal_named : List ℕ → Option Fault
refusal_named name = find (λ fault. bytes_eq (name_of fault) name) REFUSALS

-- the errors that calls of Linux have in the place of a refusal (docs/KERNEL.md)
abbrev pub errnos_of : Fault → List Errno
errnos_of TooLong = Enametoolong ∷ []
errnos_of NoEntry = Enoent ∷ []
errnos_of EntryExists = Eexist ∷ []
errnos_of NotMountRoot = Einval ∷ []
errnos_of RootPlace = Eloop ∷ Einval ∷ Ebusy ∷ []
errnos_of Unbindable = Einval ∷ []
errnos_of SharedParent = Einval ∷ []
errnos_of IntoItself = Eloop ∷ Ebusy ∷ Einval ∷ []
errnos_of UnbindableInside = Einval ∷ []
errnos_of Busy = Ebusy ∷ []
errnos_of BadAttr = Einval ∷ []
errnos_of NoMemory = Enomem ∷ []
errnos_of Detached = Einval ∷ []
errnos_of NotDetached = Einval ∷ []
errnos_of Locked = Einval ∷ []
errnos_of LockedInside = Einval ∷ Eperm ∷ []
errnos_of LockedAttr = Eperm ∷ []
errnos_of refusal = []
