-- The names that refusals are printed by.
-- A word with no source is this project's rule.
use Rattle.std.specs.Prelude.{ℕ, List, codes}
use Rattle.mt_skel.specs.declared.fault.Fault.{Fault}
use Rattle.mt_skel.specs.declared.fault.Fault.TheVariants.{BadLine, TooLong, BadPath, JournalFull, NoFilesystem, FilesystemExists, NoNamespace, NoEntry, EntryExists, NotMountRoot, RootPlace, Unbindable, SharedParent, IntoItself, UnbindableInside, Busy, BadAttr, TooMany, NoWatcher, WatcherOpen, TooManyWatchers, Lagged, Stopped, NoMemory, Detached, NotDetached, Locked, LockedInside, LockedAttr}

-- the name of a refusal is that of its variant
abbrev pub name_of : Fault → List ℕ
name_of BadLine = codes "BadLine"
name_of TooLong = codes "TooLong"
name_of BadPath = codes "BadPath"
name_of JournalFull = codes "JournalFull"
name_of NoFilesystem = codes "NoFilesystem"
name_of FilesystemExists = codes "FilesystemExists"
name_of NoNamespace = codes "NoNamespace"
name_of NoEntry = codes "NoEntry"
name_of EntryExists = codes "EntryExists"
name_of NotMountRoot = codes "NotMountRoot"
name_of RootPlace = codes "RootPlace"
name_of Unbindable = codes "Unbindable"
name_of SharedParent = codes "SharedParent"
name_of IntoItself = codes "IntoItself"
name_of UnbindableInside = codes "UnbindableInside"
name_of Busy = codes "Busy"
name_of BadAttr = codes "BadAttr"
name_of TooMany = codes "TooMany"
name_of NoWatcher = codes "NoWatcher"
name_of WatcherOpen = codes "WatcherOpen"
name_of TooManyWatchers = codes "TooManyWatchers"
name_of Lagged = codes "Lagged"
name_of Stopped = codes "Stopped"
name_of NoMemory = codes "NoMemory"
name_of Detached = codes "Detached"
name_of NotDetached = codes "NotDetached"
name_of Locked = codes "Locked"
name_of LockedInside = codes "LockedInside"
name_of LockedAttr = codes "LockedAttr"
