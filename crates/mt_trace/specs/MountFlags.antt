-- What the flags of mount(2) and the attributes of mount_setattr(2) ask for.
-- A word with no source is this project's rule.
use Rattle.std.specs.Prelude.{ℕ, Bool, false, not, ◌&&◌, ◌||◌, if◌then◌else◌, List, [], ◌∷◌, Option, None, Some, Result, Ok, Err, codes}
use Rattle.std.specs.Option.{option_map_or, option_or}
use Rattle.mt_peers.specs.declared.state.Kind.{Kind}
use Rattle.mt_peers.specs.declared.state.Kind.TheVariants as kind
use Rattle.mt_setattr.specs.declared.change.Change.{Change}
use Rattle.mt_setattr.specs.declared.change.ClrWords.{ClrWords}
use Rattle.mt_setattr.specs.declared.change.SetWords.{SetWords}
use Rattle.mt_trace.specs.declared.mount_flags.MountOperation.{MountOperation}
use Rattle.mt_trace.specs.declared.mount_flags.MountOperation.TheVariants as operation
use Rattle.mt_trace.specs.declared.unknown.Unknown.{Unknown}
use Rattle.mt_trace.specs.declared.unknown.Unknown.TheVariants as unknown
use Rattle.mt_trace.specs.Flags.{no_flags, has_flag, are_flags_of}

-- the flags that strace has names for (mount(2)); another one is not known
abbrev pub mount_flag_words : List (List ℕ)
mount_flag_words =
    codes "0" ∷ codes "MS_MGC_VAL" ∷ codes "MS_RDONLY" ∷ codes "MS_NOSUID" ∷ codes "MS_NODEV" ∷ codes "MS_NOEXEC" ∷ codes "MS_SYNCHRONOUS"
    ∷ codes "MS_REMOUNT" ∷ codes "MS_MANDLOCK" ∷ codes "MS_DIRSYNC" ∷ codes "MS_NOSYMFOLLOW" ∷ codes "MS_NOATIME" ∷ codes "MS_NODIRATIME"
    ∷ codes "MS_BIND" ∷ codes "MS_MOVE" ∷ codes "MS_REC" ∷ codes "MS_SILENT" ∷ codes "MS_POSIXACL" ∷ codes "MS_UNBINDABLE" ∷ codes "MS_PRIVATE"
    ∷ codes "MS_SLAVE" ∷ codes "MS_SHARED" ∷ codes "MS_RELATIME" ∷ codes "MS_I_VERSION" ∷ codes "MS_STRICTATIME" ∷ codes "MS_LAZYTIME" ∷ []

-- the attributes of a new mount: strict access times go before none (mount(2), MS_STRICTATIME; the running kernel)
abbrev pub set_without_times : List (List ℕ) → SetWords
set_without_times flags = record {
  ro = has_flag (codes "MS_RDONLY") flags;
  nosuid = has_flag (codes "MS_NOSUID") flags;
  nodev = has_flag (codes "MS_NODEV") flags;
  noexec = has_flag (codes "MS_NOEXEC") flags;
  nosymfollow = has_flag (codes "MS_NOSYMFOLLOW") flags;
  nodiratime = has_flag (codes "MS_NODIRATIME") flags;
  relatime = false;
  noatime = false;
  strictatime = false;
}

abbrev pub set_by_flags : List (List ℕ) → SetWords
set_by_flags flags = record (set_without_times flags) {
  noatime = has_flag (codes "MS_NOATIME") flags && not (has_flag (codes "MS_STRICTATIME") flags);
  strictatime = has_flag (codes "MS_STRICTATIME") flags;
}

-- the flags say something of access times
abbrev pub has_times : List (List ℕ) → Bool
has_times flags =
    has_flag (codes "MS_NOATIME") flags || has_flag (codes "MS_NODIRATIME") flags || has_flag (codes "MS_RELATIME") flags || has_flag (codes "MS_STRICTATIME") flags

-- a remount replaces all attributes, but access times only where one is given (mount(2), MS_REMOUNT)
abbrev pub remount_set : List (List ℕ) → Bool → SetWords
remount_set flags times = record (set_by_flags flags) {
  relatime = times && not (has_flag (codes "MS_NOATIME") flags) && not (has_flag (codes "MS_STRICTATIME") flags);
}

abbrev pub remount_clr : List (List ℕ) → Bool → ClrWords
remount_clr flags times = record {
  ro = not (has_flag (codes "MS_RDONLY") flags);
  nosuid = not (has_flag (codes "MS_NOSUID") flags);
  nodev = not (has_flag (codes "MS_NODEV") flags);
  noexec = not (has_flag (codes "MS_NOEXEC") flags);
  nosymfollow = not (has_flag (codes "MS_NOSYMFOLLOW") flags);
  nodiratime = times && not (has_flag (codes "MS_NODIRATIME") flags);
  atime = times;
}

abbrev pub remount_change : List (List ℕ) → Change
remount_change flags = record { set = remount_set flags (has_times flags); clr = remount_clr flags (has_times flags); prop = None; recursive = false }

-- the propagation that flags ask for (mount(2), MS_SHARED and its kin)
abbrev pub kind_by_flags : List (List ℕ) → Option Kind
kind_by_flags flags =
    if has_flag (codes "MS_SHARED") flags then Some kind.Shared
    else (if has_flag (codes "MS_SLAVE") flags then Some kind.Slave
    else (if has_flag (codes "MS_PRIVATE") flags then Some kind.Private
    else (if has_flag (codes "MS_UNBINDABLE") flags then Some kind.Unbindable else None)))

-- what mount_setattr(2) sets and clears
abbrev pub attribute_set_without_times : List (List ℕ) → SetWords
attribute_set_without_times flags = record {
  ro = has_flag (codes "MOUNT_ATTR_RDONLY") flags;
  nosuid = has_flag (codes "MOUNT_ATTR_NOSUID") flags;
  nodev = has_flag (codes "MOUNT_ATTR_NODEV") flags;
  noexec = has_flag (codes "MOUNT_ATTR_NOEXEC") flags;
  nosymfollow = has_flag (codes "MOUNT_ATTR_NOSYMFOLLOW") flags;
  nodiratime = has_flag (codes "MOUNT_ATTR_NODIRATIME") flags;
  relatime = false;
  noatime = false;
  strictatime = false;
}

abbrev pub attribute_set : List (List ℕ) → SetWords
attribute_set flags = record (attribute_set_without_times flags) {
  relatime = has_flag (codes "MOUNT_ATTR_RELATIME") flags;
  noatime = has_flag (codes "MOUNT_ATTR_NOATIME") flags;
  strictatime = has_flag (codes "MOUNT_ATTR_STRICTATIME") flags;
}

abbrev pub attribute_clr : List (List ℕ) → ClrWords
attribute_clr flags = record {
  ro = has_flag (codes "MOUNT_ATTR_RDONLY") flags;
  nosuid = has_flag (codes "MOUNT_ATTR_NOSUID") flags;
  nodev = has_flag (codes "MOUNT_ATTR_NODEV") flags;
  noexec = has_flag (codes "MOUNT_ATTR_NOEXEC") flags;
  nosymfollow = has_flag (codes "MOUNT_ATTR_NOSYMFOLLOW") flags;
  nodiratime = has_flag (codes "MOUNT_ATTR_NODIRATIME") flags;
  atime = has_flag (codes "MOUNT_ATTR__ATIME") flags;
}

-- the change of a propagation, of one mount or of all below it: no attribute is set or cleared
abbrev pub propagation_change : List (List ℕ) → Kind → Change
propagation_change flags made =
    record { set = attribute_set no_flags; clr = attribute_clr no_flags; prop = Some made; recursive = has_flag (codes "MS_REC") flags }

-- what is neither a remount nor a bind
abbrev pub moved_or_new : List (List ℕ) → Option Kind → MountOperation
moved_or_new flags (Some made) = operation.Changes (propagation_change flags made) false
moved_or_new flags None = if has_flag (codes "MS_MOVE") flags then operation.Moves else operation.Mounts (set_by_flags flags)

-- what a call of mount(2) asks for: of several, the first in the order of the kernel; none if a flag is not known. A remount that
-- is no bind changes the filesystem too
abbrev pub known_operation : List (List ℕ) → MountOperation
known_operation flags =
    if has_flag (codes "MS_REMOUNT") flags then operation.Changes (remount_change flags) (not (has_flag (codes "MS_BIND") flags))
    else (if has_flag (codes "MS_BIND") flags then operation.Binds (has_flag (codes "MS_REC") flags) else moved_or_new flags (kind_by_flags flags))

unfoldable pub asked_operation : List (List ℕ) → Option MountOperation
asked_operation flags = if are_flags_of mount_flag_words flags then Some (known_operation flags) else None

-- the attributes that are known there, but for mapped IDs, which are not followed
abbrev pub attribute_flags : List (List ℕ)
attribute_flags =
    codes "0" ∷ codes "MOUNT_ATTR_RDONLY" ∷ codes "MOUNT_ATTR_NOSUID" ∷ codes "MOUNT_ATTR_NODEV" ∷ codes "MOUNT_ATTR_NOEXEC"
    ∷ codes "MOUNT_ATTR_NOSYMFOLLOW" ∷ codes "MOUNT_ATTR_NODIRATIME" ∷ codes "MOUNT_ATTR_RELATIME" ∷ codes "MOUNT_ATTR_NOATIME"
    ∷ codes "MOUNT_ATTR_STRICTATIME" ∷ codes "MOUNT_ATTR__ATIME" ∷ []

-- why what is set and cleared there is not known, if it is not: by a word in it
abbrev pub attribute_fault : List (List ℕ) → Option Unknown
attribute_fault flags =
    if has_flag (codes "MOUNT_ATTR_IDMAP") flags then Some unknown.MappedIds
    else (if are_flags_of attribute_flags flags then None else Some unknown.Flag)

abbrev pub propagation_fault : List (List ℕ) → Option Unknown
propagation_fault flags = if are_flags_of mount_flag_words flags then None else Some unknown.Flag

-- the change that a call of mount_setattr(2) asks for, by its flags, what it sets and clears, and the propagation
abbrev pub known_change : List (List ℕ) → List (List ℕ) → List (List ℕ) → List (List ℕ) → Change
known_change flags set clear propagation =
    record { set = attribute_set set; clr = attribute_clr clear; prop = kind_by_flags propagation; recursive = has_flag (codes "AT_RECURSIVE") flags }

abbrev pub change_unless : Option Unknown → Change → Result Change Unknown
change_unless None change = Ok change
change_unless (Some why) change = Err why

unfoldable pub attribute_change : List (List ℕ) → List (List ℕ) → List (List ℕ) → List (List ℕ) → Result Change Unknown
attribute_change flags set clear propagation =
    change_unless (option_or (attribute_fault set) (option_or (attribute_fault clear) (propagation_fault propagation))) (known_change flags set clear propagation)

-- the attributes that fsmount(2) gives a new mount
unfoldable pub attributes_asked : List (List ℕ) → Result SetWords Unknown
attributes_asked flags = option_map_or (λ why. Err why) (attribute_fault flags) (Ok (attribute_set flags))
