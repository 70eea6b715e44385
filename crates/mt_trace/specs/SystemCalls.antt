-- What is asked of the system by a call, from the arguments that strace tells (the pages of the calls in section 2).
-- A word with no source is this project's rule.
use Rattle.std.specs.Prelude.{ℕ, true, false, not, if◌then◌else◌, List, [], ◌∷◌, Option, None, Some, Result, Ok, Err, codes}
use Rattle.std.specs.Str.{bytes_eq}
use Rattle.mt_setattr.specs.declared.change.Change.{Change}
use Rattle.mt_setattr.specs.declared.change.SetWords.{SetWords}
use Rattle.mt_strace.specs.declared.descriptor.Descriptor.{Descriptor}
use Rattle.mt_strace.specs.declared.descriptor.DescriptorNumber.TheVariants as number
use Rattle.mt_strace.specs.Arguments.{fields_of, value_named}
use Rattle.mt_strace.specs.Descriptors.{descriptor_of}
use Rattle.mt_trace.specs.declared.call_flags.CloneWords.{CloneWords}
use Rattle.mt_trace.specs.declared.system_call.AskedCall.{AskedCall}
use Rattle.mt_trace.specs.declared.system_call.AskedCall.TheVariants as asked
use Rattle.mt_trace.specs.declared.system_call.ContextSetting.{ContextSetting}
use Rattle.mt_trace.specs.declared.system_call.ContextSetting.TheVariants as setting
use Rattle.mt_trace.specs.declared.system_call.SystemCall.{SystemCall}
use Rattle.mt_trace.specs.declared.system_call.SystemCall.TheVariants as call
use Rattle.mt_trace.specs.declared.unknown.Unknown.{Unknown}
use Rattle.mt_trace.specs.declared.unknown.Unknown.TheVariants as unknown
use Rattle.mt_trace.specs.CallFlags.{unmount_flags, setattr_flags, open_tree_flags, tree_words, move_flags, move_words, fsmount_flags, other_settings, execveat_flags, close_range_flags, open_words, unmount_words, words_if_known}
use Rattle.mt_trace.specs.Flags.{flags_of, no_flags, has_flag, is_flag_of, are_flags_of}
use Rattle.mt_trace.specs.MountFlags.{asked_operation, attribute_change, attributes_asked}
use Rattle.mt_trace.specs.StringArguments.{string_argument}

-- a call whose arguments are not its own
abbrev pub strange : AskedCall
strange = asked.Unknown unknown.Arguments

-- what a call asks, by an argument that is one of its own, or by flags that are known
abbrev pub if_its_own : {A : Type 0} → (A → AskedCall) → Option A → AskedCall
if_its_own asks None = strange
if_its_own asks (Some argument) = asks argument

abbrev pub if_flags_known : {A : Type 0} → (A → AskedCall) → Option A → AskedCall
if_flags_known asks None = asked.Unknown unknown.Flag
if_flags_known asks (Some words) = asks words

-- a call whose flags are all known
abbrev pub asked_with_flags : List (List ℕ) → List (List ℕ) → SystemCall → AskedCall
asked_with_flags known flags asks = if are_flags_of known flags then asked.Call asks else asked.Unknown unknown.Flag

-- the current directory, in the place of a descriptor
abbrev pub here : Descriptor
here = record { number = number.CurrentDirectory; path = None; is_deleted = false }

-- mount(2), umount(2), pivot_root(2)
abbrev pub mount_call : List (List ℕ) → AskedCall
mount_call (source ∷ target ∷ kind ∷ flags ∷ options ∷ []) =
    if_flags_known (λ o. asked.Call (call.Mount (string_argument source) (string_argument target) (string_argument kind) o (string_argument options)))
    (asked_operation (flags_of flags))
mount_call arguments = strange

abbrev pub umount_call : List (List ℕ) → AskedCall
umount_call (path ∷ []) = asked.Call (call.Umount (string_argument path) (unmount_words no_flags))
umount_call arguments = strange

abbrev pub umount2_call : List (List ℕ) → AskedCall
umount2_call (path ∷ flags ∷ []) = asked_with_flags unmount_flags (flags_of flags) (call.Umount (string_argument path) (unmount_words (flags_of flags)))
umount2_call arguments = strange

abbrev pub pivot_root_call : List (List ℕ) → AskedCall
pivot_root_call (new ∷ old ∷ []) = asked.Call (call.PivotRoot (string_argument new) (string_argument old))
pivot_root_call arguments = strange

-- mount_setattr(2): which attributes are set and cleared, and the propagation, are fields of a structure
abbrev pub if_told : (List ℕ → Result Change Unknown) → Option (List ℕ) → Result Change Unknown
if_told asks None = Err unknown.Arguments
if_told asks (Some word) = asks word

abbrev pub change_told : List (List ℕ) → List (List ℕ) → Result Change Unknown
change_told flags fields =
    if_told (λ set. if_told (λ clear. if_told (λ propagation. attribute_change flags (flags_of set) (flags_of clear) (flags_of propagation))
    (value_named (codes "propagation=") fields)) (value_named (codes "attr_clr=") fields)) (value_named (codes "attr_set=") fields)

abbrev pub setattr_asked : Descriptor → List ℕ → List (List ℕ) → Result Change Unknown → AskedCall
setattr_asked at path flags (Err why) = asked.Unknown why
setattr_asked at path flags (Ok change) = asked_with_flags setattr_flags flags (call.MountSetattr at (string_argument path) (not (has_flag (codes "AT_SYMLINK_NOFOLLOW") flags)) change)

abbrev pub mount_setattr_call : List (List ℕ) → AskedCall
mount_setattr_call (at ∷ path ∷ flags ∷ attributes ∷ size ∷ []) =
    if_its_own (λ d. if_its_own (λ fields. setattr_asked d path (flags_of flags) (change_told (flags_of flags) fields)) (fields_of attributes)) (descriptor_of at)
mount_setattr_call arguments = strange

-- open_tree(2), move_mount(2)
abbrev pub open_tree_call : List (List ℕ) → AskedCall
open_tree_call (at ∷ path ∷ flags ∷ []) =
    if_its_own (λ d. asked_with_flags open_tree_flags (flags_of flags) (call.OpenTree d (string_argument path) (tree_words (flags_of flags)))) (descriptor_of at)
open_tree_call arguments = strange

abbrev pub moved_asked : List (List ℕ) → SystemCall → AskedCall
moved_asked flags asks =
    if has_flag (codes "MOVE_MOUNT_BENEATH") flags then asked.Unknown unknown.Beneath
    else (if has_flag (codes "MOVE_MOUNT_SET_GROUP") flags then asked.Unknown unknown.Group else asked_with_flags move_flags flags asks)

abbrev pub move_mount_call : List (List ℕ) → AskedCall
move_mount_call (from ∷ source ∷ to ∷ target ∷ flags ∷ []) =
    if_its_own (λ f. if_its_own (λ t. moved_asked (flags_of flags) (call.MoveMount f (string_argument source) t (string_argument target) (move_words (flags_of flags)))) (descriptor_of to)) (descriptor_of from)
move_mount_call arguments = strange

-- fsopen(2), fsmount(2)
abbrev pub fsopen_call : List (List ℕ) → AskedCall
fsopen_call (kind ∷ flags ∷ []) = asked.Call (call.Fsopen (string_argument kind) (has_flag (codes "FSOPEN_CLOEXEC") (flags_of flags)))
fsopen_call arguments = strange

abbrev pub fsmount_asked : Descriptor → List (List ℕ) → Result SetWords Unknown → AskedCall
fsmount_asked context flags (Err why) = asked.Unknown why
fsmount_asked context flags (Ok set) = asked_with_flags fsmount_flags flags (call.Fsmount context set (has_flag (codes "FSMOUNT_CLOEXEC") flags))

abbrev pub fsmount_call : List (List ℕ) → AskedCall
fsmount_call (context ∷ flags ∷ attributes ∷ []) =
    if_its_own (λ d. fsmount_asked d (flags_of flags) (attributes_asked (flags_of attributes))) (descriptor_of context)
fsmount_call arguments = strange

-- fsconfig(2): what a command of it sets, with a key and a value; what a table does not tell is another setting
abbrev pub setting_of : List ℕ → List ℕ → List ℕ → Option ContextSetting
setting_of command key value =
    if bytes_eq command (codes "FSCONFIG_SET_STRING") then Some (setting.String (string_argument key) (string_argument value))
    else (if bytes_eq command (codes "FSCONFIG_SET_FLAG") then Some (setting.Flag (string_argument key))
    else (if is_flag_of other_settings command then Some setting.Other else None))

abbrev pub fsconfig_call : List (List ℕ) → AskedCall
fsconfig_call (context ∷ command ∷ key ∷ value ∷ aux ∷ []) =
    if_its_own (λ d. if_flags_known (λ s. asked.Call (call.Fsconfig d s)) (setting_of command key value)) (descriptor_of context)
fsconfig_call arguments = strange

-- clone(2), unshare(2), setns(2): strace names the arguments of the first, and a structure's fields
abbrev pub clone_asked : (CloneWords → SystemCall) → List (List ℕ) → AskedCall
clone_asked asks flags = if_flags_known (λ words. asked.Call (asks words)) (words_if_known flags)

abbrev pub clone_call : List (List ℕ) → AskedCall
clone_call arguments = if_its_own (λ flags. clone_asked call.Clone (flags_of flags)) (value_named (codes "flags=") arguments)

abbrev pub clone3_call : List (List ℕ) → AskedCall
clone3_call [] = strange
clone3_call (structure ∷ rest) = if_its_own clone_call (fields_of structure)

abbrev pub unshare_call : List (List ℕ) → AskedCall
unshare_call (flags ∷ []) = clone_asked call.Unshare (flags_of flags)
unshare_call arguments = strange

abbrev pub setns_call : List (List ℕ) → AskedCall
setns_call (space ∷ kinds ∷ []) = if_its_own (λ d. clone_asked (call.Setns d) (flags_of kinds)) (descriptor_of space)
setns_call arguments = strange

-- execve(2), execveat(2)
abbrev pub execve_call : List (List ℕ) → AskedCall
execve_call (path ∷ words ∷ environment ∷ []) = asked.Call (call.Execve here (string_argument path) true)
execve_call arguments = strange

abbrev pub execveat_call : List (List ℕ) → AskedCall
execveat_call (at ∷ path ∷ words ∷ environment ∷ flags ∷ []) =
    if_its_own (λ d. asked_with_flags execveat_flags (flags_of flags) (call.Execve d (string_argument path) (not (has_flag (codes "AT_SYMLINK_NOFOLLOW") (flags_of flags))))) (descriptor_of at)
execveat_call arguments = strange

-- chdir(2), fchdir(2), chroot(2)
abbrev pub chdir_call : List (List ℕ) → AskedCall
chdir_call (path ∷ []) = asked.Call (call.Chdir (string_argument path))
chdir_call arguments = strange

abbrev pub fchdir_call : List (List ℕ) → AskedCall
fchdir_call (at ∷ []) = if_its_own (λ d. asked.Call (call.Fchdir d)) (descriptor_of at)
fchdir_call arguments = strange

abbrev pub chroot_call : List (List ℕ) → AskedCall
chroot_call (path ∷ []) = asked.Call (call.Chroot (string_argument path))
chroot_call arguments = strange

-- open(2), openat2(2): a mode may come behind the flags
abbrev pub open_call : List (List ℕ) → AskedCall
open_call (path ∷ flags ∷ mode) = asked.Call (call.Open here (string_argument path) (open_words (flags_of flags) no_flags))
open_call arguments = strange

abbrev pub openat_call : List (List ℕ) → AskedCall
openat_call (at ∷ path ∷ flags ∷ mode) = if_its_own (λ d. asked.Call (call.Open d (string_argument path) (open_words (flags_of flags) no_flags))) (descriptor_of at)
openat_call arguments = strange

abbrev pub openat2_with : Descriptor → List ℕ → List (List ℕ) → AskedCall
openat2_with at path fields =
    if_its_own (λ flags. if_its_own (λ resolve. asked.Call (call.Open at (string_argument path) (open_words (flags_of flags) (flags_of resolve))))
    (value_named (codes "resolve=") fields)) (value_named (codes "flags=") fields)

abbrev pub openat2_call : List (List ℕ) → AskedCall
openat2_call (at ∷ path ∷ how ∷ size ∷ []) = if_its_own (λ d. if_its_own (openat2_with d path) (fields_of how)) (descriptor_of at)
openat2_call arguments = strange

abbrev pub creat_call : List (List ℕ) → AskedCall
creat_call (path ∷ mode ∷ []) = asked.Call (call.Open here (string_argument path) (open_words no_flags no_flags))
creat_call arguments = strange

-- close(2), close_range(2)
abbrev pub close_call : List (List ℕ) → AskedCall
close_call (at ∷ []) = if_its_own (λ d. asked.Call (call.Close d)) (descriptor_of at)
close_call arguments = strange

abbrev pub close_range_call : List (List ℕ) → AskedCall
close_range_call (first ∷ last ∷ flags ∷ []) =
    if_its_own (λ f. if_its_own (λ l. asked_with_flags close_range_flags (flags_of flags)
    (call.CloseRange f l (has_flag (codes "CLOSE_RANGE_UNSHARE") (flags_of flags)) (has_flag (codes "CLOSE_RANGE_CLOEXEC") (flags_of flags))))
    (descriptor_of last)) (descriptor_of first)
close_range_call arguments = strange

-- dup(2), dup2(2), dup3(2)
abbrev pub dup_call : List (List ℕ) → AskedCall
dup_call [] = strange
dup_call (at ∷ rest) = if_its_own (λ d. asked.Call (call.Dup d false)) (descriptor_of at)

abbrev pub dup3_call : List (List ℕ) → AskedCall
dup3_call (at ∷ to ∷ flags ∷ []) = if_its_own (λ d. asked.Call (call.Dup d (has_flag (codes "O_CLOEXEC") (flags_of flags)))) (descriptor_of at)
dup3_call arguments = strange

-- fcntl(2): of its commands, those that copy a descriptor, or say whether it is closed when another program is run
abbrev pub fcntl_asked : Descriptor → List ℕ → List (List ℕ) → AskedCall
fcntl_asked at command [] = asked.Silent
fcntl_asked at command (value ∷ rest) =
    if bytes_eq command (codes "F_DUPFD") then asked.Call (call.Dup at false)
    else (if bytes_eq command (codes "F_DUPFD_CLOEXEC") then asked.Call (call.Dup at true)
    else (if bytes_eq command (codes "F_SETFD") then asked.Call (call.SetClosing at (has_flag (codes "FD_CLOEXEC") (flags_of value))) else asked.Silent))

abbrev pub fcntl_call : List (List ℕ) → AskedCall
fcntl_call (at ∷ command ∷ rest) = if_its_own (λ d. fcntl_asked d command rest) (descriptor_of at)
fcntl_call arguments = strange

-- symlink(2), readlink(2): what a link leads to
abbrev pub symlink_call : List (List ℕ) → AskedCall
symlink_call (target ∷ path ∷ []) = asked.Call (call.Link here (string_argument path) (string_argument target))
symlink_call arguments = strange

abbrev pub symlinkat_call : List (List ℕ) → AskedCall
symlinkat_call (target ∷ at ∷ path ∷ []) = if_its_own (λ d. asked.Call (call.Link d (string_argument path) (string_argument target))) (descriptor_of at)
symlinkat_call arguments = strange

abbrev pub readlink_call : List (List ℕ) → AskedCall
readlink_call (path ∷ target ∷ size ∷ []) = asked.Call (call.Link here (string_argument path) (string_argument target))
readlink_call arguments = strange

abbrev pub readlinkat_call : List (List ℕ) → AskedCall
readlinkat_call (at ∷ path ∷ target ∷ size ∷ []) = if_its_own (λ d. asked.Call (call.Link d (string_argument path) (string_argument target))) (descriptor_of at)
readlinkat_call arguments = strange
