-- What the flags of umount2(2), open_tree(2), move_mount(2), open(2), clone(2) and their kin ask for.
-- A word with no source is this project's rule.
use Rattle.std.specs.Prelude.{ℕ, nat_eq, Bool, false, not, ◌||◌, if◌then◌else◌, List, [], ◌∷◌, Option, None, Some, codes}
use Rattle.std.specs.List.{list_all, starts_with}
use Rattle.mt_trace.specs.declared.call_flags.CloneWords.{CloneWords}
use Rattle.mt_trace.specs.declared.call_flags.MoveWords.{MoveWords}
use Rattle.mt_trace.specs.declared.call_flags.OpenWords.{OpenWords}
use Rattle.mt_trace.specs.declared.call_flags.TreeWords.{TreeWords}
use Rattle.mt_trace.specs.declared.call_flags.UnmountWords.{UnmountWords}
use Rattle.mt_trace.specs.Flags.{has_flag, is_flag_of}

-- the flags of umount2(2); one that was unmounted by force, or as expired, is unmounted as any other
abbrev pub unmount_flags : List (List ℕ)
unmount_flags = codes "0" ∷ codes "MNT_FORCE" ∷ codes "MNT_DETACH" ∷ codes "MNT_EXPIRE" ∷ codes "UMOUNT_NOFOLLOW" ∷ []

abbrev pub unmount_words : List (List ℕ) → UnmountWords
unmount_words flags = record { detaches = has_flag (codes "MNT_DETACH") flags; follows = not (has_flag (codes "UMOUNT_NOFOLLOW") flags) }

-- those of mount_setattr(2), and of open_tree(2)
abbrev pub setattr_flags : List (List ℕ)
setattr_flags = codes "0" ∷ codes "AT_EMPTY_PATH" ∷ codes "AT_RECURSIVE" ∷ codes "AT_SYMLINK_NOFOLLOW" ∷ codes "AT_NO_AUTOMOUNT" ∷ []

abbrev pub open_tree_flags : List (List ℕ)
open_tree_flags = codes "OPEN_TREE_CLONE" ∷ codes "OPEN_TREE_CLOEXEC" ∷ setattr_flags

abbrev pub tree_words : List (List ℕ) → TreeWords
tree_words flags = record {
  clones = has_flag (codes "OPEN_TREE_CLONE") flags;
  recursive = has_flag (codes "AT_RECURSIVE") flags;
  follows = not (has_flag (codes "AT_SYMLINK_NOFOLLOW") flags);
  closes_on_exec = has_flag (codes "OPEN_TREE_CLOEXEC") flags;
}

-- those of move_mount(2) that are followed
abbrev pub move_flags : List (List ℕ)
move_flags =
    codes "0" ∷ codes "MOVE_MOUNT_F_SYMLINKS" ∷ codes "MOVE_MOUNT_F_AUTOMOUNTS" ∷ codes "MOVE_MOUNT_F_EMPTY_PATH"
    ∷ codes "MOVE_MOUNT_T_SYMLINKS" ∷ codes "MOVE_MOUNT_T_AUTOMOUNTS" ∷ codes "MOVE_MOUNT_T_EMPTY_PATH" ∷ []

abbrev pub move_words : List (List ℕ) → MoveWords
move_words flags = record { follows_source = has_flag (codes "MOVE_MOUNT_F_SYMLINKS") flags; follows_target = has_flag (codes "MOVE_MOUNT_T_SYMLINKS") flags }

-- those of fsmount(2), execveat(2) and close_range(2)
abbrev pub fsmount_flags : List (List ℕ)
fsmount_flags = codes "0" ∷ codes "FSMOUNT_CLOEXEC" ∷ []

abbrev pub execveat_flags : List (List ℕ)
execveat_flags = codes "0" ∷ codes "AT_EMPTY_PATH" ∷ codes "AT_SYMLINK_NOFOLLOW" ∷ []

abbrev pub close_range_flags : List (List ℕ)
close_range_flags = codes "0" ∷ codes "CLOSE_RANGE_UNSHARE" ∷ codes "CLOSE_RANGE_CLOEXEC" ∷ []

-- the commands of fsconfig(2) that set nothing which a table tells, or nothing at all
abbrev pub other_settings : List (List ℕ)
other_settings =
    codes "FSCONFIG_SET_BINARY" ∷ codes "FSCONFIG_SET_PATH" ∷ codes "FSCONFIG_SET_PATH_EMPTY" ∷ codes "FSCONFIG_SET_FD"
    ∷ codes "FSCONFIG_CMD_CREATE" ∷ codes "FSCONFIG_CMD_CREATE_EXCL" ∷ codes "FSCONFIG_CMD_RECONFIGURE" ∷ []

-- those of open(2) and openat2(2) that say what the descriptor leads to
abbrev pub open_words : List (List ℕ) → List (List ℕ) → OpenWords
open_words flags resolve = record {
  follows = not (has_flag (codes "O_NOFOLLOW") flags);
  closes_on_exec = has_flag (codes "O_CLOEXEC") flags;
  in_root = has_flag (codes "RESOLVE_IN_ROOT") resolve;
}

-- those of clone(2), unshare(2) and setns(2); for a child, the signal of its end stands among them
abbrev pub clone_flags : List (List ℕ)
clone_flags =
    codes "0" ∷ codes "CLONE_VM" ∷ codes "CLONE_FS" ∷ codes "CLONE_FILES" ∷ codes "CLONE_SIGHAND" ∷ codes "CLONE_PIDFD"
    ∷ codes "CLONE_PTRACE" ∷ codes "CLONE_VFORK" ∷ codes "CLONE_PARENT" ∷ codes "CLONE_THREAD" ∷ codes "CLONE_NEWNS"
    ∷ codes "CLONE_SYSVSEM" ∷ codes "CLONE_SETTLS" ∷ codes "CLONE_PARENT_SETTID" ∷ codes "CLONE_CHILD_CLEARTID"
    ∷ codes "CLONE_DETACHED" ∷ codes "CLONE_UNTRACED" ∷ codes "CLONE_CHILD_SETTID" ∷ codes "CLONE_NEWCGROUP"
    ∷ codes "CLONE_NEWUTS" ∷ codes "CLONE_NEWIPC" ∷ codes "CLONE_NEWUSER" ∷ codes "CLONE_NEWPID" ∷ codes "CLONE_NEWNET"
    ∷ codes "CLONE_IO" ∷ codes "CLONE_CLEAR_SIGHAND" ∷ codes "CLONE_INTO_CGROUP" ∷ codes "CLONE_NEWTIME" ∷ []

abbrev pub is_clone_flag : List ℕ → Bool
is_clone_flag word = is_flag_of clone_flags word || starts_with nat_eq word (codes "SIG")

abbrev pub are_clone_flags : List (List ℕ) → Bool
are_clone_flags flags = list_all is_clone_flag flags

-- the namespaces that they name, and what a child shares with its parent
abbrev pub namespace_words : List (List ℕ) → CloneWords
namespace_words flags = record {
  directories = false;
  files = false;
  thread = false;
  mount = has_flag (codes "CLONE_NEWNS") flags;
  user = has_flag (codes "CLONE_NEWUSER") flags;
  process = has_flag (codes "CLONE_NEWPID") flags;
  network = has_flag (codes "CLONE_NEWNET") flags;
  ipc = has_flag (codes "CLONE_NEWIPC") flags;
  control_group = has_flag (codes "CLONE_NEWCGROUP") flags;
}

abbrev pub clone_words : List (List ℕ) → CloneWords
clone_words flags = record (namespace_words flags) {
  directories = has_flag (codes "CLONE_FS") flags;
  files = has_flag (codes "CLONE_FILES") flags;
  thread = has_flag (codes "CLONE_THREAD") flags;
}

abbrev pub words_if_known : List (List ℕ) → Option CloneWords
words_if_known flags = if are_clone_flags flags then Some (clone_words flags) else None
