-- The system calls that change what a process sees of mounts, or where it stands (syscalls(2)).
-- A word with no source is this project's rule.
use Rattle.std.specs.Prelude.{ℕ, List, [], ◌∷◌, ◌++◌, Option, codes}
use Rattle.std.specs.List.{flat_map}
use Rattle.std.specs.Str.{bytes_eq}
use Rattle.mt_forms.specs.Lookup.{looked_up}
use Rattle.mt_trace.specs.declared.call_name.CallName.{CallName}
use Rattle.mt_trace.specs.declared.call_name.CallName.TheVariants as name

-- each call, and its name
abbrev pub call_names : List (CallName × List ℕ)
call_names =
    (name.Mount, codes "mount") ∷ (name.Umount, codes "umount") ∷ (name.Umount2, codes "umount2") ∷ (name.PivotRoot, codes "pivot_root")
    ∷ (name.MountSetattr, codes "mount_setattr") ∷ (name.OpenTree, codes "open_tree") ∷ (name.MoveMount, codes "move_mount")
    ∷ (name.Fsopen, codes "fsopen") ∷ (name.Fsconfig, codes "fsconfig") ∷ (name.Fsmount, codes "fsmount")
    ∷ (name.Clone, codes "clone") ∷ (name.Clone3, codes "clone3") ∷ (name.Fork, codes "fork") ∷ (name.Fork, codes "vfork")
    ∷ (name.Unshare, codes "unshare") ∷ (name.Setns, codes "setns") ∷ (name.Execve, codes "execve") ∷ (name.Execveat, codes "execveat")
    ∷ (name.Chdir, codes "chdir") ∷ (name.Fchdir, codes "fchdir") ∷ (name.Chroot, codes "chroot")
    ∷ (name.Open, codes "open") ∷ (name.Openat, codes "openat") ∷ (name.Openat2, codes "openat2") ∷ (name.Creat, codes "creat")
    ∷ (name.Close, codes "close") ∷ (name.CloseRange, codes "close_range") ∷ (name.Dup, codes "dup") ∷ (name.Dup, codes "dup2")
    ∷ (name.Dup3, codes "dup3") ∷ (name.Fcntl, codes "fcntl") ∷ (name.Symlink, codes "symlink") ∷ (name.Symlinkat, codes "symlinkat")
    ∷ (name.Readlink, codes "readlink") ∷ (name.Readlinkat, codes "readlinkat") ∷ []

unfoldable pub call_named : List ℕ → Option CallName
call_named word = looked_up (λ row. bytes_eq row.1 word) (λ row. row.0) call_names

-- the names that strace is given after `-e trace=`, with commas between them (strace(1))
abbrev pub names_listed : List (CallName × List ℕ) → List ℕ
names_listed [] = []
names_listed (row ∷ rows) = row.1 ++ flat_map (λ next. 44 ∷ next.1) rows

unfoldable pub call_list : List ℕ
call_list = names_listed call_names
