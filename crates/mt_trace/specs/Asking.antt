-- What a call asks of the system: by its name, and its arguments.
-- A word with no source is this project's rule.
use Rattle.std.specs.Prelude.{ℕ, List, Option, None, Some}
use Rattle.mt_strace.specs.declared.call.TracedCall.{TracedCall}
use Rattle.mt_trace.specs.declared.call_name.CallName.{CallName}
use Rattle.mt_trace.specs.declared.call_name.CallName.TheVariants as name
use Rattle.mt_trace.specs.declared.system_call.AskedCall.{AskedCall}
use Rattle.mt_trace.specs.declared.system_call.AskedCall.TheVariants as asked
use Rattle.mt_trace.specs.declared.system_call.SystemCall.TheVariants as call
use Rattle.mt_trace.specs.CallFlags.{clone_words}
use Rattle.mt_trace.specs.CallNames.{call_named}
use Rattle.mt_trace.specs.Flags.{no_flags}
use Rattle.mt_trace.specs.SystemCalls.{mount_call, umount_call, umount2_call, pivot_root_call, mount_setattr_call, open_tree_call, move_mount_call, fsopen_call, fsconfig_call, fsmount_call, clone_call, clone3_call, unshare_call, setns_call, execve_call, execveat_call, chdir_call, fchdir_call, chroot_call, open_call, openat_call, openat2_call, creat_call, close_call, close_range_call, dup_call, dup3_call, fcntl_call, symlink_call, symlinkat_call, readlink_call, readlinkat_call}

-- what a call of a name asks with these arguments
abbrev pub asked_by_name : CallName → List (List ℕ) → AskedCall
asked_by_name name.Mount arguments = mount_call arguments
asked_by_name name.Umount arguments = umount_call arguments
asked_by_name name.Umount2 arguments = umount2_call arguments
asked_by_name name.PivotRoot arguments = pivot_root_call arguments
asked_by_name name.MountSetattr arguments = mount_setattr_call arguments
asked_by_name name.OpenTree arguments = open_tree_call arguments
asked_by_name name.MoveMount arguments = move_mount_call arguments
asked_by_name name.Fsopen arguments = fsopen_call arguments
asked_by_name name.Fsconfig arguments = fsconfig_call arguments
asked_by_name name.Fsmount arguments = fsmount_call arguments
asked_by_name name.Clone arguments = clone_call arguments
asked_by_name name.Clone3 arguments = clone3_call arguments
asked_by_name name.Fork arguments = asked.Call (call.Clone (clone_words no_flags))
asked_by_name name.Unshare arguments = unshare_call arguments
asked_by_name name.Setns arguments = setns_call arguments
asked_by_name name.Execve arguments = execve_call arguments
asked_by_name name.Execveat arguments = execveat_call arguments
asked_by_name name.Chdir arguments = chdir_call arguments
asked_by_name name.Fchdir arguments = fchdir_call arguments
asked_by_name name.Chroot arguments = chroot_call arguments
asked_by_name name.Open arguments = open_call arguments
asked_by_name name.Openat arguments = openat_call arguments
asked_by_name name.Openat2 arguments = openat2_call arguments
asked_by_name name.Creat arguments = creat_call arguments
asked_by_name name.Close arguments = close_call arguments
asked_by_name name.CloseRange arguments = close_range_call arguments
asked_by_name name.Dup arguments = dup_call arguments
asked_by_name name.Dup3 arguments = dup3_call arguments
asked_by_name name.Fcntl arguments = fcntl_call arguments
asked_by_name name.Symlink arguments = symlink_call arguments
asked_by_name name.Symlinkat arguments = symlinkat_call arguments
asked_by_name name.Readlink arguments = readlink_call arguments
asked_by_name name.Readlinkat arguments = readlinkat_call arguments

-- a call of another name asks nothing that is followed
abbrev pub asked_if_named : Option CallName → List (List ℕ) → AskedCall
asked_if_named None arguments = asked.Silent
asked_if_named (Some n) arguments = asked_by_name n arguments

abbrev pub asked_by_call : TracedCall → AskedCall
asked_by_call c = asked_if_named (call_named c.name) c.arguments
