-- The namespaces of a process (namespaces(7), clone(2), unshare(2), setns(2)).
-- A word with no source is this project's rule.
use Rattle.std.specs.Prelude.{ℕ, Bool, if◌then◌else◌, List, [], ◌∷◌, Option, codes}
use Rattle.std.specs.Str.{bytes_eq}
use Rattle.mt_forms.specs.Lookup.{looked_up}
use Rattle.mt_trace.specs.declared.call_flags.CloneWords.{CloneWords}
use Rattle.mt_trace.specs.declared.process_spaces.ProcessSpaces.{ProcessSpaces}
use Rattle.mt_trace.specs.declared.process_spaces.SpaceKind.{SpaceKind}
use Rattle.mt_trace.specs.declared.process_spaces.SpaceKind.TheVariants as kind

-- the files of /proc/PID/ns that name the namespaces of a process, and their kinds
abbrev pub space_files : List (SpaceKind × List ℕ)
space_files =
    (kind.Mount, codes "mnt") ∷ (kind.User, codes "user") ∷ (kind.Process, codes "pid") ∷ (kind.ForChildren, codes "pid_for_children")
    ∷ (kind.Network, codes "net") ∷ (kind.Ipc, codes "ipc") ∷ (kind.ControlGroup, codes "cgroup") ∷ []

unfoldable pub kind_of_file : List ℕ → Option SpaceKind
kind_of_file name = looked_up (λ row. bytes_eq row.1 name) (λ row. row.0) space_files

-- the number of a namespace of a process, and the process with another one
abbrev pub space_of_kind : SpaceKind → ProcessSpaces → ℕ
space_of_kind kind.Mount s = s.mount
space_of_kind kind.User s = s.user
space_of_kind kind.Process s = s.process
space_of_kind kind.ForChildren s = s.for_children
space_of_kind kind.Network s = s.network
space_of_kind kind.Ipc s = s.ipc
space_of_kind kind.ControlGroup s = s.control_group

-- a process that enters a namespace of processes stays where it is: its children are in that one (setns(2))
abbrev pub spaces_entered : SpaceKind → ℕ → ProcessSpaces → ProcessSpaces
spaces_entered kind.Mount n s = record s { mount = n }
spaces_entered kind.User n s = record s { user = n }
spaces_entered kind.Process n s = record s { for_children = n }
spaces_entered kind.ForChildren n s = record s { for_children = n }
spaces_entered kind.Network n s = record s { network = n }
spaces_entered kind.Ipc n s = record s { ipc = n }
spaces_entered kind.ControlGroup n s = record s { control_group = n }

-- a new namespace where one is asked for
abbrev pub renewed : Bool → ℕ → ℕ → ℕ
renewed is_new fresh old = if is_new then fresh else old

-- the namespaces of other kinds than mounts and processes that a call makes; all of them have the same new number, which no
-- earlier one of its kind has
abbrev pub spaces_renewed : CloneWords → ℕ → ProcessSpaces → ProcessSpaces
spaces_renewed words fresh s = record s {
  user = renewed words.user fresh s.user;
  network = renewed words.network fresh s.network;
  ipc = renewed words.ipc fresh s.ipc;
  control_group = renewed words.control_group fresh s.control_group;
}

-- after unshare the next children are in a new namespace of processes (unshare(2))
abbrev pub spaces_unshared : CloneWords → ℕ → ProcessSpaces → ProcessSpaces
spaces_unshared words fresh s = record (spaces_renewed words fresh s) { for_children = renewed words.process fresh s.for_children }

-- a child is in that of its parent's children, or in a new one, and so are its children (clone(2), pid_namespaces(7))
abbrev pub child_process : CloneWords → ℕ → ProcessSpaces → ℕ
child_process words fresh s = renewed words.process fresh s.for_children

abbrev pub spaces_cloned : CloneWords → ℕ → ProcessSpaces → ProcessSpaces
spaces_cloned words fresh s = record (spaces_renewed words fresh s) { process = child_process words fresh s; for_children = child_process words fresh s }
