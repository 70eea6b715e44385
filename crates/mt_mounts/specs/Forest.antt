-- The mounts of all namespaces as the list of them by rising ID: places, parents and stacks.
-- A word with no source is this project's rule.
use Rattle.std.specs.Prelude.{ℕ, Bool, false, ◌&&◌, ◌==◌, List, map, length, Option, is_none}
use Rattle.std.specs.List.{filter, find, list_any}
use Rattle.std.specs.Option.{option_map, option_map_or, option_and_then}
use Rattle.mt_skel.specs.Keyed.{row_at}
use Rattle.mt_skel.specs.Chain.{chain, follow}
use Rattle.mt_mounts.specs.declared.mount.Place.{Place}
use Rattle.mt_mounts.specs.declared.mount.Mount.{Mount}

-- A mount goes by its ID, and mounts are listed by rising ID.
abbrev pub id_of : Mount → ℕ
id_of m = m.id

-- Two mounts never have one ID, so an ID finds one mount or none.
abbrev pub mount_at : List Mount → ℕ → Option Mount
mount_at ms i = row_at id_of i ms

-- A place is a directory of one mount: the same directory of another mount is another place (the kernel's sharedsubtree document).
abbrev pub place_eq : Place → Place → Bool
place_eq p q = (p.mount == q.mount) && (p.dir == q.dir)

-- A mount is mounted on one mount at one directory of it (the kernel's sharedsubtree document).
abbrev pub is_at : Place → Mount → Bool
is_at p m = option_map_or (place_eq p) m.place false

-- At most one mount is mounted at a place, since the next one goes on top of it.
abbrev pub on : List Mount → Place → Option Mount
on ms p = find (is_at p) ms

-- The root directory of a mount is the place where another mount can be stacked on it.
abbrev pub root_place : Mount → Place
root_place m = record { mount = m.id; dir = m.root }

-- A new mount goes on the root of the most recently mounted mount of the stack at its mount point,
-- or on that mount point where nothing is mounted (the kernel's sharedsubtree document has the most recently mounted one).
abbrev pub top : List Mount → Place → Place
top ms p = follow (λ q. option_map root_place (on ms q)) (length ms) p

-- The parent of a mount is the mount that it is mounted on; a root mount has none.
abbrev pub parent : List Mount → ℕ → Option ℕ
parent ms i = option_and_then (λ m. option_map (λ (p : Place). p.mount) m.place) (mount_at ms i)

-- From a mount up: the mount, its parent, and so on to the root mount.
abbrev pub parents_up : List Mount → ℕ → List ℕ
parents_up ms i = chain (parent ms) (length ms) i

-- A mount is in the tree of mount i where i is on its way up, or is the mount itself.
abbrev pub is_below : List Mount → ℕ → ℕ → Bool
is_below ms i j = list_any (λ k. i == k) (parents_up ms j)

-- The tree of a mount is the mount and all that are mounted below it, what rbind replicates
-- (the kernel's sharedsubtree document), here by rising ID.
abbrev pub subtree : List Mount → ℕ → List ℕ
subtree ms i = filter (is_below ms i) (map id_of ms)

-- A mount is a child of mount i (proc_pid_mountinfo(5), field 2).
abbrev pub stands_on : ℕ → Mount → Bool
stands_on i m = option_map_or (λ (p : Place). p.mount == i) m.place false

-- The children of a mount are the mounts that are mounted on it (proc_pid_mountinfo(5), field 2), here by rising ID.
abbrev pub children : List Mount → ℕ → List ℕ
children ms i = map id_of (filter (stands_on i) ms)

-- A mount is in one namespace (mount_namespaces(7)).
abbrev pub in_space : ℕ → Mount → Bool
in_space n m = m.space == n

-- The mounts of a namespace (mount_namespaces(7)), by rising ID.
abbrev pub mounts_in : List Mount → ℕ → List Mount
mounts_in ms n = filter (in_space n) ms

-- Each namespace has a list of mounts of its own (mount_namespaces(7)), and its root mount is the one that is mounted nowhere.
abbrev pub is_root : ℕ → Mount → Bool
is_root n m = is_none m.place && (m.space == n)

-- A namespace is there exactly where its root mount is.
abbrev pub root_mount : List Mount → ℕ → Option Mount
root_mount ms n = find (is_root n) ms

-- The root mounts of all namespaces, one for each (mount_namespaces(7)).
abbrev pub roots : List Mount → List Mount
roots ms = filter (λ m. is_none m.place) ms
