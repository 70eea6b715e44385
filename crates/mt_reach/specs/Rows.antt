-- The rows of several tables as one list by rising ID, and what is asked of one.
-- A word with no source is this project's rule.
use Rattle.std.specs.Prelude.{ℕ, Bool, ◌&&◌, ◌==◌, List, map, Option}
use Rattle.std.specs.List.{starts_with}
use Rattle.std.specs.Option.{option_and_then}
use Rattle.std.specs.Str.{bytes_eq}
use Rattle.mt_skel.specs.Keyed.{row_at}
use Rattle.mt_skel.specs.Skeleton.{path_eq}
use Rattle.mt_peers.specs.Peers.{Peer}
use Rattle.mt_info.specs.SameRow.{bool_eq}
use Rattle.mt_reach.specs.declared.row.Device.{Device}
use Rattle.mt_reach.specs.declared.row.SeenDirectory.{SeenDirectory}
use Rattle.mt_reach.specs.declared.row.SeenRow.{SeenRow}

-- a row goes by its mount's ID, which no other mount has, whatever its namespace (proc_pid_mountinfo(5), field 1)
abbrev pub seen_id : SeenRow → ℕ
seen_id r = r.id

-- the row with this ID
abbrev pub seen_at : List SeenRow → ℕ → Option SeenRow
seen_at rows i = row_at seen_id i rows

-- one device (proc_pid_mountinfo(5), field 3)
abbrev pub device_eq : Device → Device → Bool
device_eq d e = (d.major == e.major) && (d.minor == e.minor)

-- a directory is another one, or below it: both are of one filesystem, and the names of the one begin those of the other
abbrev pub is_within : SeenDirectory → SeenDirectory → Bool
is_within outer inner = device_eq outer.device inner.device && bool_eq outer.unlinked inner.unlinked && starts_with bytes_eq inner.path outer.path

-- two directories are one
abbrev pub is_same_directory : SeenDirectory → SeenDirectory → Bool
is_same_directory d e = device_eq d.device e.device && bool_eq d.unlinked e.unlinked && path_eq d.path e.path

-- a mount shows a directory that is the one at its root, or below that (proc_pid_mountinfo(5), field 4)
abbrev pub shows : SeenRow → SeenDirectory → Bool
shows r d = is_within r.root d

-- the propagation state that a row tells (proc_pid_mountinfo(5), field 7)
abbrev pub peer_in : SeenRow → Peer
peer_in r = record { mount = r.id; state = record { group = r.group; master = r.master; unbindable = r.unbindable } }

-- the states of all mounts
abbrev pub peers_in : List SeenRow → List Peer
peers_in rows = map peer_in rows

-- the peer group of a mount
abbrev pub seen_group : List SeenRow → ℕ → Option ℕ
seen_group rows i = option_and_then (λ (r : SeenRow). r.group) (seen_at rows i)
