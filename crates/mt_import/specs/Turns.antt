-- The mounts of a table are made, each once: it is begun after what it stands on, and gets to its place once everything that belongs
-- on it stands on it. A word with no source is this project's rule.
use Rattle.std.specs.Prelude.{ℕ, suc, ◌-◌, ◌==◌, ◌||◌, Bool, if◌then◌else◌, List, [], ◌∷◌, ◌++◌, drop, take, length, is_some, Option, Some, None, slice_get, map}
use Rattle.std.specs.List.{flat_map}
use Rattle.std.specs.Option.{option_and_then}
use Rattle.std.specs.BTreeMap.{BTreeMap}
use Rattle.mt_import.specs.declared.groups.Group.{Group}
use Rattle.mt_import.specs.declared.mount.Mount.{Mount}
use Rattle.mt_import.specs.declared.space.Space.{Space}
use Rattle.mt_import.specs.declared.space.Way.{Way}
use Rattle.mt_import.specs.Commands.{move_text}
use Rattle.mt_import.specs.Covers.{base_text}
use Rattle.mt_import.specs.Groups.{receiving}
use Rattle.mt_import.specs.Hook.{hooked_text}
use Rattle.mt_import.specs.Making.{bare_text, share_text}
use Rattle.mt_import.specs.Slots.{group_path, apart_path, path_from}

-- the group of what a mount stands on, if others receive what is mounted there
unfoldable pub hooked_by : BTreeMap ℕ Group → List Mount → Mount → Option ℕ
hooked_by groups mounts mount = option_and_then (λ (parent : Mount). receiving groups parent.row.now.shared) (slice_get mounts mount.above)

-- a mount comes to its place, or is made there
unfoldable pub settle_text : BTreeMap ℕ Group → List ℕ → List ℕ → Bool → Mount → List ℕ → List ℕ
settle_text groups space at apart mount place =
    if apart then move_text space (apart_path at mount.level) place
    else bare_text groups space at mount place ++ share_text groups space mount.row.now place

-- which is isolated in the meantime, if others would receive it
abbrev pub placed_at : Option ℕ → BTreeMap ℕ Group → List ℕ → List ℕ → Way → Mount → List ℕ → List ℕ
placed_at None groups space at way mount place = settle_text groups space at way.apart mount place
placed_at (Some group) groups space at way mount place =
    hooked_text space (group_path at group mount.place.items) (map (λ path. path.items) way.others.items) place (settle_text groups space at way.apart mount place)

unfoldable pub placed_text : Option ℕ → BTreeMap ℕ Group → List ℕ → List ℕ → Way → Mount → List ℕ
placed_text hooked groups space at way mount = placed_at hooked groups space at way mount (path_from at mount.level mount.base mount.names.now)

-- a mount that is not left out is begun: one at the root of the namespace is made, and one that is made apart
unfoldable pub begun_text : BTreeMap ℕ Group → List ℕ → List ℕ → Way → Mount → List ℕ
begun_text groups space at way mount =
    if is_some way.left then []
    else (if mount.level == 0 then base_text groups space at mount
    else (if way.apart then bare_text groups space at mount (apart_path at mount.level) else []))

-- and ended: it comes to its place, unless it is at the root of the namespace
unfoldable pub ended_text : BTreeMap ℕ Group → List ℕ → List ℕ → List Mount → Way → Mount → List ℕ
ended_text groups space at mounts way mount =
    if is_some way.left || mount.level == 0 then []
    else ((if way.apart then share_text groups space mount.row.now (apart_path at mount.level) else [])
    ++ placed_text (hooked_by groups mounts mount) groups space at way mount)

abbrev pub begun_at : BTreeMap ℕ Group → List ℕ → List ℕ → Option Way → Mount → List ℕ
begun_at groups space at None mount = []
begun_at groups space at (Some way) mount = begun_text groups space at way mount

abbrev pub ended_in : BTreeMap ℕ Group → List ℕ → List ℕ → List Mount → Option Way → Option Mount → List ℕ
ended_in groups space at mounts (Some way) (Some mount) = ended_text groups space at mounts way mount
ended_in groups space at mounts way mount = []

abbrev pub ended_at : BTreeMap ℕ Group → List ℕ → List ℕ → Space → ℕ → List ℕ
ended_at groups space at of number = ended_in groups space at of.tree.mounts (slice_get of.ways.items number) (slice_get of.tree.mounts number)

-- The mounts from one of a number on, after those that are open, which wait for their end, the last one first: as many stay open as
-- the level of the next one says, the others are ended, and then that one is open too. After the last one all are ended.
abbrev pub turns_from : BTreeMap ℕ Group → List ℕ → List ℕ → Space → List ℕ → ℕ → List Mount → List ℕ
turns_from groups space at of opened number [] = flat_map (ended_at groups space at of) opened
turns_from groups space at of opened number (mount ∷ mounts) =
    (flat_map (ended_at groups space at of) (take (length opened - mount.level) opened) ++ begun_at groups space at (slice_get of.ways.items number) mount)
    ++ turns_from groups space at of (number ∷ drop (length opened - mount.level) opened) (suc number) mounts
