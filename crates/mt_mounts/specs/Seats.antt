-- How the lists of a `Table` lie beside its slots. No public clause cites this module.
-- A word with no source is this project's rule.
use Rattle.std.specs.Prelude.{◌≡◌, ℕ, ◌<◌, ◌≤◌, length, Option, Some, min, ◌-◌}
use Rattle.std.specs.Option.{option_map, option_and_then}
use Rattle.slab.specs.Slab.{Slab, get, slab_len}
use Rattle.indexmap.specs.IndexMap.{spare}
use Rattle.mt_lists.specs.SlotLists.{SlotListsView, id_in}
use Rattle.mt_lists.specs.Numbered.{rows_by}
use Rattle.mt_mounts.specs.declared.mount.Place.{Place}
use Rattle.mt_mounts.specs.declared.mount.Mount.{Mount}
use Rattle.mt_mounts.specs.Forest.{id_of}
use Rattle.mt_mounts.specs.Slots.{slab_mounts, Keys, IsKeyed}

-- The mount that a mount stands on.
abbrev pub parent_of : Mount → Option ℕ
parent_of m = option_map (λ (p : Place). p.mount) m.place

-- The namespace that a mount is in.
abbrev pub own_space : Mount → Option ℕ
own_space m = Some m.space

-- The ID of a mount that has a number.
abbrev pub seat : (Mount → Option ℕ) → Mount → Option ℕ
seat number m = option_map (λ _. m.id) (number m)

-- The lists have the rows of the slab's mounts, each in the slot of its mount, and a slot for each mount and for each key
-- that the slab has room for.
pub record IsBeside (number : Mount → Option ℕ) (s : Slab Mount) (lists : SlotListsView) : Type 0 where
  pub rows : lists.rows ≡ rows_by id_of number (slab_mounts s)
  pub seats : (key : ℕ) → id_in lists.slots key ≡ option_and_then (seat number) (get s key)
  pub held : (key : ℕ) (m : Mount) → get s key ≡ Some m → key < length lists.slots
  pub wide : s.capacity ≤ length lists.slots

-- Each mount has its ID's key, and lies beside those of its parent and of its namespace.
pub record IsTable (s : Slab Mount) (keys : Keys) (of_parents of_spaces : SlotListsView) : Type 0 where
  pub keyed : IsKeyed s keys
  pub children : IsBeside parent_of s of_parents
  pub spaces : IsBeside own_space s of_spaces

-- How many mounts a table has room for.
abbrev pub table_room : Slab Mount → Keys → SlotListsView → SlotListsView → ℕ
table_room s keys of_parents of_spaces = min (s.capacity - slab_len s) (min (spare keys) (min of_parents.room of_spaces.room))
