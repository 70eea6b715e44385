-- The mounts at the root of a namespace: the root mount, and those that stand on its root, one on the other. No path leads there, so
-- each one becomes the root of the namespace in turn (pivot_root(2)), and the one before it is put on it, or back.
use Rattle.std.specs.Prelude.{ℕ, Bool, true, false, ◌&&◌, ◌==◌, nat_lt, if◌then◌else◌, List, [], ◌∷◌, ◌++◌, slice_get, Option, Some, None, is_some, codes}
use Rattle.std.specs.BTreeMap.{BTreeMap}
use Rattle.std.specs.Option.{option_map_or}
use Rattle.mt_import.specs.declared.groups.Group.{Group}
use Rattle.mt_import.specs.declared.mount.Mount.{Mount}
use Rattle.mt_import.specs.Commands.{mount_text, bind_text, move_text, pivot_text, umount_text, detach_text, kind_text}
use Rattle.mt_import.specs.Groups.{receiving}
use Rattle.mt_import.specs.Hook.{isolate_text}
use Rattle.mt_import.specs.Making.{bare_text, share_text}
use Rattle.mt_import.specs.Slots.{stage, second, group_path, cover_path}

-- where the old root is to be put on a member of a group, a mount isolates the place; on one above the root mount that is alone in its group, it stands on a
-- mount of its own
abbrev pub shelf_text : Option ℕ → List ℕ → List ℕ → Mount → List ℕ → List ℕ
shelf_text (Some group) space at mount path = isolate_text space (group_path at group (mount.root.now ++ stage)) [] path
shelf_text None space at mount path = if nat_lt 0 mount.base && is_some mount.row.now.shared then mount_text space (codes "import") path else []

-- a mount at a path becomes the root of the namespace, and the old one is put on it
unfoldable pub rise_text : BTreeMap ℕ Group → List ℕ → List ℕ → Mount → List ℕ → List ℕ
rise_text groups space at mount path =
    shelf_text (receiving groups mount.row.now.shared) space at mount (path ++ stage) ++ pivot_text space path (path ++ stage)

-- the root mount is made, and takes the place of what is staged
abbrev pub root_text : BTreeMap ℕ Group → List ℕ → List ℕ → Mount → List ℕ
root_text groups space at mount = bare_text groups space at mount (codes "/new") ++ rise_text groups space at mount (codes "/new")

-- one at the root of the namespace is made: the root mount, or one above at a slot
unfoldable pub base_text : BTreeMap ℕ Group → List ℕ → List ℕ → Mount → List ℕ
base_text groups space at mount =
    if mount.base == 0 then root_text groups space [] mount else bare_text groups space at mount (cover_path at mount.base)

-- one at a slot becomes the root of the namespace, with the old one below
abbrev pub raise_text : BTreeMap ℕ Group → List ℕ → List ℕ → Mount → List ℕ
raise_text groups space at mount = rise_text groups space at mount (cover_path at mount.base)

-- a member of a group with others is put back on the one below it
abbrev pub lower_member_text : List ℕ → List ℕ → Mount → ℕ → List ℕ
lower_member_text space at mount group = pivot_text space stage stage ++ umount_text space (group_path at group (mount.root.now ++ stage))

-- one that is alone in its group: it is made shared, and what the old one stands on is taken away by way of a peer
unfoldable pub shelve_text : BTreeMap ℕ Group → List ℕ → List ℕ → Mount → List ℕ
shelve_text groups space peer mount = ((((share_text groups space mount.row.now []
    ++ bind_text space (codes "/") peer)
    ++ mount_text space (codes "import") (peer ++ second))
    ++ kind_text space second (codes "prop=private"))
    ++ move_text space stage second)
    ++ umount_text space stage

unfoldable pub unshelve_text : List ℕ → List ℕ → List ℕ
unshelve_text space peer = (pivot_text space second second
    ++ umount_text space (peer ++ second))
    ++ umount_text space peer

abbrev pub lower_in : Option ℕ → Bool → BTreeMap ℕ Group → List ℕ → List ℕ → Mount → List ℕ
lower_in (Some group) shared groups space at mount = lower_member_text space at mount group
lower_in None true groups space at mount = shelve_text groups space (stage ++ (at ++ codes "/peer")) mount ++ unshelve_text space (at ++ codes "/peer")
lower_in None false groups space at mount = pivot_text space stage stage

unfoldable pub lower_text : BTreeMap ℕ Group → List ℕ → List ℕ → Mount → List ℕ
lower_text groups space at mount = lower_in (receiving groups mount.row.now.shared) (is_some mount.row.now.shared) groups space at mount

-- each of the mounts of these numbers becomes the root of the namespace, and is put back, the last one first; what is staged is below all that are above the
-- root mount
abbrev pub covered : BTreeMap ℕ Group → List ℕ → List ℕ → List Mount → List ℕ → List ℕ
covered groups space at mounts [] = []
covered groups space at mounts (number ∷ numbers) =
    option_map_or (λ (mount : Mount). (raise_text groups space at mount ++ covered groups space (stage ++ at) mounts numbers) ++ lower_text groups space at mount)
    (slice_get mounts number) []

-- what is staged is taken away, and the root mount becomes a member of its group, if it is alone in that
unfoldable pub finish_text : BTreeMap ℕ Group → List ℕ → List ℕ → Mount → List ℕ
finish_text groups space at mount = detach_text space at ++ share_text groups space mount.row.now []

abbrev pub finished : BTreeMap ℕ Group → List ℕ → List ℕ → List Mount → List ℕ
finished groups space at [] = []
finished groups space at (root ∷ mounts) = finish_text groups space at root
