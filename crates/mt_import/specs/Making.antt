-- How a mount is made where nothing propagates. A word with no source is this project's rule.
use Rattle.std.specs.Prelude.{ℕ, Bool, true, false, ◌&&◌, not, if◌then◌else◌, List, [], ◌∷◌, ◌++◌, Option, Some, None, is_some, codes}
use Rattle.std.specs.BTreeMap.{BTreeMap}
use Rattle.mt_import.specs.declared.groups.Group.{Group}
use Rattle.mt_import.specs.declared.mount.Mount.{Mount}
use Rattle.mt_import.specs.Reading.{ToldMount}
use Rattle.mt_import.specs.Commands.{mount_text, bind_text}
use Rattle.mt_import.specs.Groups.{receiving, lone_group, source_group, number_here}
use Rattle.mt_import.specs.Options.{options_text}
use Rattle.mt_import.specs.Paths.{path_word}
use Rattle.mt_import.specs.Script.{command_line, group_comment}
use Rattle.mt_import.specs.Slots.{staged_path, group_path}

-- options and the propagation of a mount are set, if there is anything to set
abbrev pub set_text : List ℕ → List ℕ → List ℕ → List ℕ
set_text space path [] = []
set_text space path (b ∷ words) = command_line (codes "setattr " ++ (space ++ (codes " " ++ (path_word path ++ (b ∷ words)))))

unfoldable pub attributes_text : List ℕ → List ℕ → List ℕ → Option (List ℕ) → List ℕ
attributes_text space options path kind = set_text space path (options_text options kind)

-- a filesystem is mounted, or a directory of it bound
abbrev pub own_text : List ℕ → List ℕ → List ℕ → List ℕ → List ℕ → List ℕ
own_text space at device [] path = mount_text space device path
own_text space at device (b ∷ root) path = bind_text space (staged_path at device (b ∷ root)) path

-- a directory of the staged member of a group is bound, or of a filesystem
unfoldable pub made_text : List ℕ → List ℕ → Option ℕ → List ℕ → List ℕ → List ℕ → List ℕ
made_text space at None device root path = own_text space at device root path
made_text space at (Some group) device root path = bind_text space (group_path at group root) path

-- how the propagation of a mount that was just made changes: not at all if it is already a member of its group
abbrev pub kind_made : Option ℕ → Option ℕ → Bool → Option (List ℕ)
kind_made (Some group) master unbindable = None
kind_made None (Some group) unbindable = Some (codes "prop=slave")
kind_made None None true = Some (codes "prop=unbindable")
kind_made None None false = None

unfoldable pub first_kind : BTreeMap ℕ Group → ToldMount → Option (List ℕ)
first_kind groups row = kind_made (receiving groups row.shared) row.master row.unbindable

-- the options of a mount that is alone in its group and is not a slave wait until it is made shared
unfoldable pub waits : BTreeMap ℕ Group → ToldMount → Bool
waits groups row = is_some (lone_group groups row.shared) && not (is_some row.master)

-- a mount is made at a path, with its options
unfoldable pub bare_text : BTreeMap ℕ Group → List ℕ → List ℕ → Mount → List ℕ → List ℕ
bare_text groups space at mount path =
    made_text space at (source_group groups mount.row.now.shared mount.row.now.master) mount.row.now.device mount.root.now path
    ++ (if waits groups mount.row.now then [] else attributes_text space mount.row.now.options path (first_kind groups mount.row.now))

-- one that is alone in its group becomes a member of it, which a comment tells, with the options that wait for it
abbrev pub late_options : Bool → List ℕ → List ℕ
late_options true options = options
late_options false options = codes "relatime"

abbrev pub shared_text : Option ℕ → BTreeMap ℕ Group → List ℕ → ToldMount → List ℕ → List ℕ
shared_text None groups space row path = []
shared_text (Some group) groups space row path =
    group_comment group (number_here groups group) ++ attributes_text space (late_options (waits groups row) row.options) path (Some (codes "prop=shared"))

unfoldable pub share_text : BTreeMap ℕ Group → List ℕ → ToldMount → List ℕ → List ℕ
share_text groups space row path = shared_text (lone_group groups row.shared) groups space row path
