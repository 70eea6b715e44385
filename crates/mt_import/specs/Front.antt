-- What comes before the namespaces: filesystems and their directories, the first namespace, and what is staged in it. A word with no
-- source is this project's rule.
use Rattle.std.specs.Prelude.{◌≡◌, ◌⊎◌, ℕ, false, List, [], ◌∷◌, ◌++◌, Option, Some, None, codes, decimal}
use Rattle.std.specs.BTreeMap.{BTreeMap, get}
use Rattle.std.specs.List.{flat_map, list_any}
use Rattle.std.specs.Option.{option_map_or}
use Rattle.std.specs.Ordering.{nat_cmp}
use Rattle.mt_import.specs.declared.groups.Group.{Group}
use Rattle.mt_import.specs.declared.space.Space.{Space}
use Rattle.mt_import.specs.Commands.{mount_text, bind_text, kind_text}
use Rattle.mt_import.specs.Script.{command_text, group_comment}
use Rattle.mt_import.specs.Telling.{is_shown}

-- a filesystem of which directories are bound is mounted
abbrev pub plain_text : List ℕ → List ℕ
plain_text device = mount_text (codes "1") device (codes "/" ++ device)

-- where the staged member of a group stands in the first namespace
abbrev pub member_path : ℕ → List ℕ
member_path number = codes "/" ++ decimal number

-- it comes from that of the master, as a slave, or from its filesystem
abbrev pub stage_below_text : Option ℕ → List ℕ → List ℕ → List ℕ
stage_below_text None device path = mount_text (codes "1") device path
stage_below_text (Some master) device path = bind_text (codes "1") (member_path master) path ++ kind_text (codes "1") path (codes "prop=slave")

-- and is made shared, which a comment tells
unfoldable pub member_text : ℕ → Group → List ℕ
member_text number group =
    (group_comment number group.here ++ stage_below_text group.master group.device.now (member_path number)) ++ kind_text (codes "1") (member_path number) (codes "prop=shared")

unfoldable pub stage_text : BTreeMap ℕ Group → ℕ → List ℕ
stage_text groups number = option_map_or (member_text number) (get nat_cmp groups number) []

-- what comes before them: filesystems, directories, and what is staged of devices and groups
unfoldable pub front_text : BTreeMap ℕ Group → List ℕ → List ℕ → List (List ℕ) → List ℕ → List ℕ
front_text groups filesystems directories devices staged =
    ((((filesystems ++ command_text (codes "mkfs" ∷ codes "import" ∷ codes "import" ∷ codes "none" ∷ []))
    ++ directories)
    ++ command_text (codes "newns" ∷ codes "import" ∷ []))
    ++ flat_map plain_text devices)
    ++ flat_map (stage_text groups) staged

abbrev pub IsFronted : BTreeMap ℕ Group → List ℕ → List ℕ → Type 0
IsFronted groups old new =
    (filesystems : List ℕ) × (directories : List ℕ) × (devices : List (List ℕ)) × (staged : List ℕ) × (new ≡ old ++ front_text groups filesystems directories devices staged)

-- it is there if a namespace is made
abbrev pub StandsInFront : BTreeMap ℕ Group → List Space → List ℕ → Type 0
StandsInFront groups spaces front = ((list_any is_shown spaces ≡ false) × (front ≡ [])) ⊎ IsFronted groups [] front
