-- Forms as lines of a session (the lines are this project's rule).
-- A word with no source is this project's rule.
use Rattle.std.specs.Prelude.{ℕ, Bool, nat_eq, if◌then◌else◌, List, [], ◌∷◌, ◌++◌, length, Option, None, Some, codes}
use Rattle.std.specs.List.{flat_map, list_all, starts_with}
use Rattle.mt_skel.specs.Escapes.{escaped}
use Rattle.mt_lines.specs.Words.{pieces}
use Rattle.mt_forms.specs.Given.{nothing_given, with_list}
use Rattle.mt_forms.specs.Settings.{for_bind, for_new, for_remount, is_empty_setting, set_option, setting_text}
use Rattle.mt_forms.specs.declared.attribute.Attributes.{Attributes}
use Rattle.mt_forms.specs.declared.operation.Operation.{Operation}
use Rattle.mt_forms.specs.declared.operation.Operation.TheVariants as operation
use Rattle.mt_forms.specs.declared.operation.PropagationKind.{PropagationKind}
use Rattle.mt_forms.specs.declared.operation.PropagationKind.TheVariants.{Shared, Private, Slave, Unbindable}
use Rattle.mt_forms.specs.declared.operation.Propagation.{Propagation}
use Rattle.mt_forms.specs.declared.operation.Reach.{Reach}
use Rattle.mt_forms.specs.declared.operation.Reach.TheVariants.{One, Below, Filesystem}
use Rattle.mt_forms.specs.declared.setting.Setting.{Setting}

-- a path without a name is the root
abbrev pub has_no_name : List ℕ → Bool
has_no_name path = list_all (λ name. nat_eq (length name) 0) (pieces 47 path)

-- a name after a slash; where slashes stand side by side, there is none between them
abbrev pub behind_slash : List ℕ → List ℕ
behind_slash [] = []
behind_slash (b ∷ name) = 47 ∷ escaped (b ∷ name)

-- a word after a space, and a path with one slash before each name
abbrev pub behind_word : List ℕ → List ℕ
behind_word word = 32 ∷ escaped word

abbrev pub behind_path : List ℕ → List ℕ
behind_path path = if has_no_name path then codes " /" else 32 ∷ flat_map behind_slash (pieces 47 path)

-- lines with a namespace and a path, or two
abbrev pub one_path_line : List ℕ → List ℕ → List ℕ → List ℕ
one_path_line verb space path = verb ++ behind_word space ++ behind_path path ++ 10 ∷ []

abbrev pub two_paths_line : List ℕ → List ℕ → List ℕ → List ℕ → List ℕ
two_paths_line verb space first second = verb ++ behind_word space ++ behind_path first ++ behind_path second ++ 10 ∷ []

-- a propagation as options of `setattr`
abbrev pub kind_option : PropagationKind → List ℕ
kind_option Shared = codes " prop=shared"
kind_option Private = codes " prop=private"
kind_option Slave = codes " prop=slave"
kind_option Unbindable = codes " prop=unbindable"

abbrev pub propagation_text : Propagation → List ℕ
propagation_text p = if p.recursive then codes " rec" ++ kind_option p.kind else kind_option p.kind

-- a mount is made so, if it is to be
abbrev pub then_made : List ℕ → List ℕ → Option Propagation → List ℕ
then_made space to None = []
then_made space to (Some p) = codes "setattr" ++ behind_word space ++ behind_path to ++ propagation_text p ++ 10 ∷ []

-- the attributes of a mount change, if they do
abbrev pub change_line : List ℕ → List ℕ → Setting → List ℕ
change_line space to setting =
    if is_empty_setting setting then [] else codes "setattr" ++ behind_word space ++ behind_path to ++ setting_text setting ++ 10 ∷ []

abbrev pub changed_lines : List ℕ → List ℕ → Setting → Option Propagation → List ℕ
changed_lines space to setting propagation = change_line space to setting ++ then_made space to propagation

-- each form
abbrev pub bind_line : List ℕ → List ℕ → List ℕ → Bool → List ℕ
bind_line space from to recursive = two_paths_line (if recursive then codes "rbind" else codes "bind") space from to

abbrev pub new_mount_line : List ℕ → List ℕ → List ℕ → Attributes → List ℕ
new_mount_line space filesystem to set = codes "mount" ++ behind_word space ++ behind_word filesystem ++ behind_path to ++ set_option set ++ 10 ∷ []

-- the attributes that the options of a mount in a table tell
abbrev pub told_attributes : List ℕ → Attributes
told_attributes options = (with_list options nothing_given).said.set

-- more mounts than one are for a table to tell, and so are those of a source
abbrev pub umount_at_path : List ℕ → List ℕ → Bool → Reach → List ℕ
umount_at_path space path lazy One = one_path_line (if lazy then codes "detach" else codes "umount") space path
umount_at_path space path lazy Below = []
umount_at_path space path lazy Filesystem = []

abbrev pub umount_line : List ℕ → List ℕ → Bool → Reach → List ℕ
umount_line space target lazy reach = if starts_with nat_eq target (codes "/") then umount_at_path space target lazy reach else []

-- a copy that belongs to a new user namespace has locks (mount_namespaces(7))
abbrev pub copy_words : Bool → List ℕ
copy_words less = if less then codes " less lock\n" else codes "\n"

abbrev pub copy_line : List ℕ → Bool → List ℕ
copy_line space less = codes "copyns" ++ behind_word space ++ copy_words less

abbrev pub own_line : List ℕ → List (List ℕ) → List ℕ
own_line verb words = escaped verb ++ flat_map behind_word words ++ 10 ∷ []

-- the lines of a form in a namespace; the filesystem is that of a mount, and the options those that a remount changes
abbrev pub script_text : Operation → List ℕ → List ℕ → List ℕ → List ℕ
script_text (operation.Bind from to recursive said propagation) space filesystem options =
    bind_line space from to recursive ++ changed_lines space to (for_bind said) propagation
script_text (operation.Move from to propagation) space filesystem options =
    two_paths_line (codes "move") space from to ++ then_made space to propagation
script_text (operation.Mount source kind to said propagation) space filesystem options =
    new_mount_line space filesystem to (for_new said) ++ then_made space to propagation
script_text (operation.Remount to said propagation) space filesystem options =
    changed_lines space to (for_remount said (told_attributes options)) propagation
script_text (operation.Propagation to propagation) space filesystem options = then_made space to (Some propagation)
script_text (operation.Umount target lazy reach) space filesystem options = umount_line space target lazy reach
script_text (operation.Pivot new old) space filesystem options = two_paths_line (codes "pivot") space new old
script_text (operation.CopySpace less propagation) space filesystem options = copy_line space less
script_text operation.Mkdir space filesystem options = []
script_text (operation.Line verb words) space filesystem options = own_line verb words

-- a copied namespace's mounts are made so once it is there
abbrev pub later_text : Operation → List ℕ → List ℕ
later_text (operation.CopySpace less propagation) made = then_made made (codes "/") propagation
later_text operation made = []
