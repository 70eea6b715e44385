-- What a line needs and no table tells of: filesystems and directories.
-- A word with no source is this project's rule.
use Rattle.std.specs.Prelude.{ℕ, Bool, true, false, nat_eq, if◌then◌else◌, List, [], ◌∷◌, ◌++◌, Option, None, Some, is_some, Result, Ok, Err, codes}
use Rattle.std.specs.List.{find}
use Rattle.std.specs.Option.{option_map_or}
use Rattle.mt_skel.specs.Skeleton.{Skeleton, fs_named, directory}
use Rattle.mt_skel.specs.declared.fault.Fault.{Fault}
use Rattle.mt_mounts.specs.Walk.{walk}
use Rattle.mt_mounts.specs.declared.mount.Place.{Place}
use Rattle.mt_propagate.specs.World.{WorldView}
use Rattle.mt_book.specs.declared.command.Command.{Command}
use Rattle.mt_book.specs.declared.command.Command.TheVariants as command
use Rattle.mt_refused.specs.Asked.{asked_space, asked_path}
use Rattle.mt_refused.specs.declared.asked.Which.{Which}
use Rattle.mt_refused.specs.declared.asked.Which.TheVariants.{First, Second}
use Rattle.mt_what_if.specs.Trials.{TrialView, Ended, world_after, all_done, then_tried, give_all}

-- the filesystem of a name, where there is none: with a source of its name
abbrev pub filesystem_lacking : Skeleton → List ℕ → List ℕ → List Command
filesystem_lacking s name kind = if is_some (fs_named s name) then [] else command.MakeFs name kind name ∷ []

-- directories of these names, each in the one before, from a path of a filesystem down
abbrev pub nested : List ℕ → List (List ℕ) → List (List ℕ) → List Command
nested fs path [] = []
nested fs path (name ∷ names) = command.MakeDir fs (path ++ name ∷ []) ∷ nested fs (path ++ name ∷ []) names

-- in a directory of a filesystem that goes by one of the known names
abbrev pub goes_by_name : Skeleton → ℕ → List ℕ → Bool
goes_by_name s f name = option_map_or (nat_eq f) (fs_named s name) false

abbrev pub nested_in : List (List ℕ) → Skeleton → ℕ → List (List ℕ) → List Command
nested_in known s d names = option_map_or (λ fs. nested fs (directory s d).path names) (find (goes_by_name s (directory s d).fs) known) []

-- where a path ends, if it leads to a directory that is there
abbrev pub nested_at : List (List ℕ) → Skeleton → Result Place Fault → List (List ℕ) → List Command
nested_at known s (Ok place) names = nested_in known s place.dir names
nested_at known s (Err fault) names = []

abbrev pub is_place : Result Place Fault → Bool
is_place (Ok place) = true
is_place (Err fault) = false

abbrev pub leads_somewhere : WorldView → ℕ → List (List ℕ) → Bool
leads_somewhere w n path = is_place (walk w.skel w.forest n path)

-- the directories of a path that are not there (path_resolution(7)): as far as its first names lead, nothing is to be made, and those behind
-- them are, where these end
abbrev pub lacking_behind : List (List ℕ) → WorldView → ℕ → List (List ℕ) → List (List ℕ) → List Command
lacking_behind known w n front [] = []
lacking_behind known w n front (name ∷ names) =
    if leads_somewhere w n (front ++ name ∷ []) then lacking_behind known w n (front ++ name ∷ []) names
    else nested_at known w.skel (walk w.skel w.forest n front) (name ∷ names)

abbrev pub directories_lacking : List (List ℕ) → WorldView → ℕ → List (List ℕ) → List Command
directories_lacking known w n path = lacking_behind known w n [] path

-- a line is given a filesystem, or the directories of a path, so far as they are not there
unfoldable pub filesystem_given : TrialView → List ℕ → List ℕ → Ended
filesystem_given t name kind = give_all t (filesystem_lacking (world_after t).skel name kind)

unfoldable pub directories_given : TrialView → ℕ → List (List ℕ) → Ended
directories_given t n path = give_all t (directories_lacking t.names (world_after t) n path)

-- for a command: the filesystem that it mounts, of which it says no type (mount(8), -t), and the directories of its paths
abbrev pub filesystem_mounted : Command → Option (List ℕ)
filesystem_mounted (command.Mount n fs path) = Some fs
filesystem_mounted (command.MountWith n fs path set) = Some fs
filesystem_mounted (command.NewTree fs) = Some fs
filesystem_mounted c = None

abbrev pub unknown_type : List ℕ
unknown_type = codes "auto"

unfoldable pub mounted_given : TrialView → Command → Ended
mounted_given t c = option_map_or (λ fs. filesystem_given t fs unknown_type) (filesystem_mounted c) (all_done t)

unfoldable pub path_given : TrialView → Command → Which → Ended
path_given t c which = option_map_or (λ n. option_map_or (directories_given t n) (asked_path c which) (all_done t)) (asked_space c) (all_done t)

unfoldable pub paths_given : TrialView → Command → Ended
paths_given t c = then_tried (path_given t c First) (λ u. path_given u c Second)

unfoldable pub command_given : TrialView → Command → Ended
command_given t c = then_tried (mounted_given t c) (λ u. paths_given u c)
