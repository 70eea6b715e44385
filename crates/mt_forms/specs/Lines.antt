-- Lines, and what they ask for (mount(8), umount(8), unshare(1), nsenter(1), pivot_root(8)).
-- A word with no source is this project's rule.
use Rattle.std.specs.Prelude.{ℕ, nat_eq, Bool, true, false, not, ◌&&◌, if◌then◌else◌, List, [], ◌∷◌, Option, None, Some, is_some, Result, Ok, Err, codes}
use Rattle.std.specs.List.{starts_with}
use Rattle.std.specs.Option.{option_map_or}
use Rattle.std.specs.Str.{bytes_eq}
use Rattle.mt_forms.specs.Written.{base_name}
use Rattle.mt_forms.specs.Beginnings.{beginning_of}
use Rattle.mt_forms.specs.Given.{nothing_given}
use Rattle.mt_forms.specs.Reading.{given_of, begins_command, with_word}
use Rattle.mt_forms.specs.Operations.{operation_by}
use Rattle.mt_forms.specs.declared.command.Beginning.{Beginning}
use Rattle.mt_forms.specs.declared.command.Beginning.TheVariants as beginning
use Rattle.mt_forms.specs.declared.command.Tool.{Tool}
use Rattle.mt_forms.specs.declared.command.Tool.TheVariants.{Mount, Umount, Unshare, Nsenter, PivotRoot}
use Rattle.mt_forms.specs.declared.operation.Asked.{Asked}
use Rattle.mt_forms.specs.declared.operation.Operation.{Operation}
use Rattle.mt_forms.specs.declared.operation.Operation.TheVariants as operation
use Rattle.mt_forms.specs.declared.given.Given.{Given}
use Rattle.mt_forms.specs.declared.slip.Slip.{Slip}
use Rattle.mt_forms.specs.declared.slip.Slip.TheVariants as slip

-- a word that may name a namespace or a filesystem in a line of a session: neither a path nor an option
abbrev pub may_name : List ℕ → Bool
may_name word = not (starts_with nat_eq word (codes "/")) && not (starts_with nat_eq word (codes "-"))

-- `umount NS PATH` and `mkdir FS DIR` are lines of a session
abbrev pub are_space_and_path : List (List ℕ) → Bool
are_space_and_path (space ∷ path ∷ []) = may_name space && starts_with nat_eq path (codes "/")
are_space_and_path words = false

-- and so is `mount NS FS PATH`, with `set=` behind it or not
abbrev pub are_attributes : List (List ℕ) → Bool
are_attributes [] = true
are_attributes (word ∷ []) = starts_with nat_eq word (codes "set=")
are_attributes words = false

abbrev pub are_mount_words : List (List ℕ) → Bool
are_mount_words (space ∷ fs ∷ path ∷ words) = may_name space && may_name fs && starts_with nat_eq path (codes "/") && are_attributes words
are_mount_words words = false

abbrev pub is_own_line : Tool → List (List ℕ) → Bool
is_own_line Mount words = are_mount_words words
is_own_line Umount words = are_space_and_path words
is_own_line Unshare words = false
is_own_line Nsenter words = false
is_own_line PivotRoot words = false

-- a form with nothing else
abbrev pub asked_without : Operation → Asked
asked_without operation = record { space = None; operation = operation; foreign = None; has_more_foreign = false; is_forced = false; has_command = false }

-- what the words after a program ask for: no slip, and no option that waits for its value
abbrev pub asked_with : Given → Result Operation Slip → Result Asked Slip
asked_with g (Ok operation) = Ok (record {
  space = g.space;
  operation = operation;
  foreign = g.foreign;
  has_more_foreign = g.has_more_foreign;
  is_forced = g.is_forced;
  has_command = g.has_command;
})
asked_with g (Err slip) = Err slip

abbrev pub unless_waiting : Tool → Given → Result Asked Slip
unless_waiting tool g = if is_some g.waiting then Err (slip.NoValue tool) else asked_with g (operation_by tool g)

abbrev pub asked_by : Tool → Given → Result Asked Slip
asked_by tool g = option_map_or (λ s. Err s) g.slip (unless_waiting tool g)

-- what a first word and others ask for; `mkdir` of a shell changes no table
abbrev pub by_beginning : Option Beginning → List ℕ → List (List ℕ) → Result Asked Slip
by_beginning (Some (beginning.Runs tool)) first words =
    if is_own_line tool words then Ok (asked_without (operation.Line first words)) else asked_by tool (given_of tool words)
by_beginning (Some beginning.Mkdir) first words =
    if are_space_and_path words then Ok (asked_without (operation.Line first words)) else Ok (asked_without operation.Mkdir)
by_beginning (Some beginning.Line) first words = Ok (asked_without (operation.Line first words))
by_beginning (Some beginning.NoChange) first words = Err (slip.NoChange first)
by_beginning None first words = Err (slip.Unknown first)

-- nsenter(1): its options name a namespace, in which the command after them is; one that the command names counts
abbrev pub over_space : List ℕ → Result Asked Slip → Result Asked Slip
over_space space (Ok asked) = if is_some asked.space then Ok asked else Ok (record asked { space = Some space })
over_space space (Err slip) = Err slip

abbrev pub in_named : Option (List ℕ) → List ℕ → List (List ℕ) → Result Asked Slip
in_named None command words = Err slip.NoProcess
in_named (Some space) command words = over_space space (by_beginning (beginning_of (base_name command)) command words)

abbrev pub asked_in : Given → List ℕ → List (List ℕ) → Result Asked Slip
asked_in g command words =
    option_map_or (λ s. Err s) g.slip (if g.has_mounts then in_named g.space command words else Err (slip.NoMounts Nsenter))

abbrev pub without_command : Given → Slip
without_command g = option_map_or (λ s. s) g.slip slip.NoLine

abbrev pub entered_from : Given → List (List ℕ) → Result Asked Slip
entered_from g [] = Err (without_command g)
entered_from g (word ∷ words) = if begins_command g word then asked_in g word words else entered_from (with_word Nsenter g word) words

-- what a line asks for
abbrev pub by_entry : Option Beginning → List ℕ → List (List ℕ) → Result Asked Slip
by_entry (Some (beginning.Runs Nsenter)) first words = entered_from nothing_given words
by_entry beginning first words = by_beginning beginning first words

unfoldable pub by_first : List ℕ → List (List ℕ) → Result Asked Slip
by_first first words = by_entry (beginning_of (base_name first)) first words

abbrev pub behind_sudo : List (List ℕ) → Result Asked Slip
behind_sudo [] = Err slip.Empty
behind_sudo (command ∷ words) = by_first command words

abbrev pub asked_of : List (List ℕ) → Result Asked Slip
asked_of [] = Err slip.Empty
asked_of ([] ∷ words) = Err slip.Empty
asked_of ((b ∷ first) ∷ words) =
    if bytes_eq (base_name (b ∷ first)) (codes "sudo") then behind_sudo words else by_first (b ∷ first) words
