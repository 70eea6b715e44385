-- What a line of a program asks for (mount(8), umount(8), unshare(1), pivot_root(8)).
-- A word with no source is this project's rule.
use Rattle.std.specs.Prelude.{ℕ, nat_eq, Bool, true, false, not, ◌&&◌, if◌then◌else◌, List, Option, None, Some, is_none, Result, Ok, Err, codes}
use Rattle.std.specs.List.{starts_with, list_any}
use Rattle.std.specs.Option.{option_map_or, option_or}
use Rattle.mt_lines.specs.Words.{pieces}
use Rattle.mt_forms.specs.Written.{is_dots}
use Rattle.mt_forms.specs.Tables.{all_made}
use Rattle.mt_forms.specs.Given.{one_more_place}
use Rattle.mt_forms.specs.declared.attribute.Said.{Said}
use Rattle.mt_forms.specs.declared.command.Tool.{Tool}
use Rattle.mt_forms.specs.declared.command.Tool.TheVariants as tool
use Rattle.mt_forms.specs.declared.operation.Operation.{Operation}
use Rattle.mt_forms.specs.declared.operation.Operation.TheVariants as operation
use Rattle.mt_forms.specs.declared.operation.PropagationKind.TheVariants.{Private}
use Rattle.mt_forms.specs.declared.operation.Propagation.{Propagation}
use Rattle.mt_forms.specs.declared.operation.Reach.{Reach}
use Rattle.mt_forms.specs.declared.given.Given.{Given}
use Rattle.mt_forms.specs.declared.given.Places.{Places}
use Rattle.mt_forms.specs.declared.given.Places.TheVariants as places
use Rattle.mt_forms.specs.declared.slip.Slip.{Slip}
use Rattle.mt_forms.specs.declared.slip.Slip.TheVariants as slip
use Rattle.mt_forms.specs.declared.table.Change.{Change}
use Rattle.mt_forms.specs.declared.table.Change.TheVariants.{Bind, Rbind, Move}

-- a path goes from the root, and not through `.` or `..`
abbrev pub has_dots : List ℕ → Bool
has_dots path = list_any is_dots (pieces 47 path)

abbrev pub path_slip : List ℕ → Option Slip
path_slip word =
    if not (starts_with nat_eq word (codes "/")) then Some (slip.NotRooted word)
    else (if has_dots word then Some (slip.Dots word) else None)

abbrev pub two_slip : List ℕ → List ℕ → Option Slip
two_slip first second = option_or (path_slip first) (path_slip second)

-- a form, unless something is wrong
abbrev pub unless_slip : Option Slip → Operation → Result Operation Slip
unless_slip slip operation = option_map_or (λ s. Err s) slip (Ok operation)

-- `--source` stands for the first word, and `--target` for the last
abbrev pub in_front : Option (List ℕ) → Places → Places
in_front None places = places
in_front (Some word) places.None = places.One word
in_front (Some word) (places.One first) = places.Two word first
in_front (Some word) (places.Two first second) = places.Many
in_front (Some word) places.Many = places.Many

abbrev pub then_place : Places → Option (List ℕ) → Places
then_place places None = places
then_place places (Some word) = one_more_place places word

-- bind, rbind and move
abbrev pub moved_operation : Change → Said → Option Propagation → List ℕ → List ℕ → Operation
moved_operation Bind said propagation from to = operation.Bind from to false said propagation
moved_operation Rbind said propagation from to = operation.Bind from to true said propagation
moved_operation Move said propagation from to = operation.Move from to propagation

-- they have two paths
abbrev pub change_operation : Change → Said → Option Propagation → Places → Result Operation Slip
change_operation change said propagation places.None = Err (slip.NoTarget tool.Mount)
change_operation change said propagation (places.One word) = Err (slip.OnePath tool.Mount)
change_operation change said propagation (places.Two from to) = unless_slip (two_slip from to) (moved_operation change said propagation from to)
change_operation change said propagation places.Many = Err (slip.Many tool.Mount)

-- a remount is of the mount at the last word
abbrev pub remount_at : Said → Option Propagation → Places → Result Operation Slip
remount_at said propagation places.None = Err (slip.NoTarget tool.Mount)
remount_at said propagation (places.One to) = unless_slip (path_slip to) (operation.Remount to said propagation)
remount_at said propagation (places.Two source to) = unless_slip (path_slip to) (operation.Remount to said propagation)
remount_at said propagation places.Many = Err (slip.Many tool.Mount)

-- without bind it changes the filesystem itself
abbrev pub remount_operation : Option Change → Said → Option Propagation → Places → Result Operation Slip
remount_operation None said propagation places = Err slip.WholeRemount
remount_operation (Some Move) said propagation places = Err slip.WholeRemount
remount_operation (Some Bind) said propagation places = remount_at said propagation places
remount_operation (Some Rbind) said propagation places = remount_at said propagation places

-- a target alone gets another propagation, if nothing else is asked for
abbrev pub alone_operation : Bool → Option Propagation → List ℕ → Result Operation Slip
alone_operation is_unquoted None to = Err (slip.Alone to)
alone_operation is_unquoted (Some propagation) to = if is_unquoted then unless_slip (path_slip to) (operation.Propagation to propagation) else Err (slip.Alone to)

-- a source and a target are a new mount
abbrev pub new_operation : Option (List ℕ) → Bool → Said → Option Propagation → Places → Result Operation Slip
new_operation kind has_list said propagation places.None = Err (slip.NoTarget tool.Mount)
new_operation kind has_list said propagation (places.One to) = alone_operation (not has_list && is_none kind) propagation to
new_operation kind has_list said propagation (places.Two source to) = unless_slip (path_slip to) (operation.Mount source kind to said propagation)
new_operation kind has_list said propagation places.Many = Err (slip.Many tool.Mount)

-- a line of mount(8)
abbrev pub all_places : Given → Places
all_places g = then_place (in_front g.source g.places) g.target

abbrev pub by_change : Option Change → Given → Places → Result Operation Slip
by_change (Some change) g places = change_operation change g.said g.propagation places
by_change None g places = new_operation g.kind g.has_list g.said g.propagation places

abbrev pub mount_operation : Given → Result Operation Slip
mount_operation g =
    if g.remounts then remount_operation g.change g.said g.propagation (all_places g) else by_change g.change g (all_places g)

-- a line of umount(8) has one target, a mount point or a source
abbrev pub umount_at : Bool → Reach → Places → Result Operation Slip
umount_at lazy reach places.None = Err (slip.NoTarget tool.Umount)
umount_at lazy reach (places.One target) = if has_dots target then Err (slip.Dots target) else Ok (operation.Umount target lazy reach)
umount_at lazy reach (places.Two first second) = Err (slip.Many tool.Umount)
umount_at lazy reach places.Many = Err (slip.Many tool.Umount)

abbrev pub umount_operation : Given → Result Operation Slip
umount_operation g = umount_at g.is_lazy g.reach g.places

-- a new namespace's mounts are made private, if nothing else is said (unshare(1), --propagation)
abbrev pub spread : Bool → Option Propagation → Option Propagation
spread true propagation = None
spread false (Some propagation) = Some propagation
spread false None = Some (all_made Private)

abbrev pub unshare_operation : Given → Result Operation Slip
unshare_operation g =
    if g.has_mounts then Ok (operation.CopySpace g.is_less (spread g.is_unchanged g.propagation)) else Err (slip.NoMounts tool.Unshare)

-- a line of pivot_root(8)
abbrev pub pivot_at : Places → Result Operation Slip
pivot_at places.None = Err (slip.NoTarget tool.PivotRoot)
pivot_at (places.One word) = Err (slip.OnePath tool.PivotRoot)
pivot_at (places.Two new old) = unless_slip (two_slip new old) (operation.Pivot new old)
pivot_at places.Many = Err (slip.Many tool.PivotRoot)

abbrev pub pivot_operation : Given → Result Operation Slip
pivot_operation g = pivot_at g.places

-- a line of a program; nsenter(1) has another one after it
abbrev pub operation_by : Tool → Given → Result Operation Slip
operation_by tool.Mount g = mount_operation g
operation_by tool.Umount g = umount_operation g
operation_by tool.Unshare g = unshare_operation g
operation_by tool.Nsenter g = Err slip.NoLine
operation_by tool.PivotRoot g = pivot_operation g
