-- The options of programs: the letter, the name, whether it takes a value, and what it means (mount(8), umount(8), unshare(1), nsenter(1);
-- getopt_long(3)).
-- A word with no source is this project's rule.
use Rattle.std.specs.Prelude.{ℕ, true, false, List, [], ◌∷◌, Option, codes}
use Rattle.std.specs.Str.{bytes_eq}
use Rattle.mt_forms.specs.Lookup.{looked_up}
use Rattle.mt_forms.specs.declared.attribute.Attribute.TheVariants.{Ro}
use Rattle.mt_forms.specs.declared.command.Tool.{Tool}
use Rattle.mt_forms.specs.declared.command.Tool.TheVariants.{Mount, Umount, Unshare, Nsenter, PivotRoot}
use Rattle.mt_forms.specs.declared.operation.PropagationKind.{PropagationKind}
use Rattle.mt_forms.specs.declared.operation.PropagationKind.TheVariants.{Shared, Private, Slave, Unbindable}
use Rattle.mt_forms.specs.declared.operation.Propagation.{Propagation}
use Rattle.mt_forms.specs.declared.operation.Reach.TheVariants.{Below, Filesystem}
use Rattle.mt_forms.specs.declared.table.Change.TheVariants.{Bind, Rbind, Move}
use Rattle.mt_forms.specs.declared.table.Means.{Means}
use Rattle.mt_forms.specs.declared.table.Means.TheVariants.{Changes, Makes, Turns, Options, FilesystemType, Source, Target, Space, Mounts, Lazy, Reaches, Forced, Less, Spread, Fstab, Unseen}
use Rattle.mt_forms.specs.declared.table.Takes.{Takes}
use Rattle.mt_forms.specs.declared.table.Takes.TheVariants.{Nothing, Value, Maybe}
use Rattle.mt_forms.specs.declared.table.Effect.{Effect}

-- a letter, or no byte; a name; whether it takes a value; what it means
abbrev pub OptionRow : Type 0
OptionRow = List ℕ × List ℕ × Takes × Means

-- one mount is made so, or a mount and all below it
abbrev pub made_alone : PropagationKind → Propagation
made_alone k = record { kind = k; recursive = false }

abbrev pub all_made : PropagationKind → Propagation
all_made k = record { kind = k; recursive = true }

-- mount(8)
abbrev pub mount_options : List OptionRow
mount_options =
    (codes "B", codes "bind", Nothing, Changes Bind) ∷ (codes "R", codes "rbind", Nothing, Changes Rbind)
    ∷ (codes "M", codes "move", Nothing, Changes Move) ∷ (codes "", codes "make-shared", Nothing, Makes (made_alone Shared))
    ∷ (codes "", codes "make-slave", Nothing, Makes (made_alone Slave)) ∷ (codes "", codes "make-private", Nothing, Makes (made_alone Private))
    ∷ (codes "", codes "make-unbindable", Nothing, Makes (made_alone Unbindable))
    ∷ (codes "", codes "make-rshared", Nothing, Makes (all_made Shared)) ∷ (codes "", codes "make-rslave", Nothing, Makes (all_made Slave))
    ∷ (codes "", codes "make-rprivate", Nothing, Makes (all_made Private))
    ∷ (codes "", codes "make-runbindable", Nothing, Makes (all_made Unbindable)) ∷ (codes "o", codes "options", Value, Options)
    ∷ (codes "t", codes "types", Value, FilesystemType) ∷ (codes "", codes "source", Value, Source) ∷ (codes "", codes "target", Value, Target)
    ∷ (codes "N", codes "namespace", Value, Space) ∷ (codes "r", codes "read-only", Nothing, Turns Ro true)
    ∷ (codes "w", codes "rw", Nothing, Turns Ro false) ∷ (codes "", codes "read-write", Nothing, Turns Ro false)
    ∷ (codes "m", codes "mkdir", Maybe, Unseen) ∷ (codes "a", codes "all", Nothing, Fstab) ∷ (codes "T", codes "fstab", Value, Fstab)
    ∷ (codes "v", codes "verbose", Nothing, Unseen) ∷ (codes "n", codes "no-mtab", Nothing, Unseen)
    ∷ (codes "i", codes "internal-only", Nothing, Unseen) ∷ (codes "c", codes "no-canonicalize", Nothing, Unseen)
    ∷ (codes "s", codes "sloppy", Nothing, Unseen) ∷ []

-- umount(8)
abbrev pub umount_options : List OptionRow
umount_options =
    (codes "l", codes "lazy", Nothing, Lazy) ∷ (codes "R", codes "recursive", Nothing, Reaches Below)
    ∷ (codes "A", codes "all-targets", Nothing, Reaches Filesystem) ∷ (codes "f", codes "force", Nothing, Forced)
    ∷ (codes "N", codes "namespace", Value, Space) ∷ (codes "a", codes "all", Nothing, Fstab) ∷ (codes "t", codes "types", Value, Fstab)
    ∷ (codes "O", codes "test-opts", Value, Fstab) ∷ (codes "v", codes "verbose", Nothing, Unseen) ∷ (codes "q", codes "quiet", Nothing, Unseen)
    ∷ (codes "n", codes "no-mtab", Nothing, Unseen) ∷ (codes "i", codes "internal-only", Nothing, Unseen)
    ∷ (codes "c", codes "no-canonicalize", Nothing, Unseen) ∷ (codes "d", codes "detach-loop", Nothing, Unseen)
    ∷ (codes "r", codes "read-only", Nothing, Unseen) ∷ []

-- unshare(1)
abbrev pub unshare_options : List OptionRow
unshare_options =
    (codes "m", codes "mount", Nothing, Mounts) ∷ (codes "U", codes "user", Maybe, Less) ∷ (codes "r", codes "map-root-user", Nothing, Less)
    ∷ (codes "c", codes "map-current-user", Nothing, Less) ∷ (codes "", codes "propagation", Value, Spread)
    ∷ (codes "u", codes "uts", Maybe, Unseen) ∷ (codes "i", codes "ipc", Maybe, Unseen) ∷ (codes "n", codes "net", Maybe, Unseen)
    ∷ (codes "p", codes "pid", Maybe, Unseen) ∷ (codes "C", codes "cgroup", Maybe, Unseen) ∷ (codes "T", codes "time", Maybe, Unseen)
    ∷ (codes "f", codes "fork", Nothing, Unseen) ∷ (codes "", codes "kill-child", Maybe, Unseen) ∷ []

-- nsenter(1)
abbrev pub nsenter_options : List OptionRow
nsenter_options =
    (codes "t", codes "target", Value, Space) ∷ (codes "m", codes "mount", Maybe, Mounts) ∷ (codes "a", codes "all", Nothing, Mounts)
    ∷ (codes "u", codes "uts", Maybe, Unseen) ∷ (codes "i", codes "ipc", Maybe, Unseen) ∷ (codes "n", codes "net", Maybe, Unseen)
    ∷ (codes "p", codes "pid", Maybe, Unseen) ∷ (codes "C", codes "cgroup", Maybe, Unseen) ∷ (codes "T", codes "time", Maybe, Unseen)
    ∷ (codes "U", codes "user", Maybe, Unseen) ∷ (codes "F", codes "no-fork", Nothing, Unseen)
    ∷ (codes "", codes "preserve-credentials", Nothing, Unseen) ∷ (codes "S", codes "setuid", Value, Unseen)
    ∷ (codes "G", codes "setgid", Value, Unseen) ∷ []

-- the options of a program
abbrev pub options_of_tool : Tool → List OptionRow
options_of_tool Mount = mount_options
options_of_tool Umount = umount_options
options_of_tool Unshare = unshare_options
options_of_tool Nsenter = nsenter_options
options_of_tool PivotRoot = []

-- what an option does
abbrev pub effect_of : OptionRow → Effect
effect_of row = record { takes = row.2; means = row.3 }

-- what the option with a letter, or with a name, does, if the program has it
unfoldable pub option_of_letter : Tool → List ℕ → Option Effect
option_of_letter tool letter = looked_up (λ row. bytes_eq row.0 letter) effect_of (options_of_tool tool)

unfoldable pub option_of_name : Tool → List ℕ → Option Effect
option_of_name tool name = looked_up (λ row. bytes_eq row.1 name) effect_of (options_of_tool tool)
