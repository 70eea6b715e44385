-- The words of a `setattr` line for the options of a mount (their words: proc_pid_mountinfo(5), mount_setattr(2)).
-- A word with no source is this project's rule.
use Rattle.std.specs.Prelude.{ℕ, Bool, ◌&&◌, ◌||◌, not, if◌then◌else◌, List, [], ◌∷◌, ◌++◌, Option, Some, None, codes}
use Rattle.std.specs.List.{list_any, list_all}
use Rattle.std.specs.Str.{bytes_eq}
use Rattle.mt_lines.specs.Words.{pieces}

-- the options that are set by themselves
abbrev pub flags : List (List ℕ)
flags = codes "ro" ∷ codes "nosuid" ∷ codes "nodev" ∷ codes "noexec" ∷ codes "nodiratime" ∷ codes "nosymfollow" ∷ []

-- whether a word is among options, which have commas between them
unfoldable pub has_option : List ℕ → List ℕ → Bool
has_option options word = list_any (λ option. bytes_eq option word) (pieces 44 options)

-- the options that a mount here can have (proc_pid_mountinfo(5), field 6; their words: the kernel's listing)
abbrev pub is_known : List ℕ → Bool
is_known option =
    bytes_eq option (codes "rw") || bytes_eq option (codes "ro") || bytes_eq option (codes "nosuid") || bytes_eq option (codes "nodev")
    || bytes_eq option (codes "noexec") || bytes_eq option (codes "noatime") || bytes_eq option (codes "nodiratime")
    || bytes_eq option (codes "relatime") || bytes_eq option (codes "nosymfollow")

-- whether two options that exclude each other are told
abbrev pub has_both : List ℕ → List ℕ → List ℕ → Bool
has_both options first second = has_option options first && has_option options second

-- whether a mount here can have all options of a line
unfoldable pub are_known : List ℕ → Bool
are_known options =
    list_all is_known (pieces 44 options) && not (has_both options (codes "rw") (codes "ro")) && not (has_both options (codes "noatime") (codes "relatime"))

-- the word for the access times, if they are not those of a new mount
abbrev pub times_of : List ℕ → Option (List ℕ)
times_of options =
    if has_option options (codes "noatime") then Some (codes "noatime")
    else (if has_option options (codes "relatime") then None else Some (codes "strictatime"))

-- the words of `set=` have commas between them
abbrev pub before_set : List ℕ → List ℕ
before_set [] = codes " set="
before_set (b ∷ text) = codes ","

abbrev pub with_set : List ℕ → List ℕ → List ℕ
with_set text word = (text ++ before_set text) ++ word

-- with those of some flags that are among options
abbrev pub with_flag : List ℕ → List ℕ → List ℕ → List ℕ
with_flag options text flag = if has_option options flag then with_set text flag else text

abbrev pub with_flags : List ℕ → List ℕ → List (List ℕ) → List ℕ
with_flags options text [] = text
with_flags options text (flag ∷ flags) = with_flags options (with_flag options text flag) flags

-- with the access times
abbrev pub with_times : Option (List ℕ) → List ℕ → List ℕ
with_times None text = text
with_times (Some times) text = with_set text times ++ codes " clr=atime"

-- with the word of a propagation
abbrev pub with_kind : Option (List ℕ) → List ℕ → List ℕ
with_kind None text = text
with_kind (Some kind) text = (text ++ codes " ") ++ kind

-- the words for the options of a row and for its propagation, each preceded by a space
unfoldable pub options_text : List ℕ → Option (List ℕ) → List ℕ
options_text options kind = with_kind kind (with_times (times_of options) (with_flags options [] flags))
