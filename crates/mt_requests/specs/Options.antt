-- The options of a `setattr` line, and of a `mount` line (their words: mount_setattr(2); how a line writes them: this project's rule).
-- A word with no source is this project's rule.
use Rattle.std.specs.Prelude.{ℕ, Bool, true, false, not, ◌&&◌, ◌||◌, nat_eq, nat_lt, if◌then◌else◌, List, [], ◌∷◌, length, drop, Option, Some, None, codes}
use Rattle.std.specs.List.{filter, find, list_all, list_any, starts_with}
use Rattle.std.specs.Option.{option_map, option_map_or}
use Rattle.std.specs.Str.{bytes_eq}
use Rattle.mt_peers.specs.declared.state.Kind.{Kind}
use Rattle.mt_peers.specs.declared.state.Kind.TheVariants.{Shared, Private, Slave, Unbindable}
use Rattle.mt_setattr.specs.declared.change.Change.{Change}
use Rattle.mt_setattr.specs.declared.change.SetWords.{SetWords}
use Rattle.mt_setattr.specs.declared.change.ClrWords.{ClrWords}
pub use Rattle.mt_setattr.specs.Words.{nothing_set}
use Rattle.mt_lines.specs.Words.{pieces}

-- the keys of the options
abbrev pub option_keys : List (List ℕ)
option_keys = codes "rec" ∷ codes "set=" ∷ codes "clr=" ∷ codes "prop=" ∷ []

-- an option begins with its key
abbrev pub has_key : List ℕ → List ℕ → Bool
has_key key option = starts_with nat_eq option key

-- `rec`, or a key with what stands behind it
abbrev pub is_option : List ℕ → Bool
is_option option =
    bytes_eq option (codes "rec") || has_key (codes "set=") option || has_key (codes "clr=") option || has_key (codes "prop=") option

-- more than one option has the key
abbrev pub is_repeated : List (List ℕ) → List ℕ → Bool
is_repeated options key = nat_lt 1 (length (filter (has_key key) options))

-- each is one of the four, and none has its key twice
abbrev pub are_options : List (List ℕ) → Bool
are_options options = list_all is_option options && not (list_any (is_repeated options) option_keys)

-- a word is one of a list that is written with commas
abbrev pub lists : List ℕ → List ℕ → Bool
lists list word = list_any (λ w. bytes_eq w word) (pieces 44 list)

-- an attribute that can be set (mount_setattr(2), attr_set)
abbrev pub is_set_word : List ℕ → Bool
is_set_word w =
    bytes_eq w (codes "ro") || bytes_eq w (codes "nosuid") || bytes_eq w (codes "nodev") || bytes_eq w (codes "noexec") || bytes_eq w (codes "nosymfollow")
    || bytes_eq w (codes "nodiratime") || bytes_eq w (codes "relatime") || bytes_eq w (codes "noatime") || bytes_eq w (codes "strictatime")

-- an attribute that can be cleared (mount_setattr(2), attr_clr)
abbrev pub is_clr_word : List ℕ → Bool
is_clr_word w =
    bytes_eq w (codes "ro") || bytes_eq w (codes "nosuid") || bytes_eq w (codes "nodev") || bytes_eq w (codes "noexec") || bytes_eq w (codes "nosymfollow")
    || bytes_eq w (codes "nodiratime") || bytes_eq w (codes "atime")

-- nothing is cleared
abbrev pub nothing_cleared : ClrWords
nothing_cleared = record { ro = false; nosuid = false; nodev = false; noexec = false; nosymfollow = false; nodiratime = false; atime = false }

-- nothing is changed
abbrev pub no_change : Change
no_change = record { set = nothing_set; clr = nothing_cleared; prop = None; recursive = false }

-- the attributes that are set (mount_setattr(2), attr_set); none where another word is in the list
abbrev pub set_words : List ℕ → Option SetWords
set_words list =
    if list_all is_set_word (pieces 44 list)
    then Some (record {
      ro = lists list (codes "ro");
      nosuid = lists list (codes "nosuid");
      nodev = lists list (codes "nodev");
      noexec = lists list (codes "noexec");
      nosymfollow = lists list (codes "nosymfollow");
      nodiratime = lists list (codes "nodiratime");
      relatime = lists list (codes "relatime");
      noatime = lists list (codes "noatime");
      strictatime = lists list (codes "strictatime");
    })
    else None

-- the attributes of a new mount, as a word `set=W,..` says them (mount(2), mountflags); none where it is another word
abbrev pub attributes_of : List ℕ → Option SetWords
attributes_of word = if has_key (codes "set=") word then set_words (drop 4 word) else None

-- the attributes that are cleared (mount_setattr(2), attr_clr); none where another word is in the list
abbrev pub clr_words : List ℕ → Option ClrWords
clr_words list =
    if list_all is_clr_word (pieces 44 list)
    then Some (record {
      ro = lists list (codes "ro");
      nosuid = lists list (codes "nosuid");
      nodev = lists list (codes "nodev");
      noexec = lists list (codes "noexec");
      nosymfollow = lists list (codes "nosymfollow");
      nodiratime = lists list (codes "nodiratime");
      atime = lists list (codes "atime");
    })
    else None

-- what mounts are made (mount_setattr(2), propagation)
abbrev pub kind_of : List ℕ → Option Kind
kind_of word =
    if bytes_eq word (codes "shared") then Some Shared
    else (if bytes_eq word (codes "private") then Some Private
    else (if bytes_eq word (codes "slave") then Some Slave
    else (if bytes_eq word (codes "unbindable") then Some Unbindable else None)))

-- what is read behind the key of an option, or what stands where no option has the key
abbrev pub said : {A : Type 0} → List ℕ → A → (List ℕ → A) → List (List ℕ) → A
said key absent read options = option_map_or (λ option. read (drop (length key) option)) (find (has_key key) options) absent

-- `set=W,..` and `clr=W,..`; none where a word of the list is no word of its own
abbrev pub set_of : List (List ℕ) → Option SetWords
set_of options = said (codes "set=") (Some nothing_set) set_words options

abbrev pub clr_of : List (List ℕ) → Option ClrWords
clr_of options = said (codes "clr=") (Some nothing_cleared) clr_words options

-- `prop=K`; mounts keep their propagation where it is not there, and none where K is no such word
abbrev pub prop_of : List (List ℕ) → Option (Option Kind)
prop_of options = said (codes "prop=") (Some None) (λ word. option_map (λ kind. Some kind) (kind_of word)) options

-- `rec`: all mounts below change too
abbrev pub is_recursive : List (List ℕ) → Bool
is_recursive options = said (codes "rec") false (λ rest. true) options

-- a change of these parts, if each was said rightly
abbrev pub change_with : Option SetWords → Option ClrWords → Option (Option Kind) → Bool → Option Change
change_with (Some set) (Some clr) (Some prop) recursive = Some (record { set = set; clr = clr; prop = prop; recursive = recursive })
change_with set clr prop recursive = None

-- the change that the options of a line say
abbrev pub change_of : List (List ℕ) → Option Change
change_of options =
    if are_options options then change_with (set_of options) (clr_of options) (prop_of options) (is_recursive options) else None
