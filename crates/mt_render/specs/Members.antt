-- A mount as members of a JSON object (RFC 8259; the keys and what they hold: findmnt(8), but for those of the groups, which are the
-- optional fields of proc_pid_mountinfo(5)).
-- A word with no source is this project's rule.
use Rattle.std.specs.Prelude.{ℕ, cond, List, [], ◌∷◌, ◌++◌, Option, Some, None, is_some, codes, decimal}
use Rattle.std.specs.Str.Lossy.{utf8_lossy}
use Rattle.std.specs.List.{join_with_byte}
use Rattle.serde_json.specs.Data.{Data, number, string, Members, unsigned, put}
use Rattle.mt_skel.specs.Names.{names_text}
use Rattle.mt_info.specs.declared.row.Row.{Row}
use Rattle.mt_info.specs.RowLine.{option_words}

-- bytes as a string: each sequence that is no UTF-8 is U+FFFD
abbrev pub text_data : List ℕ → Data
text_data bytes = string (utf8_lossy bytes)

abbrev pub number_data : ℕ → Data
number_data n = number (unsigned n)

-- the bytes of a path
abbrev pub path_bytes : List (List ℕ) → List ℕ
path_bytes [] = codes "/"
path_bytes (n ∷ ns) = names_text (n ∷ ns)

-- the bytes of a source, and the directory that is shown where that is not the root of the filesystem
abbrev pub source_bytes : List ℕ → List (List ℕ) → List ℕ
source_bytes source [] = source
source_bytes source (n ∷ ns) = source ++ (codes "[" ++ (names_text (n ∷ ns) ++ codes "]"))

-- how a mount propagates, in words that say nothing of its groups
abbrev pub kinds_text : Row → List ℕ
kinds_text r = cond (is_some r.shared) (codes "shared") (codes "private") ++ (cond (is_some r.master) (codes ",slave") [] ++ cond r.unbindable (codes ",unbindable") [])

-- the name of a namespace, if it has one
abbrev pub with_name : List ℕ → Members → Members
with_name [] ms = ms
with_name (b ∷ bs) ms = put (codes "name") (text_data (b ∷ bs)) ms

-- where a mount is
abbrev pub with_standing : Row → Members → Members
with_standing r ms = put (codes "target") (text_data (path_bytes r.point)) (put (codes "parent") (number_data r.parent) (put (codes "id") (number_data r.id) ms))

-- what it shows
abbrev pub with_shown : Row → Members → Members
with_shown r ms =
    put (codes "fsroot") (text_data (path_bytes r.root)) (put (codes "maj:min") (text_data (codes "0:" ++ decimal r.minor)) (put (codes "fstype") (text_data r.kind) (put (codes "source") (text_data (source_bytes r.source r.root)) ms)))

-- its attributes, and how it propagates
abbrev pub with_kinds : Row → Members → Members
with_kinds r ms = put (codes "propagation") (text_data (kinds_text r)) (put (codes "options") (text_data (join_with_byte 44 (option_words r.attrs))) ms)

-- a group, if there is one
abbrev pub with_group : List ℕ → Option ℕ → Members → Members
with_group key None ms = ms
with_group key (Some g) ms = put key (number_data g) ms

abbrev pub with_groups : Row → Members → Members
with_groups r ms = with_group (codes "propagate_from") r.via (with_group (codes "master") r.master (with_group (codes "shared") r.shared ms))

-- a mount
unfoldable pub with_mount : Row → Members → Members
with_mount r ms = with_groups r (with_kinds r (with_shown r (with_standing r ms)))
