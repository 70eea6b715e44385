-- The row that a line of a mountinfo tells (proc_pid_mountinfo(5)).
-- A word with no source is this project's rule.
use Rattle.std.specs.Prelude.{ℕ, Bool, true, false, ◌&&◌, nat_eq, if◌then◌else◌, List, [], ◌∷◌, drop, Option, Some, None, is_some, codes}
use Rattle.std.specs.List.{starts_with}
use Rattle.std.specs.Option.{option_and_then, option_map}
use Rattle.std.specs.Str.{bytes_eq}
use Rattle.mt_lines.specs.Words.{pieces, words, number_in_text}
use Rattle.mt_import.specs.declared.read.Fields.{Fields}

-- what a line tells of a mount: the line itself, words as they are there, and numbers
pub record ToldMount : Type 0 where
  pub line : List ℕ
  pub id : ℕ
  pub parent : ℕ
  pub device : List ℕ
  pub root : List ℕ
  pub point : List ℕ
  pub options : List ℕ
  pub shared : Option ℕ
  pub master : Option ℕ
  pub via : Option ℕ
  pub unbindable : Bool
  pub kind : List ℕ
  pub source : List ℕ

-- what the lines of a namespace tell, and whether its user namespace is another one than that of the first namespace
-- (user_namespaces(7))
pub record ToldSpace : Type 0 where
  pub rows : List ToldMount
  pub is_foreign : Bool

-- no optional field
abbrev pub no_fields : Fields
no_fields = record { shared = None; master = None; via = None; unbindable = false }

-- with one more optional field; none if no number comes after a name that has one; other names do not matter
-- (proc_pid_mountinfo(5), field 7)
abbrev pub with_field : Fields → List ℕ → Option Fields
with_field fields field =
    if bytes_eq field (codes "unbindable") then Some (record fields { unbindable = true })
    else (if starts_with nat_eq field (codes "shared:") then option_map (λ n. record fields { shared = Some n }) (number_in_text (drop 7 field))
    else (if starts_with nat_eq field (codes "master:") then option_map (λ n. record fields { master = Some n }) (number_in_text (drop 7 field))
    else (if starts_with nat_eq field (codes "propagate_from:") then option_map (λ n. record fields { via = Some n }) (number_in_text (drop 15 field))
    else Some fields)))

-- the optional fields up to a dash, and the words after it (proc_pid_mountinfo(5), fields 7 and 8)
abbrev pub fields_in : Fields → List (List ℕ) → Option (Fields × List (List ℕ))
fields_in fields [] = None
fields_in fields (word ∷ words) =
    if bytes_eq word (codes "-") then Some (fields, words) else option_and_then (λ more. fields_in more words) (with_field fields word)

-- a device is two numbers with a colon between them (proc_pid_mountinfo(5), field 3)
abbrev pub are_numbers : List (List ℕ) → Bool
are_numbers (major ∷ minor ∷ []) = is_some (number_in_text major) && is_some (number_in_text minor)
are_numbers pieces = false

abbrev pub is_device : List ℕ → Bool
is_device word = are_numbers (pieces 58 word)

-- the type and the source come after the dash, and one word of super options after them, whatever it is
-- (proc_pid_mountinfo(5), fields 9 to 11)
abbrev pub end_in : List (List ℕ) → Option (List ℕ × List ℕ)
end_in (kind ∷ source ∷ super ∷ []) = Some (kind, source)
end_in words = None

-- the row of a line and its words
abbrev pub mount_with : List ℕ → ℕ → ℕ → List ℕ → List ℕ → List ℕ → List ℕ → Fields × List (List ℕ) → Option ToldMount
mount_with line id parent device root point options (fields, behind) = option_map (λ (kind, source). record {
  line = line;
  id = id;
  parent = parent;
  device = device;
  root = root;
  point = point;
  options = options;
  shared = fields.shared;
  master = fields.master;
  via = fields.via;
  unbindable = fields.unbindable;
  kind = kind;
  source = source;
}) (end_in behind)

abbrev pub mount_of_words : List ℕ → List (List ℕ) → Option ToldMount
mount_of_words line (id ∷ parent ∷ device ∷ root ∷ point ∷ options ∷ rest) =
    option_and_then (λ i. option_and_then (λ p. option_and_then (λ found.
    if is_device device then mount_with line i p device root point options found else None)
    (fields_in no_fields rest)) (number_in_text parent)) (number_in_text id)
mount_of_words line words = None

-- the row that a line without its line end tells, if it is a line of a mountinfo
unfoldable pub mount_in : List ℕ → Option ToldMount
mount_in line = mount_of_words line (words line)
