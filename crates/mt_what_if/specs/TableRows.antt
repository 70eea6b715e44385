-- Rows of tables, as their lines tell them (proc_pid_mountinfo(5)).
-- A word with no source is this project's rule.
use Rattle.std.specs.Prelude.{ℕ, ◌-◌, true, nat_eq, ◌==◌, if◌then◌else◌, List, [], ◌∷◌, ◌++◌, length, take, drop, fold, Option, Some, None, codes}
use Rattle.std.specs.List.{starts_with}
use Rattle.std.specs.Option.{option_and_then, option_map}
use Rattle.std.specs.Str.{bytes_eq}
use Rattle.mt_lines.specs.Words.{pieces}
use Rattle.mt_skel.specs.Names.{is_label, is_name}
use Rattle.mt_mounts.specs.declared.mount.Attrs.{Attrs}
use Rattle.mt_mounts.specs.declared.mount.Atime.TheVariants.{Relatime, Noatime, Strictatime}
use Rattle.mt_mounts.specs.Attrs.{new_attrs}
use Rattle.mt_import.specs.Reading.{ToldMount}
use Rattle.mt_questions.specs.Seeing.{text_in}
use Rattle.mt_world.specs.declared.row.TableRow.{TableRow}

-- attributes (field 6): where nothing is told, times of access are always updated
abbrev pub strict_attrs : Attrs
strict_attrs = record new_attrs { atime = Strictatime }

abbrev pub with_mount_option : Attrs → List ℕ → Attrs
with_mount_option a option =
    if bytes_eq option (codes "ro") then record a { ro = true }
    else (if bytes_eq option (codes "nosuid") then record a { nosuid = true }
    else (if bytes_eq option (codes "nodev") then record a { nodev = true }
    else (if bytes_eq option (codes "noexec") then record a { noexec = true }
    else (if bytes_eq option (codes "nosymfollow") then record a { nosymfollow = true }
    else (if bytes_eq option (codes "nodiratime") then record a { nodiratime = true }
    else (if bytes_eq option (codes "relatime") then record a { atime = Relatime }
    else (if bytes_eq option (codes "noatime") then record a { atime = Noatime } else a)))))))

abbrev pub attrs_told : List ℕ → Attrs
attrs_told options = fold with_mount_option strict_attrs (pieces 44 options)

-- the name that a piece of a path says, and the names of several
abbrev pub name_or_none : List ℕ → Option (List ℕ)
name_or_none bytes = if is_name bytes then Some bytes else None

abbrev pub name_said : List ℕ → Option (List ℕ)
name_said piece = name_or_none (text_in piece)

abbrev pub names_said_from : List (List ℕ) → List (List ℕ) → Option (List (List ℕ))
names_said_from done [] = Some done
names_said_from done (piece ∷ later) = option_and_then (λ name. names_said_from (done ++ name ∷ []) later) (name_said piece)

-- the names of a path from the root down (field 5); the root alone has none
abbrev pub names_after_slash : List ℕ → Option (List (List ℕ))
names_after_slash [] = Some []
names_after_slash (b ∷ text) = names_said_from [] (pieces 47 (b ∷ text))

abbrev pub path_told : List ℕ → Option (List (List ℕ))
path_told [] = None
path_told (b ∷ text) = if b == 47 then names_after_slash text else None

-- the directory that is shown at the root (field 4): one that was deleted is none that is there, and what is no path, as a namespace, is a name of its own
abbrev pub undeleted : List ℕ → List ℕ
undeleted word =
    if bytes_eq (drop (length word - 9) word) (codes "//deleted") then take (length word - 9) word ++ codes "\\040(deleted)" else word

abbrev pub rooted : List ℕ → List ℕ
rooted word = if starts_with nat_eq word (codes "/") then word else 47 ∷ word

abbrev pub root_in : List ℕ → Option (List (List ℕ))
root_in word = path_told (rooted (undeleted word))

-- a type or a source (fields 9 and 10): as many bytes as a label may have, and `none` where they are no label
abbrev pub label_or_none : List ℕ → List ℕ
label_or_none bytes = if is_label bytes then bytes else codes "none"

abbrev pub label_told : List ℕ → List ℕ
label_told word = label_or_none (take 255 (text_in word))

-- a device (field 3)
abbrev pub device_label : List ℕ → Option (List ℕ)
device_label word = if is_label word then Some word else None

-- what a line tells, as a row of the table of a number
abbrev pub row_said : ℕ → ToldMount → List (List ℕ) → List (List ℕ) → List ℕ → TableRow
row_said n m root point device = record {
  space = n;
  id = m.id;
  parent = m.parent;
  device = device;
  root = root;
  point = point;
  attrs = attrs_told m.options;
  state = record { group = m.shared; master = m.master; unbindable = m.unbindable };
  kind = label_told m.kind;
  source = label_told m.source;
}

unfoldable pub row_of_line : ℕ → ToldMount → Option TableRow
row_of_line n m =
    option_and_then (λ root. option_and_then (λ point. option_map (row_said n m root point) (device_label m.device)) (path_told m.point)) (root_in m.root)
