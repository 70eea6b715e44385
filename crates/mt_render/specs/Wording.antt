-- Posts in words: a line for each mount.
-- A word with no source is this project's rule.
use Rattle.std.specs.Prelude.{ℕ, Bool, ◌==◌, not, ◌||◌, cond, List, [], ◌∷◌, ◌++◌, codes, decimal}
use Rattle.std.specs.List.{filter, flat_map, join_with_byte}
use Rattle.std.specs.Option.{option_map_or}
use Rattle.mt_skel.specs.Escapes.{escaped}
use Rattle.mt_skel.specs.Keyed.{row_at}
use Rattle.mt_skel.specs.Skeleton.{path_eq}
use Rattle.mt_mounts.specs.declared.mount.Atime.{Atime}
use Rattle.mt_mounts.specs.declared.mount.Atime.TheVariants.{Relatime, Noatime, Strictatime}
use Rattle.mt_info.specs.declared.row.Row.{Row}
use Rattle.mt_info.specs.RowLine.{path_text, option_words}
use Rattle.mt_info.specs.SameRow.{atime_eq, bool_eq, number_eq}
use Rattle.mt_info.specs.Table.{row_id}
use Rattle.mt_events.specs.Mirrors.{MirrorView}
use Rattle.mt_events.specs.Posts.{PostView, ended}
use Rattle.mt_terminal.specs.Terminal.{terminal_text}
use Rattle.mt_render.specs.Propagation.{propagation}
use Rattle.mt_render.specs.Named.{name_words}
use Rattle.mt_render.specs.declared.field.Field.{Field}
use Rattle.mt_render.specs.declared.field.Field.TheVariants.{Point, Parent, Root, ReadOnly, Nosuid, Nodev, Noexec, Nosymfollow, Nodiratime, AccessTimes, Propagation}

-- the fields of a row that are told, in this order
abbrev pub fields : List Field
fields = Point ∷ Parent ∷ Root ∷ ReadOnly ∷ Nosuid ∷ Nodev ∷ Noexec ∷ Nosymfollow ∷ Nodiratime ∷ AccessTimes ∷ Propagation ∷ []

-- whether two rows differ in one of the optional fields, which say how a mount propagates
abbrev pub propagation_differs : Row → Row → Bool
propagation_differs r s = not (number_eq r.shared s.shared) || not (number_eq r.master s.master) || not (number_eq r.via s.via) || not (bool_eq r.unbindable s.unbindable)

-- whether two rows differ in a field
abbrev pub field_differs : Row → Row → Field → Bool
field_differs r s Point = not (path_eq r.point s.point)
field_differs r s Parent = not (r.parent == s.parent)
field_differs r s Root = not (path_eq r.root s.root)
field_differs r s ReadOnly = not (bool_eq r.attrs.ro s.attrs.ro)
field_differs r s Nosuid = not (bool_eq r.attrs.nosuid s.attrs.nosuid)
field_differs r s Nodev = not (bool_eq r.attrs.nodev s.attrs.nodev)
field_differs r s Noexec = not (bool_eq r.attrs.noexec s.attrs.noexec)
field_differs r s Nosymfollow = not (bool_eq r.attrs.nosymfollow s.attrs.nosymfollow)
field_differs r s Nodiratime = not (bool_eq r.attrs.nodiratime s.attrs.nodiratime)
field_differs r s AccessTimes = not (atime_eq r.attrs.atime s.attrs.atime)
field_differs r s Propagation = propagation_differs r s

abbrev pub atime_word : Atime → List ℕ
atime_word Relatime = codes "relatime"
atime_word Noatime = codes "noatime"
atime_word Strictatime = codes "strictatime"

-- what stands in front of what a field says, where that does not tell which field it is
abbrev pub field_name : Field → List ℕ
field_name Parent = codes "parent "
field_name Root = codes "root "
field_name f = []

-- what a field of a row says (the options of a mount and their opposites: mount(8))
abbrev pub field_words : Row → Field → List ℕ
field_words r Point = path_text r.point
field_words r Parent = decimal r.parent
field_words r Root = path_text r.root
field_words r ReadOnly = cond r.attrs.ro (codes "ro") (codes "rw")
field_words r Nosuid = cond r.attrs.nosuid (codes "nosuid") (codes "suid")
field_words r Nodev = cond r.attrs.nodev (codes "nodev") (codes "dev")
field_words r Noexec = cond r.attrs.noexec (codes "noexec") (codes "exec")
field_words r Nosymfollow = cond r.attrs.nosymfollow (codes "nosymfollow") (codes "symfollow")
field_words r Nodiratime = cond r.attrs.nodiratime (codes "nodiratime") (codes "diratime")
field_words r AccessTimes = atime_word r.attrs.atime
field_words r Propagation = propagation r

-- what a field was, and what it is
abbrev pub change_words : Row → Row → Field → List ℕ
change_words r s f = field_name f ++ field_words r f ++ codes " -> " ++ field_words s f

-- each of these fields behind a comma
abbrev pub further_words : Row → Row → List Field → List ℕ
further_words r s fs = flat_map (λ f. codes ", " ++ change_words r s f) fs

-- what these fields were and are; where there are none, the mount is as before
abbrev pub listed : Row → Row → List Field → List ℕ
listed r s [] = codes "as before"
listed r s (f ∷ fs) = change_words r s f ++ further_words r s fs

-- the fields in which two rows differ
unfoldable pub fields_changed : Row → Row → List Field
fields_changed r s = filter (field_differs r s) fields

-- what of the second row is not as in the first
unfoldable pub changes_text : Row → Row → List ℕ
changes_text r s = listed r s (fields_changed r s)

-- a mount and its mount point
abbrev pub mount_words : Row → List ℕ
mount_words r = decimal r.id ++ codes " " ++ path_text r.point

abbrev pub space_words : List ℕ → ℕ → List ℕ
space_words name n = codes " in namespace " ++ decimal n ++ name_words name

-- a line as a terminal is given it
abbrev pub shown_line : List ℕ → List ℕ
shown_line line = ended (terminal_text line)

-- a mount that left: the table before has its mount point, if it has its row
abbrev pub left_words : List Row → ℕ → List ℕ
left_words rows i = option_map_or mount_words (row_at row_id i rows) (decimal i)

unfoldable pub left_text : List Row → List ℕ → ℕ → ℕ → List ℕ
left_text rows name n i = shown_line (codes "- " ++ left_words rows i ++ space_words name n)

-- what a new mount is: its type, its options, and how it propagates
abbrev pub kind_words : Row → List ℕ
kind_words r = codes " " ++ escaped r.kind ++ codes " " ++ join_with_byte 44 (option_words r.attrs) ++ codes " " ++ propagation r

-- a mount that is new
unfoldable pub new_text : List ℕ → ℕ → Row → List ℕ
new_text name n r = shown_line (codes "+ " ++ mount_words r ++ kind_words r ++ space_words name n)

-- the mount point of a mount that stands where it stood; where it does not, what changed begins with both places
abbrev pub standing : Row → Row → List ℕ
standing r s = cond (path_eq r.point s.point) (path_text s.point ++ codes " ") []

-- a mount that was there before
unfoldable pub changed_text : List ℕ → ℕ → Row → Row → List ℕ
changed_text name n r s = shown_line (codes "~ " ++ decimal s.id ++ codes " " ++ standing r s ++ changes_text r s ++ space_words name n)

-- a row, beside that of its mount in the table before, if there is one
abbrev pub row_text : List Row → List ℕ → ℕ → Row → List ℕ
row_text rows name n s = option_map_or (λ r. changed_text name n r s) (row_at row_id s.id rows) (new_text name n s)

-- a post in words, given the table before it: the mounts that left, and then the rows
unfoldable pub named_text : List ℕ → MirrorView → PostView → List ℕ
named_text name m p = flat_map (left_text m.rows name p.space) p.gone ++ flat_map (row_text m.rows name p.space) p.rows
