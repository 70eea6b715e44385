-- Posts as JSON: an object a line for each mount (RFC 8259; the keys of a mount and the words mount, umount, move and remount: findmnt(8)).
-- A word with no source is this project's rule.
use Rattle.std.specs.Prelude.{ℕ, Bool, ◌&&◌, ◌==◌, cond, List, [], ◌∷◌, ◌++◌, codes}
use Rattle.std.specs.List.{flat_map}
use Rattle.std.specs.Option.{option_map_or}
use Rattle.serde_json.specs.Data.{object, Members, no_members, put}
use Rattle.mt_skel.specs.Keyed.{row_at}
use Rattle.mt_skel.specs.Skeleton.{path_eq}
use Rattle.mt_info.specs.declared.row.Row.{Row}
use Rattle.mt_info.specs.SameRow.{attrs_eq}
use Rattle.mt_info.specs.Table.{row_id}
use Rattle.mt_events.specs.Mirrors.{MirrorView}
use Rattle.mt_events.specs.Posts.{PostView}
use Rattle.mt_render.specs.Members.{text_data, number_data, with_name, with_mount}
use Rattle.mt_render.specs.Objects.{value_line, flat_node}
use Rattle.mt_render.specs.Wording.{named_text}
use Rattle.mt_render.specs.declared.telling.Telling.{Telling}
use Rattle.mt_render.specs.declared.telling.Telling.TheVariants.{Words, Json}

-- what happened to a mount, and in which namespace
abbrev pub event_line : List ℕ → List ℕ → ℕ → Members → List ℕ
event_line event name n ms = value_line (object (with_name name (put (codes "namespace") (number_data n) (put (codes "event") (text_data event) ms))))

-- a mount that left, as it was, if the table before has its row
abbrev pub left_members : List Row → ℕ → Members
left_members rows i = option_map_or (λ r. with_mount r no_members) (row_at row_id i rows) (put (codes "id") (number_data i) no_members)

unfoldable pub left_event : List Row → List ℕ → ℕ → ℕ → List ℕ
left_event rows name n i = event_line (codes "umount") name n (left_members rows i)

-- a mount that is new
unfoldable pub new_event : List ℕ → ℕ → Row → List ℕ
new_event name n r = event_line (codes "mount") name n (with_mount r no_members)

-- a mount stands where it stood: at the same path, and on the same mount
abbrev pub stands_as_before : Row → Row → Bool
stands_as_before r s = path_eq r.point s.point && (r.parent == s.parent)

-- what happened to a mount that was there before: it stands elsewhere, or else has other attributes, or else is not as it was
abbrev pub change_event : Row → Row → List ℕ
change_event r s = cond (stands_as_before r s) (cond (attrs_eq r.attrs s.attrs) (codes "change") (codes "remount")) (codes "move")

-- a mount that was there before, as it is, and as it was
abbrev pub changed_members : Row → Row → Members
changed_members r s = put (codes "old") (flat_node r) (with_mount s no_members)

unfoldable pub changed_event : List ℕ → ℕ → Row → Row → List ℕ
changed_event name n r s = event_line (change_event r s) name n (changed_members r s)

-- a row, beside that of its mount in the table before, if there is one
abbrev pub row_event : List Row → List ℕ → ℕ → Row → List ℕ
row_event rows name n s = option_map_or (λ r. changed_event name n r s) (row_at row_id s.id rows) (new_event name n s)

-- a post as JSON, given the table before it: the mounts that left, and then the rows
unfoldable pub post_events : List ℕ → MirrorView → PostView → List ℕ
post_events name m p = flat_map (left_event m.rows name p.space) p.gone ++ flat_map (row_event m.rows name p.space) p.rows

-- a post as it is told
unfoldable pub told_as : Telling → List ℕ → MirrorView → PostView → List ℕ
told_as Words name m p = named_text name m p
told_as Json name m p = post_events name m p
