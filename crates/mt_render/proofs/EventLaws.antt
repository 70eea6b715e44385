-- No object of an event has a float, so that each has one text.
use Rattle.std.proofs.Common.{◌≡◌, ℕ, List, codes, false, Option, Some, None, refl}
use Rattle.std.specs.Option.{option_map_or}
use Rattle.serde_json.specs.Data.{object, Members, no_members, put}
use Rattle.serde_json.specs.Written.{has_float, members_have_float}
use Rattle.mt_skel.specs.Keyed.{row_at}
use Rattle.mt_info.specs.declared.row.Row.{Row}
use Rattle.mt_info.specs.Table.{row_id}
use Rattle.mt_render.specs.Members.{text_data, number_data, with_name, with_mount}
use Rattle.mt_render.specs.Objects.{flat_node}
use Rattle.mt_render.proofs.FloatLaws.{put_free, name_free, mount_free, flat_free}
use Rattle.mt_render.specs.Events.{left_members, changed_members}

-- the object of an event has none where what it tells of a mount has none
pub event_free : (event name : List ℕ) (n : ℕ) (ms : Members) → members_have_float ms ≡ false → has_float (object (with_name name (put (codes "namespace") (number_data n) (put (codes "event") (text_data event) ms)))) ≡ false
event_free event name n ms fms =
    let told = put (codes "event") (text_data event) ms in
    name_free name (put (codes "namespace") (number_data n) told) (put_free (codes "namespace") (number_data n) told refl (put_free (codes "event") (text_data event) ms refl fms))

-- what is told of a mount that is new, that left, or that changed has none
pub new_free : (r : Row) → members_have_float (with_mount r no_members) ≡ false
new_free r = mount_free r no_members refl

found_free : (o : Option Row) (i : ℕ) → members_have_float (option_map_or (λ r. with_mount r no_members) o (put (codes "id") (number_data i) no_members)) ≡ false
found_free (Some r) i = new_free r
found_free None i = refl

pub left_free : (rows : List Row) (i : ℕ) → members_have_float (left_members rows i) ≡ false
left_free rows i = found_free (row_at row_id i rows) i

pub changed_free : (r s : Row) → members_have_float (changed_members r s) ≡ false
changed_free r s = put_free (codes "old") (flat_node r) (with_mount s no_members) (flat_free r) (new_free s)
