-- The pieces of a line.
-- A word with no source is this project's rule.
use Rattle.std.specs.Prelude.{ℕ, ◌==◌, cond, List, [], ◌++◌, codes, decimal}
use Rattle.std.specs.List.{flat_map}
use Rattle.std.specs.Option.{option_map_or}
use Rattle.mt_skel.specs.Escapes.{escaped}
use Rattle.mt_info.specs.RowLine.{path_text}
use Rattle.mt_reach.specs.declared.row.SeenRow.{SeenRow}
use Rattle.mt_reach.specs.Rows.{seen_at, seen_group}
use Rattle.mt_refused.specs.declared.asked.Which.{Which}
use Rattle.mt_refused.specs.declared.part.Part.{Part}
use Rattle.mt_refused.specs.declared.part.Part.TheVariants as part
use Rattle.mt_refused.specs.Asked.{asked_path, path_name}
use Rattle.mt_refused.specs.Titles.{number_text}
use Rattle.mt_refused.specs.Pages.{PageView}

-- texts one behind the other
abbrev pub all_texts : List (List ℕ) → List ℕ
all_texts texts = flat_map (λ t. t) texts

-- how many there are, and of what
abbrev pub counted_text : ℕ → List ℕ → List ℕ → List ℕ
counted_text n one many = decimal n ++ cond (n == 1) one many

-- where a mount stands
abbrev pub point_text : PageView → ℕ → List ℕ
point_text v i = option_map_or (λ (r : SeenRow). path_text r.point) (seen_at v.rows i) []

-- a mount, by its number and its mount point
abbrev pub mount_told : PageView → ℕ → List ℕ
mount_told v i = codes "mount " ++ (number_text v.titles.last_mount i ++ (codes " at " ++ point_text v i))

-- the peer group of a mount
abbrev pub group_text : PageView → ℕ → List ℕ
group_text v i = option_map_or (number_text v.titles.last_group) (seen_group v.rows i) []

-- a path of the command, and with what it is called
abbrev pub asked_text : PageView → Which → List ℕ
asked_text v which = option_map_or path_text (asked_path v.command which) []

abbrev pub called_text : PageView → Which → List ℕ
called_text v which = path_name v.command which ++ asked_text v which

-- a piece of a line
abbrev pub piece_told : PageView → Part → List ℕ
piece_told v (part.Text bytes) = bytes.now
piece_told v (part.Number n) = decimal n
piece_told v (part.Count n one many) = counted_text n one.now many.now
piece_told v (part.Mount i) = mount_told v i
piece_told v (part.Point i) = point_text v i
piece_told v (part.GroupOf i) = group_text v i
piece_told v (part.Asked which) = called_text v which
piece_told v (part.Path which) = asked_text v which
piece_told v (part.Names path) = path_text path.now
piece_told v (part.Name name) = escaped name.now
