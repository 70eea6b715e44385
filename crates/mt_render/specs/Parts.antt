-- The part of a table that a path leads to.
-- A word with no source is this project's rule.
use Rattle.std.specs.Prelude.{ℕ, Bool, ◌&&◌, ◌||◌, ◌==◌, List, length}
use Rattle.std.specs.List.{filter, starts_with}
use Rattle.std.specs.Str.{bytes_eq}
use Rattle.mt_info.specs.declared.row.Row.{Row}
use Rattle.mt_render.specs.Forest.{without_lines, drawn_from, is_drawn}

-- a mount is that of a row of a table, or stands below it, at whatever height
abbrev pub is_at_or_below : List Row → Row → ℕ → Bool
is_at_or_below rows top i = is_drawn (drawn_from rows (length rows) (without_lines top)) i

-- a row is that of the mount on which a path ends, or one of those below that with the path in front of its mount point
abbrev pub is_in_part : (ℕ → Bool) → Row → List (List ℕ) → Row → Bool
is_in_part below top path r = below r.id && ((r.id == top.id) || starts_with bytes_eq r.point path)

-- the part of a table to which a path leads that ends on the mount of a row
abbrev pub part_below : List Row → Row → List (List ℕ) → List Row
part_below rows top path = filter (is_in_part (is_at_or_below rows top) top path) rows
