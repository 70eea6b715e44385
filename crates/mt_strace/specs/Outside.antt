-- What stands in the text of a call outside of strings, paths of descriptors, comments and brackets (strace(1)).
-- A word with no source is this project's rule.
use Rattle.std.specs.Prelude.{ℕ, nat_lt, ◌+◌, ◌-◌, Bool, true, false, ◌==◌, ◌&&◌, ◌||◌, if◌then◌else◌, List, [], ◌∷◌, length, drop, Option, None, Some, slice_index_or}
use Rattle.std.specs.List.{onto_first}
use Rattle.mt_strace.specs.declared.scan.Scan.{Scan}
use Rattle.mt_strace.specs.declared.scan.Within.{Within}
use Rattle.mt_strace.specs.declared.scan.Within.TheVariants as within

-- nothing stands before a text
abbrev pub scan_start : Scan
scan_start = record { within = within.Brackets; depth = 0 }

-- `(`, `[` and `{` open brackets, and `)`, `]` and `}` close them
abbrev pub is_opening : ℕ → Bool
is_opening b = b == 40 || b == 91 || b == 123

abbrev pub is_closing : ℕ → Bool
is_closing b = b == 41 || b == 93 || b == 125

-- what a byte says of the next one where it stands in nothing but brackets: a quote (34) begins a string, `<` (60) the path
-- of a descriptor, and a slash (47) perhaps a comment
abbrev pub after_bare : ℕ → ℕ → Scan
after_bare depth b =
    if b == 34 then record { within = within.String; depth = depth }
    else (if b == 60 then record { within = within.Path; depth = depth }
    else (if b == 47 then record { within = within.Slash; depth = depth }
    else (if is_opening b then record { within = within.Brackets; depth = depth + 1 }
    else (if is_closing b then record { within = within.Brackets; depth = depth - 1 }
    else record { within = within.Brackets; depth = depth }))))

-- in what the next byte stands: a string ends at the next quote that has no backslash (92) in front, a path at `>` (62), and
-- a comment at an asterisk (42) with a slash behind it
abbrev pub after_comment : ℕ → Within
after_comment b = if b == 42 then within.Asterisk else within.Comment

abbrev pub after_asterisk : ℕ → Within
after_asterisk b = if b == 47 then within.Brackets else after_comment b

abbrev pub after_string : ℕ → Within
after_string b = if b == 34 then within.Brackets else (if b == 92 then within.Backslash else within.String)

abbrev pub after_path : ℕ → Within
after_path b = if b == 62 then within.Brackets else within.Path

abbrev pub after_in : Within → ℕ → ℕ → Scan
after_in within.Brackets depth b = after_bare depth b
after_in within.Slash depth b = if b == 42 then record { within = within.Comment; depth = depth } else after_bare depth b
after_in within.Comment depth b = record { within = after_comment b; depth = depth }
after_in within.Asterisk depth b = record { within = after_asterisk b; depth = depth }
after_in within.String depth b = record { within = after_string b; depth = depth }
after_in within.Backslash depth b = record { within = within.String; depth = depth }
after_in within.Path depth b = record { within = after_path b; depth = depth }

abbrev pub scan_after : Scan → ℕ → Scan
scan_after s b = after_in s.within s.depth b

-- the next byte stands in nothing at all
abbrev pub is_loose : Within → Bool
is_loose within.Brackets = true
is_loose within.Slash = true
is_loose within.Comment = false
is_loose within.Asterisk = false
is_loose within.String = false
is_loose within.Backslash = false
is_loose within.Path = false

abbrev pub is_outside : Scan → Bool
is_outside s = is_loose s.within && s.depth == 0

-- the pieces of a text between those of a byte that stand outside
abbrev pub pieces_from : ℕ → Scan → List ℕ → List (List ℕ)
pieces_from c s [] = [] ∷ []
pieces_from c s (b ∷ text) =
    if b == c && is_outside s then [] ∷ pieces_from c scan_start text else onto_first b (pieces_from c (scan_after s b) text)

abbrev pub pieces_outside : ℕ → List ℕ → List (List ℕ)
pieces_outside c text = pieces_from c scan_start text

-- a text cut at the first of a byte that stands outside
abbrev pub until_outside : ℕ → List ℕ → List ℕ
until_outside c text = slice_index_or (pieces_outside c text) 0 []

abbrev pub cut_outside : ℕ → List ℕ → Option (List ℕ × List ℕ)
cut_outside c text =
    if nat_lt (length (until_outside c text)) (length text) then Some (until_outside c text, drop (length (until_outside c text) + 1) text) else None
