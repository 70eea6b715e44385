-- The four escapes of names in lines (proc_pid_mountinfo(5); that no other byte is escaped is this project's rule).
-- A word with no source is this project's rule.
use Rattle.std.specs.Prelude.{ℕ, Bool, ◌==◌, ◌&&◌, ◌||◌, if◌then◌else◌, List, [], ◌∷◌, Option, Some, None, codes}
use Rattle.std.specs.List.{flat_map}

-- a byte in a line: space, tab, newline and backslash are written as a backslash and three octal digits
abbrev pub escaped_byte : ℕ → List ℕ
escaped_byte b =
    if b == 32 then codes "\\040" else (if b == 9 then codes "\\011" else (if b == 10 then codes "\\012" else (if b == 92 then codes "\\134" else b ∷ [])))

-- whether a byte is written as an escape
abbrev pub has_escape : ℕ → Bool
has_escape b = b == 32 || b == 9 || b == 10 || b == 92

abbrev pub is_backslash : ℕ → Bool
is_backslash b = b == 92

-- bytes in a line
abbrev pub escaped : List ℕ → List ℕ
escaped bytes = flat_map escaped_byte bytes

-- the byte that three digits after a backslash stand for
abbrev pub byte_of_digits : ℕ → ℕ → ℕ → Option ℕ
byte_of_digits a b c =
    if a == 48 && b == 52 && c == 48 then Some 32
    else (if a == 48 && b == 49 && c == 49 then Some 9
    else (if a == 48 && b == 49 && c == 50 then Some 10
    else (if a == 49 && b == 51 && c == 52 then Some 92 else None)))

-- a byte before bytes that may be there
abbrev pub cons_to : Option ℕ → Option (List ℕ) → Option (List ℕ)
cons_to (Some b) (Some bytes) = Some (b ∷ bytes)
cons_to (Some b) None = None
cons_to None rest = None

-- the bytes that a text of a line stands for; none if a backslash begins no escape
unfoldable pub unescaped : List ℕ → Option (List ℕ)
unescaped [] = Some []
unescaped (x ∷ []) = if x == 92 then None else Some (x ∷ [])
unescaped (x ∷ a ∷ []) = if x == 92 then None else cons_to (Some x) (unescaped (a ∷ []))
unescaped (x ∷ a ∷ b ∷ []) = if x == 92 then None else cons_to (Some x) (unescaped (a ∷ b ∷ []))
unescaped (x ∷ a ∷ b ∷ c ∷ rest) =
    if x == 92 then cons_to (byte_of_digits a b c) (unescaped rest) else cons_to (Some x) (unescaped (a ∷ b ∷ c ∷ rest))
