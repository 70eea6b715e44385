-- What standard output is given.
-- A word with no source is this project's rule.
use Rattle.std.specs.Prelude.{◌≡◌, ℕ, Bool, cond, List, map, take, length, Option, Result, MatchResult}
use Rattle.std.specs.List.{join_with_byte}
use Rattle.std.specs.Io.KnownBytes.{Appends}
use Rattle.mt_lines.specs.Words.{pieces}
use Rattle.mt_lines.specs.declared.stream.StreamFault.{StreamFault}
use Rattle.mt_terminal.specs.Terminal.{terminal_text}

-- lines as a terminal is given them: each as terminal text, between the line ends that stood between them
abbrev pub shown_lines : List ℕ → List ℕ
shown_lines bytes = join_with_byte 10 (map terminal_text (pieces 10 bytes))

-- bytes as they go out: to a terminal as such lines, and else as they are
abbrev pub shown : Bool → List ℕ → List ℕ
shown is_terminal bytes = cond is_terminal (shown_lines bytes) bytes

-- an output grew by as many bytes as a write says that it took, as they go out, and where it failed by a front of what it was to be given
abbrev pub HasShown : Bool → Option (List ℕ) → Option (List ℕ) → Result ℕ StreamFault → List ℕ → Type 0
HasShown is_terminal old new result bytes =
    MatchResult result (λ n. Appends old new (shown is_terminal (take n bytes))) (λ fault. (n : ℕ) × Appends old new (take n (shown is_terminal bytes)))
