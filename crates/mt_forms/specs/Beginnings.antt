-- The first words of lines.
-- A word with no source is this project's rule.
use Rattle.std.specs.Prelude.{ℕ, List, [], ◌∷◌, Option, codes}
use Rattle.std.specs.Str.{bytes_eq}
use Rattle.mt_forms.specs.Lookup.{looked_up}
use Rattle.mt_forms.specs.declared.command.Tool.TheVariants as tool
use Rattle.mt_forms.specs.declared.command.Beginning.{Beginning}
use Rattle.mt_forms.specs.declared.command.Beginning.TheVariants.{Runs, Mkdir, Line, NoChange}

-- each first word, and what a line with it is
abbrev pub beginnings : List (List ℕ × Beginning)
beginnings =
    (codes "mount", Runs tool.Mount) ∷ (codes "umount", Runs tool.Umount) ∷ (codes "unshare", Runs tool.Unshare)
    ∷ (codes "nsenter", Runs tool.Nsenter) ∷ (codes "pivot_root", Runs tool.PivotRoot) ∷ (codes "mkdir", Mkdir)
    ∷ (codes "mkfs", Line) ∷ (codes "newns", Line) ∷ (codes "copyns", Line) ∷ (codes "dropns", Line) ∷ (codes "bind", Line) ∷ (codes "rbind", Line)
    ∷ (codes "move", Line) ∷ (codes "pivot", Line) ∷ (codes "detach", Line) ∷ (codes "setattr", Line)
    ∷ (codes "opentree", Line) ∷ (codes "newtree", Line) ∷ (codes "movetree", Line)
    ∷ (codes "show", NoChange) ∷ (codes "find", NoChange) ∷ (codes "watch", NoChange) ∷ (codes "take", NoChange) ∷ (codes "follow", NoChange)
    ∷ (codes "close", NoChange) ∷ (codes "quit", NoChange) ∷ (codes "stop", NoChange) ∷ []

-- what a line with a first word is
unfoldable pub beginning_of : List ℕ → Option Beginning
beginning_of word = looked_up (λ row. bytes_eq row.0 word) (λ row. row.1) beginnings
