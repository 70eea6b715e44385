use Rattle.std.proofs.Common.{◌≡◌, ◌∷◌, ◌++◌, length}
use Rattle.std.specs.List.{flat_map}
use Rattle.mt_terminal.specs.Terminal.{terminal_text}
use Rattle.mountctl.specs.Screens.{shown_lines}
use Rattle.mountctl.proofs.screen.shown_lines.Given as goal

-- what is shown, and what is to come
abbrev pub invariant-lines : goal.invariant-lines
invariant-lines l = l.text.items ++ flat_map (λ p. 10 ∷ terminal_text p) l.pieces ≡ shown_lines l.lines

abbrev pub decreases-lines : goal.decreases-lines
decreases-lines l = length l.pieces
