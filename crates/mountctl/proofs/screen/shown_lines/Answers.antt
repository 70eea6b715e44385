use Rattle.std.proofs.Common.{ℕ, List, ◌∷◌, ◌++◌, map, sym, ap, ◌∙◌}
use Rattle.std.specs.List.{flat_map, join_with_byte}
use Rattle.mt_terminal.specs.Terminal.{terminal_text}
use Rattle.mountctl.proofs.ScreenLaws.{joined}
use Rattle.mountctl.proofs.screen.shown_lines.Goals as goal

pub lines-init : goal.lines-init
lines-init c =
    ap (λ (t : List ℕ). t ++ flat_map (λ p. 10 ∷ terminal_text p) c.next.new.self) c.in_ok-text.ensures ∙ sym (joined 10 terminal_text c.in-Some.first.now c.next.new.self)
    ∙ ap (λ (ps : List (List ℕ)). join_with_byte 10 (map terminal_text ps)) (sym c.in-Some.ensures.steps ∙ c.new-pieces.ensures)
