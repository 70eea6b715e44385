use Rattle.std.proofs.Common.{◌≡◌, []}
use Rattle.mountctl.proofs.play.play_lines.Given as goal

-- nothing is due on the floor
abbrev pub invariant-lines : goal.invariant-lines
invariant-lines g l = l.floor.due ≡ []
