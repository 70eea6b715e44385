use Rattle.std.proofs.Common.{[]}
use Rattle.mt_desk.proofs.history.History.look.Given as goal

-- nothing is added
abbrev pub ghosts-note_on : goal.ghosts-note_on
ghosts-note_on a = record { more = [] }
