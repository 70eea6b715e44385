use Rattle.std.proofs.Common.{[], ◌∷◌}
use Rattle.mt_desk.specs.declared.act.Act.TheVariants.{Stop}
use Rattle.mt_desk.proofs.history.History.stop.Given as goal

-- the act
abbrev pub ghosts-note_on : goal.ghosts-note_on
ghosts-note_on a = record { more = Stop ∷ [] }
