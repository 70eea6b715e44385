use Rattle.std.proofs.Common.{[], ◌∷◌}
use Rattle.mt_desk.specs.declared.act.Act.TheVariants.{Apply}
use Rattle.mt_desk.proofs.history.History.apply.Given as goal

-- the act
abbrev pub ghosts-note_command_on : goal.ghosts-note_command_on
ghosts-note_command_on a = record { more = Apply a._command.now ∷ [] }
