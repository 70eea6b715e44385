use Rattle.mt_examples.proofs.desks.left_after.Given as goal

-- the lines that were made are those of the desk
abbrev pub ghosts-left_on : goal.ghosts-left_on
ghosts-left_on g a = record { lines = a.lines.lines; history = a.lines.history }
