use Rattle.mt_examples.proofs.desks.are_full_at_64.Given as goal

-- the lines that were made are those of the desk
abbrev pub ghosts-is_full_at_64 : goal.ghosts-is_full_at_64
ghosts-is_full_at_64 g a = record { lines = a.lines.lines; history = a.lines.history }
