use Rattle.mt_examples.proofs.sockets.served.Given as goal

-- the lines that were made are those of the desk
abbrev pub ghosts-served_on : goal.ghosts-served_on
ghosts-served_on g a = record { lines = a.lines.lines; history = a.lines.history }
