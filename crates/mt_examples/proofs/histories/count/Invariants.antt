use Rattle.mt_examples.proofs.histories.count.Given as goal

-- the desk is on these lines
abbrev pub ghosts-count_on : goal.ghosts-count_on
ghosts-count_on g a = record { lines = a.lines.lines; history = a.lines.history }
