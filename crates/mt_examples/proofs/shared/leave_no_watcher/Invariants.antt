use Rattle.mt_examples.proofs.shared.leave_no_watcher.Given as goal

-- the lines that were made are those of the desk
abbrev pub ghosts-leaves_no_watcher : goal.ghosts-leaves_no_watcher
ghosts-leaves_no_watcher g a = record { lines = a.lines.lines; history = a.lines.history }
