use Rattle.mountd.proofs.socket.serve_listener.Given as goal

-- the lines that were made are those of the desk
abbrev pub ghosts-with_lines : goal.ghosts-with_lines
ghosts-with_lines g a = record { lines = a.lines.lines; history = a.lines.history }
