use Rattle.mt_queue.proofs.line.Line.open.Given as goal

-- the opening that is passed
abbrev pub ghosts-reopen : goal.ghosts-reopen
ghosts-reopen g a = record { opening = a._opening.now; tag = g.tag; capacity = a._capacity }
