use Rattle.mt_desk.proofs.row.PlacedRow.new.Given as goal

-- the key tells the opening
abbrev pub ghosts-open_line : goal.ghosts-open_line
ghosts-open_line a = record { tag = a._key }
