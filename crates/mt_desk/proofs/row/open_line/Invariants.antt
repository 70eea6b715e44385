use Rattle.mt_desk.proofs.row.open_line.Given as goal

-- the key tells the opening
abbrev pub ghost-open : goal.ghost-open
ghost-open g a = g.K.Tagged.tag
