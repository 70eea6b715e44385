use Rattle.mt_examples.proofs.queues.opened.Given as goal

-- the tests need no number of an opening
abbrev pub ghost-open : goal.ghost-open
ghost-open a = 0
