use Rattle.std.proofs.Common.{take, ◌≤◌, length, ◌≡◌, vec_capacity, vec_len}
use Rattle.mt_book.specs.Book.{AreAnswered}
use Rattle.mt_book.proofs.book.Book.run.Given as goal

-- the commands passed were answered, and there is room for the other answers
abbrev pub invariant-commands : goal.invariant-commands
invariant-commands l = record {
  run : AreAnswered l.initial.self.journal (take l.i l.commands) l.answers.items l.self.journal;
  room : length l.commands ≤ vec_capacity l.answers;
  count : vec_len l.answers ≡ l.i;
}
