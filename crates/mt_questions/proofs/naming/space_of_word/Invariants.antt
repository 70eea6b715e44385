use Rattle.std.proofs.Common.{◌≡◌, drop, find}
use Rattle.mt_questions.specs.Naming.{is_word}
use Rattle.mt_questions.proofs.naming.space_of_word.Given as goal

-- none of those passed has it
abbrev pub invariant-aliases : goal.invariant-aliases
invariant-aliases l = find (is_word l.word) (drop l.alias-index l.aliases) ≡ find (is_word l.word) l.aliases
