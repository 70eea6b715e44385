use Rattle.std.proofs.Common.{◌≡◌, drop, find}
use Rattle.mt_questions.specs.Naming.{is_last_name}
use Rattle.mt_questions.proofs.naming.space_of_name.Given as goal

-- none of those passed has it
abbrev pub invariant-aliases : goal.invariant-aliases
invariant-aliases l = find (is_last_name l.word) (drop l.alias-index l.aliases) ≡ find (is_last_name l.word) l.aliases
