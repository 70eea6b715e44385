use Rattle.std.proofs.Common.{◌≡◌, drop}
use Rattle.std.specs.List.{list_all}
use Rattle.mt_questions.specs.Naming.{agrees}
use Rattle.mt_questions.proofs.naming.all_agree.Given as goal

-- those that are left decide
abbrev pub invariant-aliases : goal.invariant-aliases
invariant-aliases l = list_all (agrees l.word l.space) (drop l.alias-index l.aliases) ≡ list_all (agrees l.word l.space) l.aliases
