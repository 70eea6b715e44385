use Rattle.std.proofs.Common.{◌≡◌, drop}
use Rattle.std.specs.List.{list_any}
use Rattle.mt_questions.specs.OriginText.{is_held_in}
use Rattle.mt_questions.proofs.holders_text.is_held.Given as goal

-- none of those passed is there
abbrev pub invariant-holders : goal.invariant-holders
invariant-holders l = list_any (is_held_in l.tables l.name.space) (drop l.holder-index l.holders) ≡ list_any (is_held_in l.tables l.name.space) l.holders
