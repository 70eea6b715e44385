use Rattle.std.proofs.Common.{◌≡◌, ◌++◌, drop}
use Rattle.std.specs.List.{flat_map}
use Rattle.mt_questions.specs.OriginText.{holder_line}
use Rattle.mt_questions.proofs.holders_text.push_each_holder.Given as goal

-- the words appended, and those to come
abbrev pub invariant-holders : goal.invariant-holders
invariant-holders l = l.text.items ++ flat_map (holder_line l.tables) (drop l.holder-index l.holders) ≡ l.initial.text.items ++ flat_map (holder_line l.tables) l.holders
