use Rattle.std.proofs.Common.{◌≡◌, ◌+◌, ◌≤◌, length, drop}
use Rattle.std.specs.List.{filter}
use Rattle.mt_questions.specs.OriginText.{is_held}
use Rattle.mt_questions.proofs.holders_text.held_count.Given as goal

-- those counted, and those to come
abbrev pub invariant-names : goal.invariant-names
invariant-names l = record {
  most : l.count ≤ l.name-index;
  counted : l.count + length (filter (is_held l.tables l.holders) (drop l.name-index l.names)) ≡ length (filter (is_held l.tables l.holders) l.names);
}
