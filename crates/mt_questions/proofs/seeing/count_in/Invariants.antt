use Rattle.std.proofs.Common.{◌≡◌, ◌+◌, ◌≤◌, length, drop}
use Rattle.std.specs.List.{filter}
use Rattle.mt_questions.specs.Seeing.{is_line_of}
use Rattle.mt_questions.proofs.seeing.count_in.Given as goal

-- those counted, and those to come
abbrev pub invariant-lines : goal.invariant-lines
invariant-lines l = record {
  most : l.count ≤ l.told-index;
  counted : l.count + length (filter (is_line_of l.id) (drop l.told-index l.lines)) ≡ length (filter (is_line_of l.id) l.lines);
}
