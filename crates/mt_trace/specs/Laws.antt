-- What is true of all calls that are followed.
-- A word with no source is this project's rule.
use Rattle.std.specs.Prelude.{◌≡◌, map, Some}
use Rattle.mt_lines.specs.Words.{pieces}
use Rattle.mt_trace.specs.CallNames.{call_names, call_named, call_list}

-- each name is that of its call, and of no other one
abbrev pub NamesAreFollowed : Type 0
NamesAreFollowed = map (λ row. call_named row.1) call_names ≡ map (λ row. Some row.0) call_names

-- what strace is given are these names
abbrev pub ListHasAllNames : Type 0
ListHasAllNames = pieces 44 call_list ≡ map (λ row. row.1) call_names
