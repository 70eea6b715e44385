use Rattle.std.proofs.Common.{◌≡◌, ◌++◌, drop}
use Rattle.mt_what_if.specs.Elsewhere.{further_names}
use Rattle.mt_what_if.proofs.elsewhere.push_further.Given as goal

-- the names appended, and those to come
abbrev pub invariant-spaces : goal.invariant-spaces
invariant-spaces l = l.text.items ++ further_names (drop l.space-index l.spaces) ≡ l.initial.text.items ++ further_names l.spaces
