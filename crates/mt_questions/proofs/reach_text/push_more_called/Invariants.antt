use Rattle.std.proofs.Common.{◌≡◌, ◌++◌, drop, codes}
use Rattle.std.specs.List.{flat_map}
use Rattle.mt_questions.specs.Wording.{called}
use Rattle.mt_questions.proofs.reach_text.push_more_called.Given as goal

-- the words appended, and those to come
abbrev pub invariant-spaces : goal.invariant-spaces
invariant-spaces l =
    l.text.items ++ flat_map (λ m. codes ", " ++ called l.tables m) (drop l.space-index l.spaces) ≡ l.initial.text.items ++ flat_map (λ m. codes ", " ++ called l.tables m) l.spaces
