use Rattle.std.proofs.Common.{◌≡◌, ◌++◌, drop, codes, decimal}
use Rattle.std.specs.List.{flat_map}
use Rattle.mt_questions.proofs.untold_text.push_more_missing.Given as goal

-- the words appended, and those to come
abbrev pub invariant-groups : goal.invariant-groups
invariant-groups l =
    l.text.items ++ flat_map (λ h. codes ", group " ++ decimal h) (drop l.group-index l.groups) ≡ l.initial.text.items ++ flat_map (λ h. codes ", group " ++ decimal h) l.groups
