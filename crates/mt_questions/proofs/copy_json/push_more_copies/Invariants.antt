use Rattle.std.proofs.Common.{◌≡◌, ◌++◌, drop, codes}
use Rattle.std.specs.List.{flat_map}
use Rattle.mt_questions.specs.Json.{copy_json}
use Rattle.mt_questions.proofs.copy_json.push_more_copies.Given as goal

-- the values appended, and those to come
abbrev pub invariant-copies : goal.invariant-copies
invariant-copies l = l.text.items ++ flat_map (λ y. codes "," ++ copy_json l.tables y) (drop l.copy-index l.copies) ≡ l.initial.text.items ++ flat_map (λ y. codes "," ++ copy_json l.tables y) l.copies
