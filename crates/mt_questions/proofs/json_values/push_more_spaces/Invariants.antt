use Rattle.std.proofs.Common.{◌≡◌, ◌++◌, drop, codes}
use Rattle.std.specs.List.{flat_map}
use Rattle.mt_questions.specs.Json.{space_json}
use Rattle.mt_questions.proofs.json_values.push_more_spaces.Given as goal

-- the values appended, and those to come
abbrev pub invariant-spaces : goal.invariant-spaces
invariant-spaces l = l.text.items ++ flat_map (λ y. codes "," ++ space_json l.tables y) (drop l.space-index l.spaces) ≡ l.initial.text.items ++ flat_map (λ y. codes "," ++ space_json l.tables y) l.spaces
