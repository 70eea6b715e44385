use Rattle.std.proofs.Common.{◌≡◌, ◌++◌, drop, codes}
use Rattle.std.specs.List.{flat_map}
use Rattle.mt_questions.specs.Json.{apart_json}
use Rattle.mt_questions.proofs.apart_json.push_more_apart.Given as goal

-- the values appended, and those to come
abbrev pub invariant-apart : goal.invariant-apart
invariant-apart l = l.text.items ++ flat_map (λ y. codes "," ++ apart_json l.tables y) (drop l.one-index l.apart) ≡ l.initial.text.items ++ flat_map (λ y. codes "," ++ apart_json l.tables y) l.apart
