use Rattle.std.proofs.Common.{◌≡◌, ◌++◌, drop, codes}
use Rattle.std.specs.List.{flat_map}
use Rattle.mt_questions.specs.Json.{holder_json}
use Rattle.mt_questions.proofs.origin_json.push_more_holders.Given as goal

-- the values appended, and those to come
abbrev pub invariant-holders : goal.invariant-holders
invariant-holders l = l.text.items ++ flat_map (λ y. codes "," ++ holder_json y) (drop l.holder-index l.holders) ≡ l.initial.text.items ++ flat_map (λ y. codes "," ++ holder_json y) l.holders
