use Rattle.std.proofs.Common.{◌≡◌, ◌++◌, drop, codes, decimal}
use Rattle.std.specs.List.{flat_map}
use Rattle.mt_questions.proofs.json_values.push_more_numbers.Given as goal

-- the values appended, and those to come
abbrev pub invariant-numbers : goal.invariant-numbers
invariant-numbers l = l.text.items ++ flat_map (λ y. codes "," ++ decimal y) (drop l.number-index l.numbers) ≡ l.initial.text.items ++ flat_map (λ y. codes "," ++ decimal y) l.numbers
