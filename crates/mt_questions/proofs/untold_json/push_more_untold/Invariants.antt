use Rattle.std.proofs.Common.{◌≡◌, ◌++◌, drop, codes}
use Rattle.std.specs.List.{flat_map}
use Rattle.mt_questions.specs.Json.{untold_json}
use Rattle.mt_questions.proofs.untold_json.push_more_untold.Given as goal

-- the values appended, and those to come
abbrev pub invariant-untold : goal.invariant-untold
invariant-untold l = l.text.items ++ flat_map (λ y. codes "," ++ untold_json l.tables y) (drop l.one-index l.untold) ≡ l.initial.text.items ++ flat_map (λ y. codes "," ++ untold_json l.tables y) l.untold
