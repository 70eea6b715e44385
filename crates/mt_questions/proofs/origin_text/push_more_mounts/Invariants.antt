use Rattle.std.proofs.Common.{◌≡◌, ◌++◌, drop, codes}
use Rattle.std.specs.List.{flat_map}
use Rattle.mt_questions.specs.Wording.{words_of_mount}
use Rattle.mt_questions.proofs.origin_text.push_more_mounts.Given as goal

-- the words appended, and those to come
abbrev pub invariant-ids : goal.invariant-ids
invariant-ids l =
    l.text.items ++ flat_map (λ j. codes ", " ++ words_of_mount l.tables j) (drop l.id-index l.ids) ≡ l.initial.text.items ++ flat_map (λ j. codes ", " ++ words_of_mount l.tables j) l.ids
