use Rattle.std.proofs.Common.{◌≡◌, ◌∷◌, ◌++◌, length}
use Rattle.std.specs.List.{flat_map}
use Rattle.mt_what_if.proofs.line_told.push_later_words.Given as goal

-- the words appended, and those to come
abbrev pub invariant-words : goal.invariant-words
invariant-words l = l.line.items ++ flat_map (λ word. 32 ∷ word) l.words ≡ l.initial.line.items ++ flat_map (λ word. 32 ∷ word) l.initial.words

abbrev pub decreases-words : goal.decreases-words
decreases-words l = length l.words
