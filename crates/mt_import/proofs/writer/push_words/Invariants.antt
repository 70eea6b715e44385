use Rattle.std.proofs.Common.{◌≡◌, ◌++◌, ◌∷◌, drop}
use Rattle.std.specs.List.{flat_map}
use Rattle.mt_import.proofs.writer.push_words.Given as goal

-- what was appended and what is left are all
abbrev pub invariant-words : goal.invariant-words
invariant-words l = l.line.items ++ flat_map (λ word. 32 ∷ word.now) (drop l.word-index l.words) ≡ l.initial.line.items ++ flat_map (λ word. 32 ∷ word.now) l.words
