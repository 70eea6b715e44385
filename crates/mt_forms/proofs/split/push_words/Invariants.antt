use Rattle.std.proofs.Common.{◌≡◌, ◌∷◌, ◌++◌, drop}
use Rattle.std.specs.List.{flat_map}
use Rattle.mt_forms.proofs.split.push_words.Given as goal

abbrev pub invariant-words : goal.invariant-words
invariant-words l =
    l.text.items ++ flat_map (λ word. 0 ∷ word.now) (drop l.word-index l.words) ≡ l.initial.text.items ++ flat_map (λ word. 0 ∷ word.now) l.words
