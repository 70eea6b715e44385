use Rattle.std.proofs.Common.{◌≡◌, ◌++◌, ◌∷◌, drop}
use Rattle.std.specs.List.{flat_map}
use Rattle.mt_skel.specs.Escapes.{escaped}
use Rattle.mt_client.proofs.request.push_words.Given as goal

-- what was appended and what is left are all
abbrev pub invariant-words : goal.invariant-words
invariant-words l = l.line.items ++ flat_map (λ word. 32 ∷ escaped word.now) (drop l.word-index l.words) ≡ l.initial.line.items ++ flat_map (λ word. 32 ∷ escaped word.now) l.words
