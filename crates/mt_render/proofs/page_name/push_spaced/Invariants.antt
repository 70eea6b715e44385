use Rattle.std.proofs.Common.{◌≡◌, ◌++◌, length}
use Rattle.mt_render.specs.PageSession.{spaced}
use Rattle.mt_render.proofs.page_name.push_spaced.Given as goal

-- the words that were appended, and those to come
abbrev pub invariant-words : goal.invariant-words
invariant-words l = l.text.items ++ spaced l.words ≡ l.initial.text.items ++ spaced l.initial.words

abbrev pub decreases-words : goal.decreases-words
decreases-words l = length l.words
