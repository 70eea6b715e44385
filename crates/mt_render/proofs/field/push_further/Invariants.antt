use Rattle.std.proofs.Common.{◌≡◌, ◌++◌, drop}
use Rattle.mt_render.specs.Wording.{further_words}
use Rattle.mt_render.proofs.field.push_further.Given as goal

-- the words appended, and those to come
abbrev pub invariant-changed : goal.invariant-changed
invariant-changed l = l.text.items ++ further_words l.before l.after (drop l.field-index l.changed) ≡ l.initial.text.items ++ further_words l.before l.after l.changed
