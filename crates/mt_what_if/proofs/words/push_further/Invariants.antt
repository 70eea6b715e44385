use Rattle.std.proofs.Common.{◌≡◌, ◌++◌, drop}
use Rattle.mt_what_if.specs.Words.{further}
use Rattle.mt_what_if.proofs.words.push_further.Given as goal

-- the words appended, and those to come
abbrev pub invariant-changed : goal.invariant-changed
invariant-changed l =
    l.text.items ++ further l.numbers l.before l.after (drop l.field-index l.changed) ≡ l.initial.text.items ++ further l.numbers l.before l.after l.changed
