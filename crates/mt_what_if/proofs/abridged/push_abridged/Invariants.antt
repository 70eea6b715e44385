use Rattle.std.proofs.Common.{◌≡◌, ◌++◌, [], take, drop}
use Rattle.mt_what_if.specs.Abridged.{abridged_from}
use Rattle.mt_what_if.proofs.abridged.push_abridged.Given as goal

-- the changes appended, and those to come
abbrev pub invariant-all : goal.invariant-all
invariant-all l =
    l.text.items ++ abridged_from l.fn.all (take l.place l.fn.all) (drop l.place l.fn.all) ≡ l.initial.text.items ++ abridged_from l.fn.all [] l.fn.all
