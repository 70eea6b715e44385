use Rattle.std.proofs.Common.{◌≡◌, ◌++◌, drop, map}
use Rattle.std.specs.Arc.{arc_value}
use Rattle.mt_book.specs.Between.{numbers_after, heard_posts}
use Rattle.mt_book.proofs.changes.changes_in_each.Given as goal

-- the namespaces passed, and those to come
abbrev pub invariant-spaces : goal.invariant-spaces
invariant-spaces l = record {
  numbers : l.after.items ++ numbers_after l.between (drop l.i l.numbers) ≡ numbers_after l.between l.numbers;
  posts : map (λ p. arc_value p) l.posts.items ++ heard_posts l.between (drop l.i l.numbers) ≡ heard_posts l.between l.numbers;
}
