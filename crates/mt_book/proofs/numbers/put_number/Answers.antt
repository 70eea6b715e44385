use Rattle.std.proofs.Common.{◌≡◌, ℕ, ◌<◌, List, length, slice_index_or, Some, subst}
use Rattle.mt_skel.specs.Keyed.{row_at}
use Rattle.mt_book.specs.Book.{space_in}
use Rattle.mt_book.proofs.ChangedLaws.{set_rises, put_here}
use Rattle.mt_book.proofs.numbers.put_number.Goals as goal

pub returns-clause-rising : goal.returns-clause-rising
returns-clause-rising c =
    let at = c.in-Some.at in
    let there = subst (λ (l : List (ℕ × ℕ)). row_at space_in (space_in c.args.row) l ≡ Some (slice_index_or l at (0, 0))) c.deref.ensures.value c.in-Some.ensures.row in
    let within = subst (λ (l : List (ℕ × ℕ)). at < length l) c.deref.ensures.value c.in-Some.ensures.within in
    set_rises c.args.all.now.items at c.args.row c.requires.rising within there

pub returns-clause-rows : goal.returns-clause-rows
returns-clause-rows c =
    let at = c.in-Some.at in
    let there = subst (λ (l : List (ℕ × ℕ)). row_at space_in (space_in c.args.row) l ≡ Some (slice_index_or l at (0, 0))) c.deref.ensures.value c.in-Some.ensures.row in
    let within = subst (λ (l : List (ℕ × ℕ)). at < length l) c.deref.ensures.value c.in-Some.ensures.within in
    put_here c.args.all.now.items at c.args.row c.requires.rising within there
