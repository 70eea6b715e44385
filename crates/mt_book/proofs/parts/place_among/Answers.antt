use Rattle.std.proofs.Common.{◌≡◌, None, sym, rules}
use Rattle.std.proofs.lemmas.List.Sorted.{answers_always}
use Rattle.mt_skel.specs.Keyed.{row_at}
use Rattle.mt_skel.proofs.SearchLaws.{found_at, not_found}
use Rattle.mt_book.specs.Book.{space_in}
use Rattle.mt_book.proofs.PlaceLaws.{place_found, place_absent}
use Rattle.mt_book.proofs.parts.place_among.Goals as goal

pub returns-in-Ok-clause-place : goal.returns-in-Ok-clause-place
returns-in-Ok-clause-place c =
    let equal = c.in-Ok.ensures.position space_in (answers_always _ _ _ (λ f a r g called. search rules)) in
    λ k low. place_found c.args.space c.args.numbers.now c.in-Ok.at k c.requires.rising c.in-Ok.ensures.bound equal low

none : (c : goal.In-Err) → row_at space_in c.args.space c.args.numbers.now ≡ None
none c =
    let parted = c.in-Err.ensures.position space_in (answers_always _ _ _ (λ f a r g called. search rules)) in
    not_found space_in c.args.space c.in-Err.field-0 c.args.numbers.now c.requires.rising parted

pub returns-in-Err-clause-place : goal.returns-in-Err-clause-place
returns-in-Err-clause-place c k low = place_absent c.args.space c.args.numbers.now k (none c) low

pub returns-in-Ok-clause-row : goal.returns-in-Ok-clause-row
returns-in-Ok-clause-row c =
    let equal = c.in-Ok.ensures.position space_in (answers_always _ _ _ (λ f a r g called. search rules)) in
    sym (found_at space_in c.args.space c.in-Ok.at c.args.numbers.now (0, 0) c.requires.rising c.in-Ok.ensures.bound equal)

pub returns-in-Err-clause-row : goal.returns-in-Err-clause-row
returns-in-Err-clause-row c = none c
