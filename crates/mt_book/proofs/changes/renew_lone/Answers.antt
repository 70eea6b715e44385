use Rattle.std.proofs.Common.{◌≡◌, ◌∙◌, ℕ, ◌++◌, ◌<◌, length, cond, List, map, Some, None, sym, ap, subst}
use Rattle.std.specs.Prelude.{slice_index_or}
use Rattle.std.specs.Option.{option_to_list}
use Rattle.std.specs.Arc.{arc_value}
use Rattle.std.proofs.lemmas.List.{get_or_default}
use Rattle.mt_skel.specs.Keyed.{row_at}
use Rattle.mt_book.specs.Book.{space_in, number_in, next_number, next_post}
use Rattle.mt_book.specs.Between.{AreWorlds}
use Rattle.mt_book.proofs.LoneLaws.{absent_numbers, absent_posts, lone_numbers, lone_posts}
use Rattle.mt_book.proofs.changes.renew_lone.Goals as goal

pub returns-in_default-clause-numbers : goal.returns-in_default-clause-numbers
returns-in_default-clause-numbers c =
    let worlds = subst AreWorlds c.between.view_is c.between.invariant in
    let out = subst (λ (l : List (ℕ × ℕ)). row_at space_in c.args.space l ≡ None) c.deref.ensures.value c.in_default.ensures.row in
    absent_numbers c.args.between.now c.args.ids.now c.args.space worlds c.requires.held c.requires.lone c.args.numbers.now.items c.requires.numbers.rising out

pub returns-in_default-clause-posts : goal.returns-in_default-clause-posts
returns-in_default-clause-posts c =
    let worlds = subst AreWorlds c.between.view_is c.between.invariant in
    let out = subst (λ (l : List (ℕ × ℕ)). row_at space_in c.args.space l ≡ None) c.deref.ensures.value c.in_default.ensures.row in
    c.new.ensures ∙ ap (map (λ p. arc_value p)) c.new-posts.ensures.items
    ∙ sym (absent_posts c.args.between.now c.args.ids.now c.args.space worlds c.requires.held c.requires.lone c.args.numbers.now.items c.requires.numbers.rising out)

pub returns-clause-numbers : goal.returns-clause-numbers
returns-clause-numbers c =
    let b = c.args.between.now in
    let worlds = subst AreWorlds c.between.view_is c.between.invariant in
    let rs = c.args.numbers.now.items in
    let at = c.in-Some.at in
    let there = subst (λ (l : List (ℕ × ℕ)). row_at space_in c.args.space l ≡ Some (slice_index_or l at (0, 0))) c.deref.ensures.value c.in-Some.ensures.row in
    let within = subst (λ (l : List (ℕ × ℕ)). at < length l) c.deref.ensures.value c.in-Some.ensures.within in
    let row = c.index-row.ensures ∙ get_or_default rs at c.index-row.result.now (0, 0) within in
    lone_numbers b c.args.ids.now c.args.space worlds c.requires.held c.requires.lone rs c.requires.numbers.rising (slice_index_or rs at (0, 0)) there c.put_number.new.all.items c.in_ok-change.change.number
    c.put_number.ensures.rising (c.in_ok-change.ensures.number ∙ ap (λ (r : ℕ × ℕ). next_number b.old b.new c.args.space (number_in r)) row) c.put_number.ensures.rows

pub returns-clause-posts : goal.returns-clause-posts
returns-clause-posts c =
    let b = c.args.between.now in
    let worlds = subst AreWorlds c.between.view_is c.between.invariant in
    let rs = c.args.numbers.now.items in
    let at = c.in-Some.at in
    let there = subst (λ (l : List (ℕ × ℕ)). row_at space_in c.args.space l ≡ Some (slice_index_or l at (0, 0))) c.deref.ensures.value c.in-Some.ensures.row in
    let within = subst (λ (l : List (ℕ × ℕ)). at < length l) c.deref.ensures.value c.in-Some.ensures.within in
    let row = c.index-row.ensures ∙ get_or_default rs at c.index-row.result.now (0, 0) within in
    c.new-2.ensures ∙ c.in_ok-push_post.ensures.posts ∙ ap (λ l. map (λ p. arc_value p) l ++ option_to_list c.in_ok-change.change.post) c.new-posts.ensures.items
    ∙ ap option_to_list c.in_ok-change.ensures.post ∙ ap (λ (r : ℕ × ℕ). option_to_list (cond b.heard (next_post b.old b.new c.args.space (number_in r)) None)) row
    ∙ sym (lone_posts b c.args.ids.now c.args.space worlds c.requires.held c.requires.lone rs c.requires.numbers.rising (slice_index_or rs at (0, 0)) there)
