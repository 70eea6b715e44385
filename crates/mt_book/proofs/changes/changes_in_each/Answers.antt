use Rattle.std.proofs.Common.{◌≡◌, ◌∙◌, ◌++◌, ◌+◌, ℕ, List, true, map, drop, sym, subst, ap, arith, append-nil, append_assoc}
use Rattle.std.proofs.lemmas.Grind.{common_steps}
use Rattle.std.proofs.lemmas.List.{drop_all}
use Rattle.std.specs.Arc.{arc_value}
use Rattle.std.specs.Option.{option_to_list}
use Rattle.std.specs.List.{filter}
use Rattle.mt_skel.specs.Keyed.{rises}
use Rattle.mt_skel.proofs.KeyedLaws.{rises-filter}
use Rattle.mt_book.specs.Between.{BetweenView, AreWorlds, HoldsAll, numbers_after, heard_posts}
use Rattle.mt_book.specs.Parts.{is_part, space_at}
use Rattle.mt_book.proofs.TouchedLaws.{part_holds, part_is}
use Rattle.mt_book.proofs.HeardLaws.{heard_none, heard_next}
use Rattle.mt_book.proofs.changes.changes_in_each.Goals as goal

-- the mounts that were or are in the namespace
part : (c : goal.After-row-1) → c.as_slice-part.result.now ≡ filter (is_part c.args.between.now.old c.args.between.now.new (space_at c.args.numbers.now c.spaces.i)) c.args.ids.now
part c =
    c.as_slice-part.ensures
    ∙ part_is c.in_ok-parts.parts.items c.index.result.now c.args.ids.now c.spaces.i _ (is_part c.args.between.now.old c.args.between.now.new (space_at c.args.numbers.now c.spaces.i)) c.index.ensures c.in_ok-parts.ensures.len
    (omega (arith, c.spaces-test.true)) (λ l. c.in_ok-parts.ensures.parts c.spaces.i l ∙ ap (λ (b : BetweenView). filter (is_part b.old b.new (space_at c.args.numbers.now c.spaces.i)) c.args.ids.now) c.between.view_is)

pub change-requires-clause-rising : goal.change-requires-clause-rising
change-requires-clause-rising c =
    let b = c.args.between.now in
    subst (λ (l : List ℕ). rises (λ k. k) l ≡ true) (sym (part c)) (rises-filter (λ k. k) (is_part b.old b.new (space_at c.args.numbers.now c.spaces.i)) c.args.ids.now c.requires.rising)

pub change-requires-clause-held : goal.change-requires-clause-held
change-requires-clause-held c =
    let b = c.args.between.now in
    let worlds = subst AreWorlds c.between.view_is c.between.invariant in
    let n = space_at c.args.numbers.now c.spaces.i in
    subst (λ (l : List ℕ). HoldsAll b l n) (sym (part c)) (part_holds b.old b.new n c.args.ids.now worlds.old worlds.new (c.requires.held n))

pub spaces-preserved : goal.spaces-preserved
spaces-preserved c =
    let b = c.args.between.now in
    let rs = c.args.numbers.now in
    let before = map (λ p. arc_value p) c.spaces.posts.items in
    record {
      numbers = grind (arith, common_steps);
      posts =
          ap (λ l. l ++ heard_posts b (drop (c.spaces.i + 1) rs)) c.in_ok-push_post.ensures.posts
          ∙ append_assoc before (option_to_list c.in_ok-change.change.post) (heard_posts b (drop (c.spaces.i + 1) rs))
          ∙ ap (λ l. before ++ l) (sym (heard_next b rs c.spaces.i c.in_ok-change.change.post c.spaces-test.true c.in_ok-change.ensures.post)) ∙ c.spaces.invariant.posts;
    }

pub spaces-init : goal.spaces-init
spaces-init c =
    let b = c.args.between.now in
    let rs = c.args.numbers.now in
    record {
      numbers = ap (λ l. l ++ numbers_after b rs) c.in_ok-after.ensures.items;
      posts = ap (λ l. map (λ p. arc_value p) l ++ heard_posts b rs) c.new-posts.ensures.items;
    }

pub returns-clause-numbers : goal.returns-clause-numbers
returns-clause-numbers c =
    let after = c.spaces.after.items in
    let left = drop_all c.spaces.i c.args.numbers.now c.spaces-test.false in
    sym (append-nil after) ∙ ap (λ l. after ++ numbers_after c.args.between.now l) (sym left) ∙ c.spaces.invariant.numbers

pub returns-clause-posts : goal.returns-clause-posts
returns-clause-posts c =
    let b = c.args.between.now in
    let posts = map (λ p. arc_value p) c.spaces.posts.items in
    let left = drop_all c.spaces.i c.args.numbers.now c.spaces-test.false in
    c.new.ensures ∙ sym (append-nil posts) ∙ ap (λ l. posts ++ l) (sym (ap (heard_posts b) left ∙ heard_none b.heard)) ∙ c.spaces.invariant.posts
