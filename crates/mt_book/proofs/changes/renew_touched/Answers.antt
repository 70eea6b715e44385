use Rattle.std.proofs.Common.{◌≡◌, ◌∙◌, ℕ, false, List, [], cond, ap, sym, subst}
use Rattle.std.specs.List.{filter}
use Rattle.mt_skel.specs.Keyed.{rises, among}
use Rattle.mt_skel.proofs.KeyedLaws.{rises-filter}
use Rattle.mt_events.specs.Posts.{PostView}
use Rattle.mt_book.specs.Book.{AreNumbers, space_in, counted}
use Rattle.mt_book.specs.Between.{BetweenView, AreWorlds, HoldsAll, heard_posts}
use Rattle.mt_book.specs.Parts.{is_touched, merged}
use Rattle.mt_book.proofs.ChangedLaws.{is_in, few_filter, counted_rises, quiet_of, all_numbers, all_posts}
use Rattle.mt_book.proofs.changes.renew_touched.Goals as goal

-- in all namespaces that are not touched nothing changes
quiet : (c : goal.After-drop-spaces-2) (n : ℕ) → among c.in_ok-spaces.spaces.items n ≡ false → HoldsAll c.args.between.now [] n
quiet c =
    let b = c.args.between.now in
    let worlds = subst AreWorlds c.between.view_is c.between.invariant in
    quiet_of b.old b.new c.args.ids.now c.in_ok-spaces.spaces.items worlds.old worlds.new c.requires.held
    (λ n. c.in_ok-spaces.ensures.touched n ∙ ap (λ (x : BetweenView). is_touched x.old x.new c.args.ids.now n) c.between.view_is)

pub changes_in-requires-clause-numbers : goal.changes_in-requires-clause-numbers
changes_in-requires-clause-numbers c =
    let t = is_in c.in_ok-spaces.spaces.items in
    let rs = c.args.numbers.now.items in
    let before : c.deref-3.result.now ≡ filter t rs =
    c.deref-3.ensures.value ∙ c.in_ok-before.ensures.some ∙ ap (λ (l : List ℕ). filter (is_in l) c.deref.result.now) c.deref-2.ensures.value ∙ ap (λ (l : List (ℕ × ℕ)). filter t l) c.deref.ensures.value in
    subst AreNumbers (sym before) (record { rising = rises-filter space_in t rs c.requires.numbers.rising; few = few_filter t rs c.requires.numbers.few })

pub put_numbers-requires-clause-changed : goal.put_numbers-requires-clause-changed
put_numbers-requires-clause-changed c =
    let b = c.args.between.now in
    let t = is_in c.in_ok-spaces.spaces.items in
    let rs = c.args.numbers.now.items in
    let before : c.deref-3.result.now ≡ filter t rs =
    c.deref-3.ensures.value ∙ c.in_ok-before.ensures.some ∙ ap (λ (l : List ℕ). filter (is_in l) c.deref.result.now) c.deref-2.ensures.value ∙ ap (λ (l : List (ℕ × ℕ)). filter t l) c.deref.ensures.value in
    ap (λ (l : List (ℕ × ℕ)). rises space_in l) (c.deref-4.ensures.value ∙ c.in_ok-changes.ensures.numbers) ∙ counted_rises b.old b.new c.deref-3.result.now
    ∙ ap (λ (l : List (ℕ × ℕ)). rises space_in l) before ∙ rises-filter space_in t rs c.requires.numbers.rising

pub returns-clause-numbers : goal.returns-clause-numbers
returns-clause-numbers c =
    let b = c.args.between.now in
    let worlds = subst AreWorlds c.between.view_is c.between.invariant in
    let t = is_in c.in_ok-spaces.spaces.items in
    let rs = c.args.numbers.now.items in
    let before : c.deref-3.result.now ≡ filter t rs =
    c.deref-3.ensures.value ∙ c.in_ok-before.ensures.some ∙ ap (λ (l : List ℕ). filter (is_in l) c.deref.result.now) c.deref-2.ensures.value ∙ ap (λ (l : List (ℕ × ℕ)). filter t l) c.deref.ensures.value in
    let changed = c.deref-4.ensures.value ∙ c.in_ok-changes.ensures.numbers ∙ ap (counted b.old b.new) before in
    all_numbers b.old b.new c.in_ok-spaces.spaces.items worlds.old worlds.new (quiet c) rs c.put_numbers.new.all.items c.requires.numbers.rising c.put_numbers.ensures.rising
    (λ n. c.put_numbers.ensures.rows n ∙ ap (λ (l : List (ℕ × ℕ)). merged rs l n) changed)

pub returns-clause-posts : goal.returns-clause-posts
returns-clause-posts c =
    let b = c.args.between.now in
    let worlds = subst AreWorlds c.between.view_is c.between.invariant in
    let t = is_in c.in_ok-spaces.spaces.items in
    let rs = c.args.numbers.now.items in
    let before : c.deref-3.result.now ≡ filter t rs =
    c.deref-3.ensures.value ∙ c.in_ok-before.ensures.some ∙ ap (λ (l : List ℕ). filter (is_in l) c.deref.result.now) c.deref-2.ensures.value ∙ ap (λ (l : List (ℕ × ℕ)). filter t l) c.deref.ensures.value in
    c.in_ok-changes.ensures.posts ∙ ap (heard_posts b) before
    ∙ ap (λ (l : List PostView). cond b.heard l []) (sym (all_posts b.old b.new c.in_ok-spaces.spaces.items worlds.old worlds.new (quiet c) rs))
