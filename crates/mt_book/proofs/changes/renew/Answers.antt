use Rattle.std.proofs.Common.{◌≡◌, ◌∙◌, ℕ, List, [], cond, true, ap, sym, subst, rules}
use Rattle.std.specs.List.{list_all}
use Rattle.mt_skel.specs.Keyed.{among}
use Rattle.mt_info.specs.MayDiffer.{may_differ}
use Rattle.mt_events.specs.Posts.{PostView}
use Rattle.mt_events.proofs.HeldLaws.{rows_held}
use Rattle.mt_book.specs.Between.{BetweenView, AreWorlds}
use Rattle.mt_book.specs.Parts.{rests_in}
use Rattle.mt_book.proofs.LoneLaws.{stays_of, may_differ_alone}
use Rattle.mt_book.proofs.HeardLaws.{heard_none}
use Rattle.mt_book.proofs.DirectoryLaws.{directories_untold, same_numbers, no_posts}
use Rattle.mt_book.proofs.TouchedLaws.{skel_stays}
use Rattle.mt_book.proofs.changes.renew.Goals as goal

pub renew_lone-requires-clause-held : goal.renew_lone-requires-clause-held
renew_lone-requires-clause-held c n =
    let b = c.args.between.now in
    let worlds = subst AreWorlds c.between.view_is c.between.invariant in
    let s = c.in-Some.space in
    let ids = c.args.touched.now in
    let rest : list_all (rests_in b.old b.new s) ids ≡ true = sym (ap (λ (x : BetweenView). list_all (rests_in x.old x.new s) ids) c.between.view_is) ∙ c.in-Some.ensures in
    rows_held b.old b.new ids ids worlds.old worlds.new (skel_stays _ _ c.args.command.now (sym c.makes_directories.ensures ∙ c.if-makes_directories.false) c.requires.next) c.requires.touched (λ i. may_differ_alone b.old b.new s ids i rest) n

pub renew_lone-requires-clause-lone : goal.renew_lone-requires-clause-lone
renew_lone-requires-clause-lone c =
    let b = c.args.between.now in
    let s = c.in-Some.space in
    let ids = c.args.touched.now in
    stays_of b.old b.new s ids (sym (ap (λ (x : BetweenView). list_all (rests_in x.old x.new s) ids) c.between.view_is) ∙ c.in-Some.ensures)

pub renew_lone-requires-in-Some-lone_space-clause-held : goal.renew_lone-requires-in-Some-lone_space-clause-held
renew_lone-requires-in-Some-lone_space-clause-held c n =
    let b = c.args.between.now in
    let worlds = subst AreWorlds c.between.view_is c.between.invariant in
    rows_held b.old b.new c.args.touched.now c.deref-in-Some-lone_space.result.now worlds.old worlds.new (skel_stays _ _ c.args.command.now (sym c.makes_directories.ensures ∙ c.if-makes_directories.false) c.requires.next) c.requires.touched
    (λ i. ap (λ (l : List ℕ). among l i) c.deref-in-Some-lone_space.ensures.value ∙ c.in_ok-ids.ensures.rows i ∙ ap (λ (x : BetweenView). may_differ x.old x.new c.args.touched.now i) c.between.view_is) n

pub renew_touched-requires-clause-held : goal.renew_touched-requires-clause-held
renew_touched-requires-clause-held c n =
    let b = c.args.between.now in
    let worlds = subst AreWorlds c.between.view_is c.between.invariant in
    rows_held b.old b.new c.args.touched.now c.deref-in-None.result.now worlds.old worlds.new (skel_stays _ _ c.args.command.now (sym c.makes_directories.ensures ∙ c.if-makes_directories.false) c.requires.next) c.requires.touched
    (λ i. ap (λ (l : List ℕ). among l i) c.deref-in-None.ensures.value ∙ c.in_ok-ids.ensures.rows i ∙ ap (λ (x : BetweenView). may_differ x.old x.new c.args.touched.now i) c.between.view_is) n

pub returns-then-makes_directories-clause-numbers : goal.returns-then-makes_directories-clause-numbers
returns-then-makes_directories-clause-numbers c =
    let old = (subst AreWorlds c.between.view_is c.between.invariant).old in
    let same = directories_untold _ _ c.args.command.now old c.requires.skeleton (sym c.makes_directories.ensures ∙ c.if-makes_directories.true) c.requires.next in
    sym (same_numbers _ _ old same c.args.numbers.now.items)

pub returns-then-makes_directories-clause-posts : goal.returns-then-makes_directories-clause-posts
returns-then-makes_directories-clause-posts c =
    let b = c.args.between.now in
    let old = (subst AreWorlds c.between.view_is c.between.invariant).old in
    let same = directories_untold _ _ c.args.command.now old c.requires.skeleton (sym c.makes_directories.ensures ∙ c.if-makes_directories.true) c.requires.next in
    let empty : c.new-then-makes_directories.result ≡ [] = search rules in
    empty ∙ sym (ap (λ (ps : List PostView). cond b.heard ps []) (no_posts _ _ old same c.args.numbers.now.items) ∙ heard_none b.heard)
