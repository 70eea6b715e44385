use Rattle.std.proofs.Common.{◌≡◌, ℕ, List, not, IsTrue, rules, sym, ap, subst, ◌∙◌}
use Rattle.std.specs.List.{filter}
use Rattle.std.specs.List.Sorted.{IsStrictlyIncreasing}
use Rattle.std.proofs.lemmas.Fn.{filter_same}
use Rattle.std.proofs.lemmas.List.Kept.{IsStrictlyIncreasing-filter}
use Rattle.mt_skel.specs.Keyed.{among, rises}
use Rattle.mt_skel.proofs.KeyedLaws.{rises-filter}
use Rattle.mt_unmount.proofs.FoundLaws.{among-without}
use Rattle.mt_unmount.proofs.gone.Gone.without.Goals as goal

-- what is kept
kept : (c : goal.After-retain) → c.retain.new.self.items ≡ filter (λ j. not (among c.args.others.now j)) c.self.inside.ids.items
kept c = filter_same _ (λ j. not (among c.args.others.now j)) _ (λ x b g r. search rules) _ _ c.retain.ensures.filtered

pub invariant_of-result : goal.invariant_of-result
invariant_of-result c = subst IsStrictlyIncreasing (sym (kept c)) (IsStrictlyIncreasing-filter (λ j. not (among c.args.others.now j)) c.self.inside.ids.items c.self.invariant)

pub returns-clause-rising : goal.returns-clause-rising
returns-clause-rising c =
    subst (λ (l : List ℕ). IsTrue (rises (λ k. k) l)) (sym (kept c ∙ ap (filter (λ j. not (among c.args.others.now j))) c.self.view_is))
    (rises-filter (λ k. k) (λ j. not (among c.args.others.now j)) c.args.self c.requires.rising)

pub returns-clause-same : goal.returns-clause-same
returns-clause-same c j =
    ap (λ (l : List ℕ). among l j) (kept c ∙ ap (filter (λ j. not (among c.args.others.now j))) c.self.view_is) ∙ among-without c.args.self (among c.args.others.now) j
