use Rattle.std.proofs.Common.{sym, ap, ◌∙◌}
use Rattle.std.specs.Option.{option_map, option_map_or}
use Rattle.mt_lists.specs.Lists.{without_row}
use Rattle.mt_lists.specs.declared.ties.Tie.{Tie}
use Rattle.mt_lists.specs.declared.tops.FoundTop.{FoundTop}
use Rattle.mt_lists.proofs.UntyingLaws.{tied-less, tied-still, top-there}
use Rattle.mt_lists.proofs.tying.untie.Goals as goal

pub returns-in-Some-top_of-clause-tied : goal.returns-in-Some-top_of-clause-tied
returns-in-Some-top_of-clause-tied g c =
    let there = sym c.take.ensures.tie ∙ c.in-Some.is in
    let rows = g.T.Ties.rows c.args.ties.now in
    tied-less _ _ c.args.tops.now c.requires.tied c.args.place c.in-Some.tie there _ _ _ c.take.ensures.ties c.set_after.ensures.ties c.set_before.ensures.ties
    _ (c.set_before.ensures.rows ∙ c.set_after.ensures.rows ∙ c.take.ensures.rows ∙ ap (λ o. option_map_or (λ (t : Tie). without_row t.id rows) o rows) there)
    c.in-Some-top_of.found.top c.set_top.new.tops (sym c.top_of.ensures.top ∙ ap (option_map (λ (f : FoundTop). f.top)) c.in-Some-top_of.is) (rw c.shrunk-top.ensures at c.set_top.ensures.top)

pub returns-in_default-top_of-clause-tied : goal.returns-in_default-top_of-clause-tied
returns-in_default-top_of-clause-tied g c =
    absurd (top-there _ _ c.args.tops.now c.requires.tied c.args.place c.in-Some.tie (sym c.take.ensures.tie ∙ c.in-Some.is) (sym c.top_of.ensures.top ∙ ap (option_map (λ (f : FoundTop). f.top)) c.in_default-top_of.is))

pub returns-in_default-clause-tied : goal.returns-in_default-clause-tied
returns-in_default-clause-tied g c =
    let none = sym c.take.ensures.tie ∙ c.in_default.is in
    let rows = g.T.Ties.rows c.args.ties.now in
    tied-still _ _ c.args.tops.now c.requires.tied c.args.place none _ c.take.ensures.ties _ (c.take.ensures.rows ∙ ap (λ o. option_map_or (λ (t : Tie). without_row t.id rows) o rows) none)
