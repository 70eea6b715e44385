use Rattle.std.proofs.Common.{ap, sym, ◌∙◌}
use Rattle.std.specs.Option.{option_map}
use Rattle.mt_lists.specs.declared.tops.FoundTop.{FoundTop}
use Rattle.mt_lists.proofs.PlaceLaws.{last-below}
use Rattle.mt_lists.proofs.tying.place_for.Goals as goal

pub returns-then-id : goal.returns-then-id
returns-then-id g c =
    last-below _ _ c.args.tops.now c.requires.tied c.args.id c.args.number c.in_ok-top.field-0.top (sym (sym (ap (option_map (λ (f : FoundTop). f.top)) c.in_ok-top.was) ∙ c.requires.found)) (λ i at. rw (c.id.ensures i at) at c.if-id.true)

pub returns-then-recent_below : goal.returns-then-recent_below
returns-then-recent_below g c =
    let low = c.recent_below.ensures.below c.if-recent_below.true in
    c.sought_up.ensures c.args.number low.other low.there (c.recent_below.ensures.among low.other c.if-recent_below.true low.there)
