use Rattle.std.proofs.Common.{Some, ap, sym, ◌∙◌}
use Rattle.std.specs.Option.{option_map}
use Rattle.mt_lists.specs.declared.tops.FoundTop.{FoundTop}
use Rattle.mt_lists.specs.Ties.{id_at}
use Rattle.mt_lists.proofs.PlaceLaws.{follow-some, follow-none, follow-first}
use Rattle.mt_lists.proofs.tying.follower.Goals as goal

pub returns-in-None : goal.returns-in-None
returns-in-None g c =
    follow-first _ _ c.args.tops.now c.requires.tied c.args.id c.args.number c.in_ok-top.field-0.top (sym (sym (ap (option_map (λ (f : FoundTop). f.top)) c.in_ok-top.was) ∙ c.requires.found)) c.requires.absent
    (ap (option_map (id_at (g.T.Ties.ties c.args.ties.now))) (sym c.in-None.is) ∙ c.requires.before)

pub returns-in-Some : goal.returns-in-Some
returns-in-Some g c =
    let at = id_at (g.T.Ties.ties c.args.ties.now) in
    follow-none _ _ c.args.tops.now c.requires.tied c.args.id c.args.number c.in_ok-top.field-0.top (sym (sym (ap (option_map (λ (f : FoundTop). f.top)) c.in_ok-top.was) ∙ c.requires.found))
    (ap (λ o. option_map at (Some o)) (sym c.if-other-top.true) ∙ ap (option_map at) (sym c.in-Some.is) ∙ c.requires.before)

pub returns-in-Some-2 : goal.returns-in-Some-2
returns-in-Some-2 g c =
    let at = id_at (g.T.Ties.ties c.args.ties.now) in
    ap (option_map at) c.after_of.ensures
    ∙ follow-some _ _ c.args.tops.now c.requires.tied c.args.id c.args.number c.requires.absent c.in-Some-2.other (ap (option_map at) (sym c.in-Some-2.is) ∙ c.requires.before)
