use Rattle.std.proofs.Common.{◌++◌, ◌∷◌, [], sym, ap, ◌∙◌, unwrap_or, option_copied}
use Rattle.std.specs.List.{flat_map}
use Rattle.mt_skel.specs.Escapes.{escaped}
use Rattle.mt_info.proofs.WordLaws.{text_escaped}
use Rattle.mt_info.proofs.points.push_above.Goals as goal

pub returns-clause-text : goal.returns-clause-text
returns-clause-text c =
    let old = c.args.text.now.items in
    c.in_ok-push_escaped.ensures.text ∙ ap (λ t. old ++ escaped t) c.text.ensures.text ∙ ap (λ t. old ++ t) (text_escaped c.in-Some.point.now)
    ∙ ap (λ o. old ++ flat_map (λ n. 47 ∷ escaped n) (unwrap_or (option_copied o) [])) (sym c.in-Some.is)
