use Rattle.std.proofs.Common.{◌≡◌, sym, subst, ◌∙◌}
use Rattle.indexmap.specs.IndexMap.{get}
use Rattle.mt_mounts.specs.Forest.{place_eq}
use Rattle.mt_mounts.specs.Stacks.{leads}
use Rattle.mt_mounts.proofs.PlaceLaws.{same_place}
use Rattle.mt_mounts.proofs.stacks.Stacks.begun.Goals as goal

pub returns-then-eq : goal.returns-then-eq
returns-then-eq c =
    let start = c.in-Some.start in
    let end = c.in-Some-reach_at.end in
    let here : end.place ≡ c.args.place = same_place end.place c.args.place (sym c.eq.ensures ∙ c.if-eq.true) in
    λ next x. subst (λ t. leads next (get place_eq c.args.self.now.starts) start.place 0 end.steps start.place t) here (x start.place end (sym c.reach_at-in-Some.ensures ∙ c.in-Some-reach_at.is))
