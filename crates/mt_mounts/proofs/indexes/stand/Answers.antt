use Rattle.std.proofs.Common.{cond, Some, ap, ◌∙◌}
use Rattle.indexmap.specs.IndexMap.{get}
use Rattle.mt_mounts.specs.Forest.{place_eq}
use Rattle.mt_mounts.proofs.PlaceLaws.{turned_place}
use Rattle.mt_mounts.proofs.indexes.stand.Goals as goal

pub returns-clause-places : goal.returns-clause-places
returns-clause-places c =
    let u = rw c.unwrap.ensures at c.insert.ensures.updates in
    λ p. u.0 p ∙ ap (λ b. cond b (Some c.args.id) (get place_eq c.args.places.now p)) (turned_place c.args.place p)
