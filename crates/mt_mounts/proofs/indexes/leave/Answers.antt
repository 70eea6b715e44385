use Rattle.std.proofs.Common.{cond, None, ap, ◌∙◌, sym, false}
use Rattle.std.specs.Option.{option_map_or}
use Rattle.indexmap.specs.IndexMap.{get}
use Rattle.mt_mounts.specs.Forest.{place_eq}
use Rattle.mt_mounts.proofs.PlaceLaws.{turned_place}
use Rattle.mt_mounts.proofs.indexes.leave.Goals as goal

pub returns-in-Some-clause-places : goal.returns-in-Some-clause-places
returns-in-Some-clause-places c =
    λ p. c.swap_remove.ensures.updates.0 p
    ∙ ap (λ b. cond b None (get place_eq c.args.places.now p)) (turned_place c.in-Some.place p ∙ ap (λ o. option_map_or (place_eq p) o false) (sym c.in-Some.is))
