use Rattle.std.proofs.Common.{◌≡◌, ◌++◌, ap, sym, ◌∙◌, append-nil, map}
use Rattle.slab.specs.Slab.{entries}
use Rattle.mt_mounts.specs.Forest.{id_of}
use Rattle.mt_mounts.proofs.TableLaws.{distinct_ids}
use Rattle.mt_mounts.proofs.Ids.{ids_of, sorted_ids}
use Rattle.mt_mounts.proofs.table.Table.ids.Goals as goal

pub returns-clause-ids : goal.returns-clause-ids
returns-clause-ids c =
    let left = c.in-None.ensures.steps in
    let first = c.into_iter-mount-iterator.ensures.into_iter_gives ∙ c.iter-mount-items.ensures.rest in
    let all : c.loop-mount.ids.items ≡ ids_of (entries c.self.inside.slots) =
    sym (append-nil c.loop-mount.ids.items) ∙ ap (λ x. c.loop-mount.ids.items ++ ids_of x) (sym left.0) ∙ c.loop-mount.invariant.listed ∙ ap ids_of first in
    sorted_ids c.self.inside.slots c.loop-mount.ids.items c.sort.new.self.items (distinct_ids c.self.inside.slots c.self.inside.keys c.self.invariant.keyed) all c.in_ok-sort.ensures.permutation c.in_ok-sort.ensures.sorted
    ∙ ap (λ t. map id_of t.mounts) c.self.view_is
