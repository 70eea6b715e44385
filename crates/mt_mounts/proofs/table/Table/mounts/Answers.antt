use Rattle.std.proofs.Common.{◌≡◌, ◌++◌, ap, sym, ◌∙◌, append-nil, rules}
use Rattle.std.proofs.lemmas.Fn.{always_returns_same}
use Rattle.slab.specs.Slab.{entries}
use Rattle.mt_mounts.specs.Forest.{id_of}
use Rattle.mt_mounts.proofs.SlotLaws.{vals}
use Rattle.mt_mounts.proofs.TableLaws.{distinct_ids}
use Rattle.mt_mounts.proofs.Ids.{sorted_mounts}
use Rattle.mt_mounts.proofs.table.Table.mounts.Goals as goal

pub returns-clause-mounts : goal.returns-clause-mounts
returns-clause-mounts c =
    let left = c.in-None.ensures.steps in
    let first = c.into_iter-mount-iterator.ensures.into_iter_gives ∙ c.iter-mount-items.ensures.rest in
    let all : c.loop-mount.mounts.items ≡ vals (entries c.self.inside.slots) =
    sym (append-nil c.loop-mount.mounts.items) ∙ ap (λ x. c.loop-mount.mounts.items ++ vals x) (sym left.0) ∙ c.loop-mount.invariant.listed ∙ ap vals first in
    let sorted = c.sort_unstable_by_key.ensures.sorted id_of (always_returns_same _ (λ a r. r ≡ id_of a.0.now) _ (λ a r q k. search rules)) in
    sorted_mounts c.self.inside.slots c.loop-mount.mounts.items c.sort_unstable_by_key.new.self.items (distinct_ids c.self.inside.slots c.self.inside.keys c.self.invariant.keyed) all c.sort_unstable_by_key.ensures.permutation sorted
    ∙ ap (λ t. t.mounts) c.self.view_is
