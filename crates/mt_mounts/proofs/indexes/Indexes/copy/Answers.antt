use Rattle.std.proofs.lemmas.List.Elements.{same_from_all_zip}
use Rattle.mt_mounts.specs.Indexes.{over}
use Rattle.mt_mounts.proofs.IndexLaws.{indexed_same}
use Rattle.mt_mounts.proofs.indexes.Indexes.copy.Goals as goal

pub returns-clause-copy : goal.returns-clause-copy
returns-clause-copy c =
    λ ms x. indexed_same ms c.args.self.now _
    (same_from_all_zip _ c.args.self.now.places.entries c.in_ok-clone.field-0.entries c.in_ok-clone.ensures.cases (λ x y e. λ i. (e.0 i, e.1 i)))
    c.in_ok-copy.ensures.copy (c.in_ok-copy-2.ensures.copy (over ms)) x
