use Rattle.std.proofs.lemmas.List.Elements.{same_from_all_zip}
use Rattle.mt_mounts.specs.declared.stacks.Stacks.{Stacks}
use Rattle.mt_mounts.proofs.StackLaws.{stacked_kept}
use Rattle.mt_mounts.proofs.stacks.Stacks.copy.Goals as goal

pub returns-clause-copy : goal.returns-clause-copy
returns-clause-copy c =
    let new : Stacks = record { ends = c.in_ok-clone.field-0; starts = c.in_ok-clone-2.field-0 } in
    λ next x. stacked_kept next c.args.self.now new
    (same_from_all_zip _ c.args.self.now.ends.entries c.in_ok-clone.field-0.entries c.in_ok-clone.ensures.cases (λ x y e. λ i. (e.0 i, e.1 i)))
    (same_from_all_zip _ c.args.self.now.starts.entries c.in_ok-clone-2.field-0.entries c.in_ok-clone-2.ensures.cases (λ x y e. λ i. (e.0 i, e.1 i)))
    x
