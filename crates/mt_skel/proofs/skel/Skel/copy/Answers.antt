use Rattle.std.proofs.Common.{◌≡◌, arith}
use Rattle.std.proofs.lemmas.List.Elements.{same_from_all_zip}
use Rattle.mt_skel.proofs.NodeLaws.{sound}
use Rattle.mt_skel.proofs.skel.Skel.copy.Goals.{In_ok-copy}
use Rattle.mt_skel.proofs.skel.Skel.copy.Goals as goal

pub returns-in_err-clone-clause-sound : goal.returns-in_err-clone-clause-sound
returns-in_err-clone-clause-sound c = sound c.self.invariant.laid_out _ c.self.view_is

pub returns-in_err-clone-2-clause-sound : goal.returns-in_err-clone-2-clause-sound
returns-in_err-clone-2-clause-sound c = sound c.self.invariant.laid_out _ c.self.view_is

pub returns-in_err-copy-clause-sound : goal.returns-in_err-copy-clause-sound
returns-in_err-copy-clause-sound c = sound c.self.invariant.laid_out _ c.self.view_is

-- the lists of the copy
same_filesystems : (c : In_ok-copy) → c.in_ok-clone.field-0.items ≡ c.self.inside.filesystems.items
same_filesystems c = same_from_all_zip _ c.self.inside.filesystems.items c.in_ok-clone.field-0.items c.in_ok-clone.ensures.cases.0 (λ x y e. grind (arith, e))

same_nodes : (c : In_ok-copy) → c.in_ok-clone-2.field-0.items ≡ c.self.inside.nodes.items
same_nodes c = same_from_all_zip _ c.self.inside.nodes.items c.in_ok-clone-2.field-0.items c.in_ok-clone-2.ensures.cases.0 (λ x y e. grind (arith, e))

pub invariant_of-result : goal.invariant_of-result
invariant_of-result c =
    let a = (goal.at.invariant_of-result c).In_ok-copy in
    rw (same_filesystems a, same_nodes a, a.in_ok-copy.ensures.copy) c.self.invariant

pub returns-clause-copy : goal.returns-clause-copy
returns-clause-copy c =
    let a = (goal.at.returns-clause-copy c).In_ok-copy in
    rw (same_filesystems a, same_nodes a) c.self.view_is

pub returns-clause-sound : goal.returns-clause-sound
returns-clause-sound c = sound c.self.invariant.laid_out _ c.self.view_is
