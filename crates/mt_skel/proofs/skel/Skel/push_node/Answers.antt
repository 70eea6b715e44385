use Rattle.std.proofs.Common.{◌≡◌, ◌++◌, ◌∷◌, [], Some, ap, ◌∙◌, length, arith}
use Rattle.mt_skel.specs.Skeleton.{directory, with_dir}
use Rattle.mt_skel.specs.Nodes.{skeleton_with, IsKeptSkeleton}
use Rattle.mt_skel.specs.declared.skel.Node.{Node}
use Rattle.mt_skel.proofs.NodeLaws.{counted, dir_within}
use Rattle.mt_skel.proofs.IndexLaws.{child_kept}
use Rattle.mt_skel.proofs.skel.Skel.push_node.Goals.{After-unwrap}
use Rattle.mt_skel.proofs.skel.Skel.push_node.Goals as goal

pub push_child-requires : goal.push_child-requires
push_child-requires c = omega (arith, dir_within _ _ c.args.self.now c.args.parent c.self.view_is c.requires.there, c.self.invariant.indexed.sized)

-- one directory more
grown : (c : After-unwrap) → IsKeptSkeleton c.self.inside.filesystems.items c.push.new.self.items c.push_child.new.self
    × (skeleton_with c.self.inside.filesystems.items c.push.new.self.items c.self.inside.room ≡ with_dir c.args.self.now (record { fs = c.args.fs; path = (directory c.args.self.now c.args.parent).path ++ c.args.name ∷ [] }))
grown c =
    let node : Node = record { fs = c.args.fs; up = Some (record { dir = c.args.parent; name = c.args.name }) } in
    let pushed = rw c.unwrap.ensures at c.push.ensures.items in
    let place : c.len-dir.result ≡ length c.self.inside.nodes.items = omega (arith, c.len-dir.ensures, c.self.inside.nodes.ok) in
    child_kept c.push_child.new.self c.args.self.now c.args.parent c.args.fs c.len-dir.result c.args.name c.in_ok-copy.field-0 c.self.invariant c.self.view_is
    c.requires.there c.requires.same c.requires.absent c.in_ok-copy.ensures.copy place c.in_ok-push_child.ensures.length c.in_ok-push_child.ensures.child
    (pushed ∙ ap (λ l. l ++ node ∷ []) c.in_ok-reserve.ensures.items)

pub invariant_of-self-2 : goal.invariant_of-self-2
invariant_of-self-2 c = (grown c).0

pub returns-clause-done : goal.returns-clause-done
returns-clause-done c = ((grown c).1, omega (arith, c.len-dir.ensures, counted _ _ _ c.self.view_is, c.self.inside.nodes.ok))
