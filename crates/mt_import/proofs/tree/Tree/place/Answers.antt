use Rattle.std.proofs.Common.{rules, subst, sym}
use Rattle.mt_import.specs.Tree.{IsNextMount}
use Rattle.mt_import.proofs.TreeLaws.{waiting_within, mount_more, next_is}
use Rattle.mt_import.proofs.tree.Tree.place.Goals as goal

pub invariant_of-self-2 : goal.invariant_of-self-2
invariant_of-self-2 c =
    let next = next_is c.args.self.now.told.rows c.args.self.now.mounts c.args.number c.in_ok-mount.field-0 c.in-Ok-2.mount c.in-Ok-2.is c.in_ok-mount.ensures in
    mount_more c.self.inside.told.now.rows c.self.inside.mounts.items _ c.in-Ok-2.mount c.self.inside.left.items _ c.args.number (search rules)
    (subst (λ v. IsNextMount v.told.rows v.mounts c.args.number c.in-Ok-2.mount) (sym c.self.view_is) next)
    (search rules) (waiting_within c.self.inside.left.items c.args.number (search rules)) (search rules) c.self.invariant
