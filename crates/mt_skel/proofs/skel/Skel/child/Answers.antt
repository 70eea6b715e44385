use Rattle.mt_skel.proofs.IndexLaws.{child_there}
use Rattle.mt_skel.proofs.skel.Skel.child.Goals as goal

pub returns-clause-there : goal.returns-clause-there
returns-clause-there c =
    child_there c.self.inside.filesystems.items c.self.inside.nodes.items c.self.inside.children c.args.self.now c.self.invariant c.self.view_is c.child.result c.args.dir c.args.name.now c.child.ensures
