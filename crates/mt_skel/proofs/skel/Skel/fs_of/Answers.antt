use Rattle.std.proofs.Common.{arith}
use Rattle.mt_skel.proofs.NodeLaws.{dir_within, fs_read, fs_there}
use Rattle.mt_skel.proofs.skel.Skel.fs_of.Goals as goal

pub index-requires : goal.index-requires
index-requires c = omega (arith, dir_within _ _ c.args.self.now c.args.dir c.self.view_is c.requires, c.self.inside.nodes.ok)

pub returns-clause-fs : goal.returns-clause-fs
returns-clause-fs c =
    fs_read c.self.invariant.laid_out _ c.self.view_is _ _ (dir_within _ _ c.args.self.now c.args.dir c.self.view_is c.requires) c.index.ensures

pub returns-clause-there : goal.returns-clause-there
returns-clause-there c =
    let within = dir_within _ _ c.args.self.now c.args.dir c.self.view_is c.requires in
    rw (fs_read c.self.invariant.laid_out _ c.self.view_is _ _ within c.index.ensures, ← c.self.view_is) (fs_there _ _ c.self.invariant.laid_out _ within)
