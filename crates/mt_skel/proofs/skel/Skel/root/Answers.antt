use Rattle.std.proofs.lemmas.Bool.{lt-ltb}
use Rattle.std.proofs.lemmas.Option.{slice_get_within}
use Rattle.mt_skel.proofs.NodeLaws.{root_place, root_number}
use Rattle.mt_skel.proofs.skel.Skel.root.Goals as goal

pub returns-clause-root : goal.returns-clause-root
returns-clause-root c = root_number c.self.invariant.laid_out _ c.self.view_is _ _ c.requires c.index.ensures

pub returns-clause-there : goal.returns-clause-there
returns-clause-there c = lt-ltb _ _ (slice_get_within _ _ _ (root_place c.self.invariant.laid_out _ c.self.view_is c.args.fs c.index.result.now c.requires c.index.ensures))
