use Rattle.std.proofs.Common.{arith}
use Rattle.std.proofs.lemmas.Bool.Decides.{nat_tests}
use Rattle.mt_skel.proofs.NodeLaws.{counted}
use Rattle.mt_skel.proofs.skel.Skel.has_most_filesystems.Goals as goal

pub returns : goal.returns
returns c = grind (arith, nat_tests, c.len.ensures, c.room.ensures.room, c.self.inside.filesystems.ok, counted _ _ _ c.self.view_is)
