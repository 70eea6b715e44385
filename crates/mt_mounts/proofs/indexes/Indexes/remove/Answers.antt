use Rattle.std.proofs.Common.{None, Some}
use Rattle.mt_mounts.specs.Indexes.{over}
use Rattle.mt_mounts.proofs.WrittenLaws.{without_written}
use Rattle.mt_mounts.proofs.IndexLaws.{rooted, stands_once, indexed_written}
use Rattle.mt_mounts.proofs.indexes.Indexes.remove.Goals as goal

pub returns-clause-indexed : goal.returns-clause-indexed
returns-clause-indexed c =
    let m = c.args.mount in
    λ ms r single there x. indexed_written ms _ c.args.self.now _ r single x m.id (Some m) None there (without_written ms r m.id) tt c.leave.ensures.places
    (c.uproot.ensures.rows (rooted ms c.args.self.now r x m.id (Some m) there))
    (c.leave-2.ensures.stacked (over ms) (stands_once ms r m there) x.stacked)
