use Rattle.std.proofs.Common.{◌≡◌, None, IsTrue}
use Rattle.mt_skel.specs.Keyed.{rises}
use Rattle.mt_lines.specs.Reading.{fault_of}
use Rattle.mt_client.specs.Finding.{mirror_space}
use Rattle.mountctl.proofs.page.take_more.Given as goal

-- the reader of the connection has met no fault, and the tables rise by their namespaces
abbrev pub invariant-takes : goal.invariant-takes
invariant-takes g l = (fault_of l.lines ≡ None) × IsTrue (rises mirror_space l.mirrors.items)
