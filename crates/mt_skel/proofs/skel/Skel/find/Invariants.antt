use Rattle.std.proofs.Common.{◌≡◌, Some, take, slice_get}
use Rattle.mt_skel.proofs.skel.Skel.find.Given as goal

abbrev pub invariant-loop-name : goal.invariant-loop-name
invariant-loop-name l = slice_get l.self.directories l.here ≡ Some (record { fs = l.fs; path = take l.name-index l.path })
