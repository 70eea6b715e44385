use Rattle.std.proofs.Common.{length}
use Rattle.mt_import.proofs.spaces.+make_spaces.Given as goal

abbrev pub decreases-make_spaces : goal.decreases-make_spaces
decreases-make_spaces l = length l.spaces.now
