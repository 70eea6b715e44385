use Rattle.std.proofs.Common.{length}
use Rattle.mt_world.proofs.directory.+make_directory.Given as goal

abbrev pub decreases-make_directory : goal.decreases-make_directory
decreases-make_directory l = length l.path.now
