use Rattle.std.proofs.Common.{length}
use Rattle.mt_trace.proofs.walking.Lookup.walk_to_link.Given as goal

abbrev pub decreases-names : goal.decreases-names
decreases-names l = length l.names
