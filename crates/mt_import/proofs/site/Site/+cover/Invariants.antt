use Rattle.std.proofs.Common.{length}
use Rattle.mt_import.proofs.site.Site.+cover.Given as goal

abbrev pub decreases-cover : goal.decreases-cover
decreases-cover l = length l.covers.now
