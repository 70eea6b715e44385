use Rattle.std.proofs.Common.{not, sym, ap, ◌∙◌}
use Rattle.mt_lists.proofs.RowLaws.{same_of}
use Rattle.mt_peers.specs.Loss.{heir}
use Rattle.mt_peers.proofs.settling.heir_of.Goals as goal

pub returns-then-eq-clause-heir : goal.returns-then-eq-clause-heir
returns-then-eq-clause-heir c old new told v few known =
    known ∙ ap (heir old new) (sym (same_of c.args.master c.args.known.now.master (ap not (sym c.if-eq.true ∙ c.eq.ensures))))
