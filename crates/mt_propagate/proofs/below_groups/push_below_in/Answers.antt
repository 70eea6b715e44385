use Rattle.std.proofs.Common.{ap, ◌∙◌}
use Rattle.mt_skel.specs.Keyed.{among}
use Rattle.mt_propagate.proofs.below_groups.push_below_in.Goals as goal

pub returns-clause-below : goal.returns-clause-below
returns-clause-below c g i e b on =
    c.in_ok-push_those_in.ensures.those i (ap (λ xs. among xs i) c.deref.ensures.value ∙ c.in_ok-push_all_below.ensures.below g i e b) on
