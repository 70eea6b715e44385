use Rattle.std.proofs.lemmas.Bool.{false≢true}
use Rattle.std.proofs.lemmas.Cmp.{nat_eq_equiv}
use Rattle.std.proofs.lemmas.Option.{slice_get_within}
use Rattle.indexmap.proofs.CallerLemmas.{updates-with_value_at}
use Rattle.mt_lists.proofs.tops.write.Goals as goal

pub returns-in-Some-clause-top : goal.returns-in-Some-clause-top
returns-in-Some-clause-top c =
    (updates-with_value_at c.args.tops.now c.args.found.at c.args.top nat_eq_equiv c.get_index_mut.ensures.unique c.args.number c.args.found.top c.requires.there).0

pub returns-in_default-clause-top : goal.returns-in_default-clause-top
returns-in_default-clause-top c =
    absurd (false≢true (c.in_default.ensures.found.1 (slice_get_within c.args.tops.now.entries c.args.found.at _ c.requires.there)))
