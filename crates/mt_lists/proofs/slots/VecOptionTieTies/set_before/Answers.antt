use Rattle.std.proofs.Common.{refl, sym, ◌∙◌}
use Rattle.mt_lists.proofs.SlotLaws.{rows-kept, ids-kept}
use Rattle.mt_lists.proofs.slots.VecOptionTieTies.set_before.Goals as goal

pub returns-in-Some-tie-clause-rows : goal.returns-in-Some-tie-clause-rows
returns-in-Some-tie-clause-rows c = rows-kept c.args.self.now.items c.in-Some.place c.in-Some-tie.tie _ (sym c.tie.ensures ∙ c.in-Some-tie.is) refl

pub returns-in-Some-tie-clause-slots : goal.returns-in-Some-tie-clause-slots
returns-in-Some-tie-clause-slots c = ids-kept c.args.self.now.items c.in-Some.place c.in-Some-tie.tie _ (sym c.tie.ensures ∙ c.in-Some-tie.is) refl
