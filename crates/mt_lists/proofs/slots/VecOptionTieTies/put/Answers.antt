use Rattle.std.proofs.Common.{Some}
use Rattle.mt_lists.proofs.SlotLaws.{rows-put, ids-set}
use Rattle.mt_lists.proofs.slots.VecOptionTieTies.put.Goals as goal

pub returns-clause-rows : goal.returns-clause-rows
returns-clause-rows c = rows-put c.args.self.now.items c.args.place c.args.tie c.requires.place c.requires.absent

pub returns-clause-slots : goal.returns-clause-slots
returns-clause-slots c = ids-set c.args.self.now.items c.args.place (Some c.args.tie)
