use Rattle.std.proofs.Common.{rules, refl}
use Rattle.mt_lists.specs.declared.entries.Entry.{Entry}
use Rattle.mt_lists.proofs.TableLaws.{rows-given}
use Rattle.mt_lists.proofs.entries.IndexMapUsizeEntryTies.set_after.Goals as goal

pub returns-in-Some-get_mut-clause-rows : goal.returns-in-Some-get_mut-clause-rows
returns-in-Some-get_mut-clause-rows c =
    rows-given c.args.self.now _ c.in-Some.place c.in-Some-get_mut.entry.now (λ (y : Entry). record y { after = c.args.after }) (λ z. refl) (search rules) (search rules)
