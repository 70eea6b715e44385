use Rattle.std.proofs.Common.{ap, ◌∙◌}
use Rattle.mt_skel.specs.Keyed.{put}
use Rattle.mt_lists.specs.Lists.{listed_id}
use Rattle.mt_lists.specs.Tables.{rows_of}
use Rattle.mt_lists.proofs.TableLaws.{rows-put}
use Rattle.mt_lists.proofs.entries.IndexMapUsizeEntryTies.put.Goals as goal

pub returns-clause-rows : goal.returns-clause-rows
returns-clause-rows c =
    rows-put c.args.self.now c.insert.new.self c.args.place _ (let u = rw c.unwrap.ensures at c.insert.ensures.updates in u.0)
    ∙ ap (λ i. put listed_id (record { id = i; number = c.args.tie.number }) (rows_of c.args.self.now)) c.requires.place
