use Rattle.std.proofs.Common.{sym, ap, ◌∙◌}
use Rattle.std.specs.Option.{option_map, option_map_or}
use Rattle.mt_lists.specs.declared.ties.Tie.{Tie}
use Rattle.mt_lists.specs.Lists.{without_row}
use Rattle.mt_lists.specs.Tables.{tie_of_entry, rows_of}
use Rattle.mt_lists.proofs.TableLaws.{rows-same, rows-taken}
use Rattle.mt_lists.proofs.entries.IndexMapUsizeEntryTies.take.Goals as goal

pub returns-in_err-entry-clause-rows : goal.returns-in_err-entry-clause-rows
returns-in_err-entry-clause-rows c =
    let rows = rows_of c.args.self.now in
    rows-same c.args.self.now c.swap_remove.new.self (let u = rw c.in_err-entry.was at c.swap_remove.ensures.unchanged in u)
    ∙ sym (ap (λ o. option_map_or (λ (t : Tie). without_row t.id rows) (option_map (tie_of_entry c.args.place) o) rows) (sym c.swap_remove.ensures.value ∙ c.in_err-entry.was))

pub returns-clause-rows : goal.returns-clause-rows
returns-clause-rows c =
    let rows = rows_of c.args.self.now in
    rows-taken c.args.self.now c.swap_remove.new.self c.args.place c.swap_remove.ensures.updates.0
    ∙ sym (ap (λ o. option_map_or (λ (t : Tie). without_row t.id rows) (option_map (tie_of_entry c.args.place) o) rows) (sym c.swap_remove.ensures.value ∙ c.in_ok-entry.was))
