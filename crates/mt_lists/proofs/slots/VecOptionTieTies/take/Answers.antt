use Rattle.std.proofs.Common.{None, sym, ap, ◌∙◌}
use Rattle.std.specs.Option.{option_map_or}
use Rattle.mt_lists.specs.declared.ties.Tie.{Tie}
use Rattle.mt_lists.specs.Lists.{without_row}
use Rattle.mt_lists.specs.Slots.{rows_in}
use Rattle.mt_lists.proofs.SlotLaws.{rows-without, ids-set, ids-vacant}
use Rattle.mt_lists.proofs.slots.VecOptionTieTies.take.Goals as goal

pub returns-in_err-tie-clause-slots : goal.returns-in_err-tie-clause-slots
returns-in_err-tie-clause-slots c = sym (ids-vacant c.args.self.now.items c.args.place (sym c.tie.ensures ∙ c.in_err-tie.was))

pub returns-clause-rows : goal.returns-clause-rows
returns-clause-rows c =
    let rows = rows_in c.args.self.now.items in
    let there = sym c.tie.ensures ∙ c.in_ok-tie.was in
    rows-without c.args.self.now.items c.requires.apart c.args.place c.in_ok-tie.tie there ∙ sym (ap (λ o. option_map_or (λ (t : Tie). without_row t.id rows) o rows) there)

pub returns-clause-slots : goal.returns-clause-slots
returns-clause-slots c = ids-set c.args.self.now.items c.args.place None
