use Rattle.std.proofs.Common.{◌≡◌, ◌-◌, ◌++◌, None, max, length, replicate, vec_len, ap, ◌∙◌}
use Rattle.mt_lists.specs.SlotLists.{lengthened}
use Rattle.mt_lists.specs.Slots.{tie_in, rows_in}
use Rattle.mt_lists.proofs.SlotLaws.{tie-wider, rows-wider, wide, lengthened-in}
use Rattle.mt_lists.proofs.TiedLaws.{tied-same}
use Rattle.mt_lists.proofs.slot_lists.SlotLists.reserve.Goals as goal

pub invariant_of-self-in_err-resize : goal.invariant_of-self-in_err-resize
invariant_of-self-in_err-resize c =
    tied-same (tie_in c.self.inside.ties.items) (tie_in c.resize.new.self.items) (rows_in c.self.inside.ties.items) (rows_in c.resize.new.self.items) c.self.inside.tops c.reserve.new.self
    (λ k. ap (λ s. tie_in s k) c.in_err-resize.ensures.items) (ap rows_in c.in_err-resize.ensures.items) c.reserve.ensures.entries c.self.invariant

-- there are as many slots as before, or this many
wider : (c : goal.In_ok-resize) → c.resize.new.self.items ≡ c.self.inside.ties.items ++ replicate (c.args.width - length c.self.inside.ties.items) None
wider c =
    wide c.self.inside.ties.items c.resize.new.self.items c.args.width (vec_len c.self.inside.ties) c.max.result c.self.inside.ties.ok.0 (c.max.ensures ∙ ap (λ n. max n c.args.width) c.len.ensures) c.in_ok-resize.ensures.items

rows-same : (c : goal.In_ok-resize) → rows_in c.resize.new.self.items ≡ rows_in c.self.inside.ties.items
rows-same c = ap rows_in (wider c) ∙ rows-wider c.self.inside.ties.items (c.args.width - length c.self.inside.ties.items)

pub invariant_of-self-2 : goal.invariant_of-self-2
invariant_of-self-2 c =
    tied-same (tie_in c.self.inside.ties.items) (tie_in c.resize.new.self.items) (rows_in c.self.inside.ties.items) (rows_in c.resize.new.self.items) c.self.inside.tops c.reserve.new.self
    (λ k. ap (λ s. tie_in s k) (wider c) ∙ tie-wider c.self.inside.ties.items (c.args.width - length c.self.inside.ties.items) k) (rows-same c) c.reserve.ensures.entries c.self.invariant

pub returns-clause-slots : goal.returns-clause-slots
returns-clause-slots c = lengthened-in c.self.inside.ties.items c.resize.new.self.items c.args.width (wider c) ∙ ap (λ s. lengthened c.args.width s.slots) c.self.view_is

pub returns-clause-rows : goal.returns-clause-rows
returns-clause-rows c = rows-same c ∙ ap (λ s. s.rows) c.self.view_is
