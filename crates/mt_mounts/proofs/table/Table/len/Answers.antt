use Rattle.std.proofs.Common.{ap, sym, ◌∙◌, length}
use Rattle.mt_mounts.proofs.SlotLaws.{length_table}
use Rattle.mt_mounts.proofs.TableLaws.{distinct_ids}
use Rattle.mt_mounts.proofs.table.Table.len.Goals as goal

pub returns : goal.returns
returns c = c.len.ensures ∙ sym (length_table c.self.inside.slots (distinct_ids c.self.inside.slots c.self.inside.keys c.self.invariant.keyed)) ∙ ap (λ t. length t.mounts) c.self.view_is
