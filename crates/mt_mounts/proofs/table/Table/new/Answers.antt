use Rattle.mt_mounts.specs.Seats.{parent_of, own_space}
use Rattle.mt_mounts.proofs.TableLaws.{table_none, keyed_none}
use Rattle.mt_mounts.proofs.SeatLaws.{beside_none}
use Rattle.mt_mounts.proofs.table.Table.new.Goals as goal

pub invariant_of-result : goal.invariant_of-result
invariant_of-result c = record {
  keyed = keyed_none c.new.result c.new-2.result c.new.ensures.empty c.new-2.ensures.empty;
  children = beside_none parent_of c.new.result c.new-3.result c.new.ensures.empty c.new.ensures.capacity c.new-3.ensures.rows c.new-3.ensures.slots;
  spaces = beside_none own_space c.new.result c.new-4.result c.new.ensures.empty c.new.ensures.capacity c.new-4.ensures.rows c.new-4.ensures.slots;
}

pub returns : goal.returns
returns c = table_none c.new.result c.new.ensures.empty
