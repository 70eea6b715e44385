use Rattle.std.proofs.Common.{◌≡◌, ◌++◌, map, drop}
use Rattle.mt_world.specs.declared.row.TableRow.{TableRow}
use Rattle.mt_what_if.proofs.scene.devices_of.Given as goal

-- the devices added, and those to come
abbrev pub invariant-rows : goal.invariant-rows
invariant-rows l = l.devices.items ++ map (λ (r : TableRow). r.device) (drop l.row-index l.rows) ≡ map (λ (r : TableRow). r.device) l.rows
