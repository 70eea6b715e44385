use Rattle.std.proofs.Common.{◌≡◌, length}
use Rattle.std.specs.Prelude.{fold}
use Rattle.mt_what_if.specs.TableRows.{with_mount_option}
use Rattle.mt_what_if.proofs.table_row.attrs_told.Given as goal

abbrev pub invariant-options : goal.invariant-options
invariant-options l = fold with_mount_option l.attrs l.pieces ≡ fold with_mount_option l.initial.attrs l.initial.pieces

abbrev pub decreases-options : goal.decreases-options
decreases-options l = length l.pieces
