use Rattle.std.proofs.Common.{◌++◌, ap, arith}
use Rattle.std.specs.List.{filter}
use Rattle.mt_propagate.specs.World.{world_view}
use Rattle.mt_book.specs.Parts.{is_part, space_at}
use Rattle.mt_book.proofs.parts.parts_of.Goals as goal

pub mounts-init : goal.mounts-init
mounts-init c = record {
  len = omega (arith, c.in_ok-parts.ensures.len);
  parts = λ k low. ap (λ l. l ++ filter (is_part (world_view c.args.old.now) (world_view c.args.new.now) (space_at c.args.numbers.now k)) c.args.ids.now) (c.in_ok-parts.ensures.parts k);
}
