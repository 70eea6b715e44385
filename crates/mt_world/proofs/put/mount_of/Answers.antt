use Rattle.std.proofs.Common.{sym, ◌∙◌, refl}
use Rattle.std.specs.Option.{option_copied}
use Rattle.mt_world.proofs.DirectoryLaws.{stands_later}
use Rattle.mt_world.proofs.put.mount_of.Goals as goal

pub returns-in-Ok-2-clause-made : goal.returns-in-Ok-2-clause-made
returns-in-Ok-2-clause-made c = record {
  numbered = sym c.is_numbered.ensures ∙ c.if-not-is_numbered.false;
  id = refl;
  space = refl;
  place = stands_later c.place_of.new.skel c.root_of.new.skel c.args.row.now (option_copied c.args.above) c.in-Ok.place c.in_ok-root.ensures.grown (rw c.in-Ok.is at c.in_ok-place.ensures.stands);
  root = rw c.in-Ok-2.is at c.in_ok-root.ensures.made;
  attrs = refl;
}
