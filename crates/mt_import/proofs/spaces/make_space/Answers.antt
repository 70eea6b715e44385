use Rattle.std.proofs.Common.{rules, nat_lt, decimal, codes}
use Rattle.mt_import.proofs.CommandLaws.{four_pushed}
use Rattle.mt_import.specs.Script.{table_comment}
use Rattle.mt_import.specs.Slots.{stage}
use Rattle.mt_import.specs.Spaces.{mounts_made, copied_if, locked_if, space_text}
use Rattle.mt_import.specs.Telling.{has_locks}
use Rattle.mt_import.proofs.spaces.make_space.Goals as goal

pub returns : goal.returns
unfolding space_text
returns c =
    let of = c.args.space.now in
    let groups = c.args.groups.now.all in
    four_pushed c.args.script.now c.table_comment.new.script c.copy_for.new.script c.make_mounts.new.script c.lock_copy.new.script
    (table_comment of.tree.table (codes " is namespace ") (decimal of.number)) (copied_if (nat_lt 1 of.original)) (mounts_made groups (decimal of.original) stage of)
    (locked_if (has_locks of) (decimal of.original))
    (search rules) (search rules) (search rules) (search rules)
