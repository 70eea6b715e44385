use Rattle.std.proofs.Common.{rules}
use Rattle.mt_import.proofs.WriterLaws.{group_told}
use Rattle.mt_import.proofs.writer.group_comment.Goals as goal

pub returns : goal.returns
returns c =
    group_told c.args.script.now c.as_slice-there.result.now c.as_slice-here.result.now c.comment.new.script c.args.there c.args.here (search rules) (search rules)
    c.in_ok-comment.ensures
