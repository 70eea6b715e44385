use Rattle.std.proofs.Common.{decimal, [], ◌∷◌, codes}
use Rattle.mt_info.specs.RowLine.{word_if}
use Rattle.mt_requests.specs.Printed.{sent_path}
use Rattle.mt_requests.proofs.ListingLaws.{three_groups}
use Rattle.mt_requests.proofs.print.push_setattr.Goals as goal

pub returns : goal.returns
returns c =
    three_groups c.args.line.now.items c.push_place.new.line.items c.push_word_if.new.line.items c.push_changes.new.line.items (decimal c.args.space ∷ sent_path c.args.path.now ∷ []) (word_if c.args.change.recursive (codes "rec")) _
    c.in_ok-push_place.ensures c.in_ok-push_word_if.ensures c.in_ok-push_changes.ensures
