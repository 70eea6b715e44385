use Rattle.mt_requests.specs.Printed.{said_set, said_clr, said_prop}
use Rattle.mt_requests.proofs.ListingLaws.{three_groups}
use Rattle.mt_requests.proofs.listing.push_changes.Goals as goal

pub returns : goal.returns
returns c =
    three_groups c.args.line.now.items c.push_set.new.line.items c.push_clr.new.line.items c.push_prop.new.line.items (said_set c.args.change.set) (said_clr c.args.change.clr) (said_prop c.args.change.prop)
    c.in_ok-push_set.ensures c.in_ok-push_clr.ensures c.in_ok-push_prop.ensures
