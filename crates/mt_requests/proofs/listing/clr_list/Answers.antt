use Rattle.std.proofs.Common.{[], ◌∷◌, ◌++◌, ◌∙◌}
use Rattle.mt_info.specs.Building.{behind}
use Rattle.mt_requests.specs.Printed.{words_there}
use Rattle.mt_requests.proofs.listing.clr_list.Goals as goal

pub returns : goal.returns
returns c =
    c.in_ok-push_listed.ensures
    ∙ (λ i. c.new-list.ensures.items i ++ behind 44 (words_there (
    (c.args.clr.ro, c.as_slice.ensures i)
    ∷ (c.args.clr.nosuid, c.as_slice-2.ensures i)
    ∷ (c.args.clr.nodev, c.as_slice-3.ensures i)
    ∷ (c.args.clr.noexec, c.as_slice-4.ensures i)
    ∷ (c.args.clr.nosymfollow, c.as_slice-5.ensures i)
    ∷ (c.args.clr.nodiratime, c.as_slice-6.ensures i)
    ∷ (c.args.clr.atime, c.as_slice-7.ensures i)
    ∷ [])))
