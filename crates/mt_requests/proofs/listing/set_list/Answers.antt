use Rattle.std.proofs.Common.{[], ◌∷◌, ◌++◌, ◌∙◌}
use Rattle.mt_info.specs.Building.{behind}
use Rattle.mt_requests.specs.Printed.{words_there}
use Rattle.mt_requests.proofs.listing.set_list.Goals as goal

pub returns : goal.returns
returns c =
    c.in_ok-push_listed.ensures
    ∙ (λ i. c.new-list.ensures.items i ++ behind 44 (words_there (
    (c.args.set.ro, c.as_slice.ensures i)
    ∷ (c.args.set.nosuid, c.as_slice-2.ensures i)
    ∷ (c.args.set.nodev, c.as_slice-3.ensures i)
    ∷ (c.args.set.noexec, c.as_slice-4.ensures i)
    ∷ (c.args.set.nosymfollow, c.as_slice-5.ensures i)
    ∷ (c.args.set.nodiratime, c.as_slice-6.ensures i)
    ∷ (c.args.set.relatime, c.as_slice-7.ensures i)
    ∷ (c.args.set.noatime, c.as_slice-8.ensures i)
    ∷ (c.args.set.strictatime, c.as_slice-9.ensures i)
    ∷ [])))
