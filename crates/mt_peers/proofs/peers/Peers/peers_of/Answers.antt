use Rattle.std.proofs.Common.{ℕ, List, ap, sym, subst, ◌∙◌}
use Rattle.std.specs.List.Sorted.{IsPermutation}
use Rattle.std.proofs.lemmas.List.Sorted.{IsPermutation-refl}
use Rattle.mt_lists.specs.Lists.{first}
use Rattle.mt_peers.specs.Peers.{members}
use Rattle.mt_peers.specs.Coming.{members_from}
use Rattle.mt_peers.proofs.ComingLaws.{coming-first}
use Rattle.mt_peers.proofs.ListedLaws.{seen, members-listed}
use Rattle.mt_peers.proofs.peers.Peers.peers_of.Goals as goal

pub returns : goal.returns
returns c =
    let es = c.args.self.now.peers in
    let listed = (seen c.self.view_is c.self.invariant).listed in
    let all = ap (members_from es) (c.first.ensures.first ∙ ap first (members-listed _ _ _ listed c.args.group)) ∙ coming-first es c.args.group listed.rising in
    subst (λ (xs : List ℕ). IsPermutation (members es c.args.group) xs) (sym all) (IsPermutation-refl (members es c.args.group))
