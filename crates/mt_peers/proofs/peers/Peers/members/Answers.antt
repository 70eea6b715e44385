use Rattle.std.proofs.Common.{◌≡◌, ℕ, List, subst, IfOk}
use Rattle.mt_peers.proofs.ListedLaws.{seen, members-listed}
use Rattle.mt_peers.proofs.peers.Peers.members.Goals as goal

pub returns-clause-members : goal.returns-clause-members
returns-clause-members c = subst (λ (xs : List ℕ). IfOk c.ids.result (λ found. found.items ≡ xs)) (members-listed _ _ _ (seen c.self.view_is c.self.invariant).listed c.args.group) c.ids.ensures.ids
