use Rattle.std.proofs.Common.{◌≡◌, ℕ, List, subst, IfOk}
use Rattle.mt_peers.proofs.ListedLaws.{seen, slaves-listed}
use Rattle.mt_peers.proofs.peers.Peers.slaves.Goals as goal

pub returns-clause-slaves : goal.returns-clause-slaves
returns-clause-slaves c = subst (λ (xs : List ℕ). IfOk c.ids.result (λ found. found.items ≡ xs)) (slaves-listed _ _ _ (seen c.self.view_is c.self.invariant).listed c.args.group) c.ids.ensures.ids
