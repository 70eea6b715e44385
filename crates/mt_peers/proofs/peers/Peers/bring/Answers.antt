use Rattle.std.proofs.Common.{Some, sym, ap, ◌∙◌}
use Rattle.mt_peers.proofs.SinceLaws.{same_state}
use Rattle.mt_peers.proofs.EachLaws.{given-same}
use Rattle.mt_peers.proofs.peers.Peers.bring.Goals as goal

pub returns-then-not-is_changed-clause-peers : goal.returns-then-not-is_changed-clause-peers
returns-then-not-is_changed-clause-peers c =
    let same = same_state c.args.entry.now (sym c.is_changed.ensures ∙ c.if-not-is_changed.true) in
    sym (given-same c.args.entry.now.mount c.args.entry.now.state c.args.self.now.peers c.allocator-alloc.ensures.rising (c.requires.there ∙ ap (λ s. Some s) same))
