use Rattle.std.proofs.Common.{sym, ap}
use Rattle.std.proofs.lemmas.Bool.{false≢true}
use Rattle.mt_skel.specs.Keyed.{among, without}
use Rattle.mt_lists.proofs.LogLaws.{alike-noted, alike-as}
use Rattle.mt_peers.specs.Peers.{Peer, state_at}
use Rattle.mt_peers.specs.Entries.{now_peers}
use Rattle.mt_peers.proofs.SinceLaws.{but_left}
use Rattle.mt_peers.proofs.peers.Peers.take_away.Goals as goal

pub invariant_of-self : goal.invariant_of-self
invariant_of-self c =
    let es = now_peers c.self.inside.entries.items in
    let ids = c.args.ids.now in
    let rest = without (λ (e : Peer). among ids e.mount) es in
    record {
      listed = c.take_out.ensures.listed;
      known =
          alike-as _ _ (state_at rest) _ (alike-noted _ ids _ _ (state_at es) (state_at rest) c.note_all.ensures.ids c.self.invariant.known (but_left es ids c.self.invariant.listed.rising))
          (λ i. ap (λ l. state_at l i) (sym c.take_out.ensures.peers));
      led = λ t. absurd (false≢true t);
    }
