use Rattle.std.proofs.Common.{ℕ, List, sym, ap, ◌∙◌, subst, arith, div-le_self}
use Rattle.std.specs.List.Sorted.{IsNonDecreasing}
use Rattle.mt_skel.specs.Keyed.{among}
use Rattle.mt_peers.specs.Peers.{peering_of}
use Rattle.mt_peers.specs.Going.{loses_none}
use Rattle.mt_peers.proofs.ListedLaws.{seen}
use Rattle.mt_peers.proofs.GoingLaws.{local}
use Rattle.mt_peers.proofs.peers.Peers.is_local.Goals as goal

pub returns-clause-few : goal.returns-clause-few
returns-clause-few c h = let part = div-le_self c.len.result 8 in omega (arith, c.if-ids-len.false, part, c.len.ensures)

pub returns-clause-sorted : goal.returns-clause-sorted
returns-clause-sorted c h = subst IsNonDecreasing c.new-chosen.ensures (c.is_sorted.ensures c.if-not-is_sorted.false)

pub returns-clause-same : goal.returns-clause-same
returns-clause-same c h =
    let kept = seen c.self.view_is c.self.invariant in
    let ms = c.self.inside.members.rows in
    let ss = c.self.inside.slaves.rows in
    local (peering_of c.args.self.now) c.args.ids.now (kept.led c.if-not-self.false) ms ss kept.listed c.args.kind
    (ap (λ (t : List ℕ). loses_none c.args.kind ms ss (among t) c.args.ids.now) (sym c.new-chosen.ensures) ∙ sym c.loses_none.ensures ∙ h)
