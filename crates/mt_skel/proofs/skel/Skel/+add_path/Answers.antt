use Rattle.std.proofs.Common.{ℕ, ◌∷◌, [], sym, arith, append-nil, append_assoc}
use Rattle.mt_skel.proofs.ListLaws.{last_none, last_more}
use Rattle.mt_skel.proofs.NodeLaws.{IsBelow, dir_within, root_read, below_read}
use Rattle.mt_skel.proofs.skel.Skel.+add_path.Goals.{In-Some}
use Rattle.mt_skel.proofs.skel.Skel.+add_path.Goals as goal

pub index-requires : goal.index-requires
index-requires t c = omega (arith, dir_within _ _ c.args.self.now c.args.dir c.self.view_is c.requires, c.self.inside.nodes.ok)

pub returns-in_default : goal.returns-in_default
returns-in_default t c =
    let within = dir_within _ _ c.args.self.now c.args.dir c.self.view_is c.requires in
    let root = root_read c.self.invariant.laid_out _ c.self.view_is _ _ within c.index.ensures c.in_default.is in
    rw (last_none _ c.args.count root.path) (sym (append-nil c.args.path))

below : (t : ℕ) (c : In-Some t) → IsBelow c.args.self.now c.args.dir c.in-Some.link
below t c = below_read c.self.invariant.laid_out _ c.self.view_is _ _ (dir_within _ _ c.args.self.now c.args.dir c.self.view_is c.requires) c.index.ensures _ c.in-Some.is

pub add_path-requires : goal.add_path-requires
add_path-requires t c = (omega (arith, c.decreases, c.if-count-eq0.false), (below t c).there)

pub returns : goal.returns
returns t c =
    let more = last_more _ _ _ c.args.count (below t (goal.at.returns t c).In-Some).path (omega (arith, c.if-count-eq0.false)) in
    rw (more, c.in_ok-names.ensures, c.in_ok-above.ensures) (append_assoc c.args.path _ (c.in-Some.link.name ∷ []))
