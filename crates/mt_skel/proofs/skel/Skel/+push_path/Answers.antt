use Rattle.std.proofs.Common.{ℕ, ◌++◌, ◌∷◌, [], ap, sym, ◌∙◌, arith, append-nil, append_assoc}
use Rattle.mt_skel.specs.Escapes.{escaped}
use Rattle.mt_skel.proofs.ListLaws.{front_through, last_none, written_more}
use Rattle.mt_skel.proofs.NodeLaws.{IsBelow, dir_within, root_read, below_read}
use Rattle.mt_skel.proofs.skel.Skel.+push_path.Goals.{In-Some}
use Rattle.mt_skel.proofs.skel.Skel.+push_path.Goals as goal

pub index-requires : goal.index-requires
index-requires t c = omega (arith, dir_within _ _ c.args.self.now c.args.dir c.self.view_is c.requires, c.self.inside.nodes.ok)

pub returns-in_default-clause-text : goal.returns-in_default-clause-text
returns-in_default-clause-text t c =
    let within = dir_within _ _ c.args.self.now c.args.dir c.self.view_is c.requires in
    let root = root_read c.self.invariant.laid_out _ c.self.view_is _ _ within c.index.ensures c.in_default.is in
    rw (last_none _ c.args.count root.path) (sym (append-nil c.args.text.now.items))

below : (t : ℕ) (c : In-Some t) → IsBelow c.args.self.now c.args.dir c.in-Some.link
below t c = below_read c.self.invariant.laid_out _ c.self.view_is _ _ (dir_within _ _ c.args.self.now c.args.dir c.self.view_is c.requires) c.index.ensures _ c.in-Some.is

pub push_path-requires : goal.push_path-requires
push_path-requires t c = (omega (arith, c.decreases, c.if-count-eq0.false), (below t (goal.at.push_path-requires t c).In-Some).there)

pub returns-clause-text : goal.returns-clause-text
returns-clause-text t c =
    let written = c.in_ok-push_escaped.ensures.text ∙ ap (λ w. c.push.new.self.items ++ escaped w) c.bytes.ensures.bytes ∙ ap (λ w. w ++ escaped c.in-Some.link.name) c.in_ok-push.ensures.items ∙ append_assoc c.push_path.new.text.items (47 ∷ []) (escaped c.in-Some.link.name) in
    written_more (λ n. 47 ∷ escaped n) _ _ _ c.args.count _ _ _ (below t (goal.at.returns-clause-text t c).In-Some).path (omega (arith, c.if-count-eq0.false)) c.in_ok-push_path.ensures.text written

pub returns-in_err-push_path-clause-kept : goal.returns-in_err-push_path-clause-kept
returns-in_err-push_path-clause-kept t c = c.push_path.ensures.kept

pub returns-in_err-push-clause-kept : goal.returns-in_err-push-clause-kept
returns-in_err-push-clause-kept t c =
    let kept = c.push_path.ensures.kept in
    (kept.0, c.in_err-push.ensures.items ∙ kept.1)

pub returns-in_err-push_escaped-clause-kept : goal.returns-in_err-push_escaped-clause-kept
returns-in_err-push_escaped-clause-kept t c =
    front_through _ _ _ (front_through _ _ _ c.push_path.ensures.kept (47 ∷ [], c.in_ok-push.ensures.items)) c.push_escaped.ensures.kept

pub returns-clause-kept : goal.returns-clause-kept
returns-clause-kept t c =
    front_through _ _ _ (front_through _ _ _ c.push_path.ensures.kept (47 ∷ [], c.in_ok-push.ensures.items)) c.push_escaped.ensures.kept
