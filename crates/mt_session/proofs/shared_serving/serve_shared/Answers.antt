use Rattle.mt_session.proofs.SharedLineLaws.{all_served}
use Rattle.mt_session.proofs.shared_serving.serve_shared.Goals as goal

pub returns-clause-served : goal.returns-clause-served
returns-clause-served g c =
    let e = c.serve_lines-end in
    all_served _ _ (_, c.args.session.now) (e.new.place, e.new.session) _ _ e.result _ c.requires.none e.ensures.served c.leave.ensures.left c.leave.ensures.sight
