use Rattle.std.proofs.Common.{Result, subst}
use Rattle.mt_skel.specs.declared.fault.Fault.{Fault}
use Rattle.mt_session.specs.declared.shared_answer.Portion.{Portion}
use Rattle.mt_session.specs.SharedServing.{IsPortion}
use Rattle.mt_session.proofs.SharedFollowLaws.{take_refused}
use Rattle.mt_session.proofs.shared_answer.Shared.answer_take.Goals as goal

pub returns-in-Err : goal.returns-in-Err
returns-in-Err g c =
    let s' = c.take_posts.new.session in
    take_refused c.args.session.now s' c.args.most c.in-Err.fault _ _
    (subst (λ (r : Result Portion Fault). IsPortion c.args.session.now.own c.args.most r s'.own s'.sight.seen) c.in-Err.is c.take_posts.ensures.portion)
    c.take_posts.ensures.sight c.refusal.ensures.lost c.refusal.ensures.others
