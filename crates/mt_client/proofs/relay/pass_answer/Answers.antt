use Rattle.std.proofs.Common.{Bool, sym, subst}
use Rattle.std.proofs.lemmas.Result.{IfOk-weaker, IfErr-weaker}
use Rattle.mt_client.specs.Reading.{NoneFirst, known_lines}
use Rattle.mt_client.specs.Replies.{IsAnswer}
use Rattle.mt_client.proofs.EndingLaws.{heads}
use Rattle.mt_client.proofs.CallLaws.{passes_as, pass_fault_of}
use Rattle.mt_client.proofs.relay.pass_answer.Goals as goal

pub returns-in-Done : goal.returns-in-Done
returns-in-Done g c =
    let same = heads c.args.form c.in-Done.is in
    record {
      passed = IfOk-weaker c.pass_headed.result _ _ (λ told p. passes_as (λ ls h. subst (λ K. K ls told) same h) p) c.pass_headed.ensures.passed;
      fault = IfErr-weaker c.pass_headed.result _ _ (λ f q. pass_fault_of (λ none. subst (λ K. NoneFirst (λ ls. (told : Bool) × K ls told) (known_lines c.args.lines.now)) same none) q) c.pass_headed.ensures.fault;
    }

pub returns-in-Followed-clause-fault : goal.returns-in-Followed-clause-fault
returns-in-Followed-clause-fault g c = IfErr-weaker c.pass_followed.result _ _ (λ f q. pass_fault_of (λ none. subst (λ k. NoneFirst (λ ls. (told : Bool) × IsAnswer k ls told) (known_lines c.args.lines.now)) (sym c.in-Followed.is) none) q) c.pass_followed.ensures.fault
