use Rattle.mt_client.proofs.CallLaws.{appended_line, handed_on, fault_behind}
use Rattle.mt_client.proofs.RelayLaws.{so_many_cut}
use Rattle.mt_client.proofs.posts.push_lines.Goals as goal

pub returns-in_err-next_text-clause-fault : goal.returns-in_err-next_text-clause-fault
returns-in_err-next_text-clause-fault g c =
    let h = c.lines.invariant.came in
    handed_on _ _ _ c.from_residual.ensures.1 (fault_behind h.2.on (so_many_cut c.lines._line c.args.count _ _ (h.0, h.1, h.2.came) c.lines-test.true) (λ b. b) c.in_err-next_text.ensures.fault)

pub lines-preserved : goal.lines-preserved
lines-preserved g c = record { came = appended_line c.lines._line _ _ _ _ _ _ _ c.lines.invariant.came c.in_ok-next_text.ensures.read (rw c.line.ensures at c.in_ok-push_line.ensures) }
