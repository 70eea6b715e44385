use Rattle.std.proofs.Common.{sym, subst}
use Rattle.std.proofs.lemmas.Result.{IfOk-weaker, IfErr-weaker}
use Rattle.mt_client.specs.declared.block.Block.TheVariants.{Namespace, Post, Command}
use Rattle.mt_client.specs.Replies.{IsBlockOf}
use Rattle.mt_client.proofs.EndingLaws.{block_read, block_needs_line}
use Rattle.mt_client.proofs.CallLaws.{handed_on, fault_as, passes_as, passes_behind, pass_unprinted, pass_fault_inner}
use Rattle.mt_client.proofs.block.pass_block.Goals as goal

pub returns-in_err-next_text-clause-fault : goal.returns-in_err-next_text-clause-fault
returns-in_err-next_text-clause-fault g c = handed_on _ _ _ c.from_residual.ensures.1 (pass_unprinted (fault_as (block_needs_line c.args.block _) (λ b. b) c.in_err-next_text.ensures.fault))

pub returns-in-Namespace-clause-passed : goal.returns-in-Namespace-clause-passed
returns-in-Namespace-clause-passed g c =
    IfOk-weaker c.pass_part.result _ _ (λ behind p. passes_as (λ ls k. subst (λ b. IsBlockOf b behind ls) (sym c.in-Namespace.is) k) (passes_behind c.in_ok-next_text.ensures.read p)) c.pass_part.ensures.passed

pub returns-in-Namespace-clause-fault : goal.returns-in-Namespace-clause-fault
returns-in-Namespace-clause-fault g c =
    IfErr-weaker c.pass_part.result _ _ (λ f q. pass_fault_inner c.in_ok-next_text.ensures.read (block_read c.args.block Namespace (sym c.in-Namespace.is) c.in_ok-next_text.ensures.read.came) q) c.pass_part.ensures.fault

pub returns-in-Post-clause-passed : goal.returns-in-Post-clause-passed
returns-in-Post-clause-passed g c =
    IfOk-weaker c.pass_post.result _ _ (λ behind p. passes_as (λ ls k. subst (λ b. IsBlockOf b behind ls) (sym c.in-Post.is) k) (passes_behind c.in_ok-next_text.ensures.read p)) c.pass_post.ensures.passed

pub returns-in-Post-clause-fault : goal.returns-in-Post-clause-fault
returns-in-Post-clause-fault g c =
    IfErr-weaker c.pass_post.result _ _ (λ f q. pass_fault_inner c.in_ok-next_text.ensures.read (block_read c.args.block Post (sym c.in-Post.is) c.in_ok-next_text.ensures.read.came) q) c.pass_post.ensures.fault

pub returns-in-Command-clause-passed : goal.returns-in-Command-clause-passed
returns-in-Command-clause-passed g c =
    IfOk-weaker c.pass_command.result _ _ (λ behind p. passes_as (λ ls k. subst (λ b. IsBlockOf b behind ls) (sym c.in-Command.is) k) (passes_behind c.in_ok-next_text.ensures.read p)) c.pass_command.ensures.passed

pub returns-in-Command-clause-fault : goal.returns-in-Command-clause-fault
returns-in-Command-clause-fault g c =
    IfErr-weaker c.pass_command.result _ _ (λ f q. pass_fault_inner c.in_ok-next_text.ensures.read (block_read c.args.block Command (sym c.in-Command.is) c.in_ok-next_text.ensures.read.came) q) c.pass_command.ensures.fault
