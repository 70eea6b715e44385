use Rattle.std.proofs.Common.{rules, sym, subst, ◌∙◌}
use Rattle.mt_client.specs.Finding.{AreOf}
use Rattle.mt_client.proofs.OpeningLaws.{needs_line, refused_some, finding_needs_few, finding_needs_parts, finding_needs_scope, rises_of}
use Rattle.mt_client.proofs.CallLaws.{handed_on, fault_as, fault_behind, fault_refused}
use Rattle.mt_client.proofs.parts.read_found.Goals as goal

pub returns-in_err-next_text-clause-fault : goal.returns-in_err-next_text-clause-fault
returns-in_err-next_text-clause-fault g c = handed_on _ _ _ c.from_residual.ensures.1 (fault_as (needs_line (refused_some (λ _ k. (_, _, k.all)))) (λ b. b) c.in_err-next_text.ensures.fault)

pub returns-then-is_beyond-clause-fault : goal.returns-then-is_beyond-clause-fault
returns-then-is_beyond-clause-fault g c =
    fault_refused c.in_ok-next_text.ensures.read.on.limit
    (finding_needs_few c.args.scope c.in-Some.count _ _ _ c.in_ok-next_text.ensures.read.came (search rules) (rw c.line-2.ensures at c.in-Some.ensures.count) c.in-Some.ensures.small c.if-is_beyond.ensures)

pub returns-in_err-parts-clause-fault : goal.returns-in_err-parts-clause-fault
returns-in_err-parts-clause-fault g c =
    handed_on _ _ _ c.from_residual-in_err-parts.ensures.1
    (fault_behind c.in_ok-next_text.ensures.read.on
    (finding_needs_parts c.args.scope c.in-Some.count _ _ _ c.in_ok-next_text.ensures.read.came (search rules) (rw c.line-2.ensures at c.in-Some.ensures.count) c.in-Some.ensures.small) (λ b. b) c.in_err-parts.ensures.fault)

pub returns-else-are_of-clause-fault : goal.returns-else-are_of-clause-fault
returns-else-are_of-clause-fault g c =
    fault_refused (c.in_ok-parts.ensures.parts.on.limit ∙ c.in_ok-next_text.ensures.read.on.limit)
    (finding_needs_scope c.args.scope c.in-Some.count _ c.in_ok-parts.parts.items _ _ _ c.in_ok-next_text.ensures.read.came (search rules) (rw c.line-2.ensures at c.in-Some.ensures.count) c.in-Some.ensures.small
    c.in_ok-parts.ensures.parts.came c.in_ok-parts.ensures.many c.in_ok-parts.ensures.shown (λ of. c.if-are_of.ensures (subst (AreOf c.args.scope) (sym c.as_slice.ensures.value) of)))

pub returns-then-are_of-clause-rising : goal.returns-then-are_of-clause-rising
returns-then-are_of-clause-rising g c = rises_of c.args.scope c.in_ok-parts.parts.items (subst (AreOf c.args.scope) c.as_slice.ensures.value c.if-are_of.ensures)
