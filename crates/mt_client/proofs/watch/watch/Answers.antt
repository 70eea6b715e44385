use Rattle.std.proofs.Common.{rules, refl, sym, ap, subst, ◌∙◌, inl, inr, [], ◌∷◌}
use Rattle.std.proofs.KnownBytes.{Keeps-refl}
use Rattle.std.proofs.lemmas.Option.{MatchOption-at_none, MatchOption-at_some}
use Rattle.mt_events.specs.Posts.{ended}
use Rattle.mt_client.specs.Calls.{WritesOn, AreRead}
use Rattle.mt_client.specs.declared.fault.ClientFault.TheVariants.{Output}
use Rattle.mt_client.proofs.CallLaws.{writes_still, out_as, line_text, handed_on, refused_of, pass_unprinted, pass_fault_printing, ask_no_memory, ask_fault_sending, ask_fault_passing}
use Rattle.mt_client.proofs.RelayLaws.{same_fault}
use Rattle.mt_lines.specs.Reading.{last_line}
use Rattle.mt_client.proofs.watch.watch.Goals as goal

pub returns-in_err-line-clause-fault : goal.returns-in_err-line-clause-fault
returns-in_err-line-clause-fault g c = handed_on _ _ _ c.from_residual.ensures.1 (ask_no_memory)

pub returns-in_err-send_request-clause-fault : goal.returns-in_err-send_request-clause-fault
returns-in_err-send_request-clause-fault g c =
    let f = c.in_err-send_request.field-0.0 in
    handed_on _ _ _ c.from_residual-in_err-send_request.ensures.1
    (ask_fault_sending (c.send_request.ensures.cause (search rules)) (λ other. c.in_err-send_request.ensures.kept (λ e. other (same_fault _ f Output refl e))) c.in_err-send_request.ensures.fault)

pub returns-then-not-branch-clause-refused : goal.returns-then-not-branch-clause-refused
returns-then-not-branch-clause-refused g c is = let p = c.send_request.ensures.passed (search rules) in record { refused = refused_of p; out = p.out; gone = inr (c.send_request.ensures.cause (search rules)) }

pub returns-in_err-parts-clause-fault : goal.returns-in_err-parts-clause-fault
returns-in_err-parts-clause-fault g c =
    rw (c.send_request.ensures.unprinted (search rules))
    (handed_on _ _ _ c.from_residual-in_err-parts.ensures.1 (ask_fault_passing (λ other. Keeps-refl _) (pass_unprinted (rw (c.send_request.ensures.unread (search rules)) at c.in_err-parts.ensures.fault))))

pub returns-in_err-print_line-clause-fault : goal.returns-in_err-print_line-clause-fault
returns-in_err-print_line-clause-fault g c =
    let read : AreRead (last_line c.read_found.new.lines ∷ []) c.args.lines.now c.read_found.new.lines = record {
      on = rw (c.send_request.ensures.unread (search rules)) at c.in_ok-parts.ensures.on;
      came = let r = rw (c.send_request.ensures.unread (search rules)) at (MatchOption-at_none {o = c.in_ok-parts.field-0} _ _ (search rules) c.in_ok-parts.ensures.found) in r.read;
    } in
    handed_on _ _ _ c.from_residual-in_err-print_line.ensures.1
    (ask_fault_passing (λ other. absurd (other c.in_err-print_line.ensures.part.0))
    (pass_fault_printing read (line_text _ _ c.line.ensures) (rw (c.send_request.ensures.unprinted (search rules)) at c.in_err-print_line.ensures.part)))

pub returns-in_default-clause-refused : goal.returns-in_default-clause-refused
returns-in_default-clause-refused g c is = record {
  refused = rw (c.send_request.ensures.unread (search rules)) at (MatchOption-at_none {o = c.in_ok-parts.field-0} _ _ (search rules) c.in_ok-parts.ensures.found);
  out = out_as (ap ended c.line.ensures) (rw (c.send_request.ensures.unprinted (search rules)) at c.in_ok-print_line.ensures.out);
  gone = inl (out_as (c.as_slice.ensures.value ∙ c.in_ok-line.ensures) (c.send_request.ensures.sent (search rules)));
}

pub returns-clause-found : goal.returns-clause-found
returns-clause-found g c = rw (c.send_request.ensures.unread (search rules)) at (MatchOption-at_some {o = c.in_ok-parts.field-0} _ _ c.in-Some.parts (search rules) c.in_ok-parts.ensures.found)

pub returns-clause-unrefused : goal.returns-clause-unrefused
returns-clause-unrefused g c = rw (c.send_request.ensures.unread (search rules)) at (MatchOption-at_some {o = c.in_ok-parts.field-0} _ _ c.in-Some.parts (search rules) c.in_ok-parts.ensures.unrefused)

pub returns-clause-sent : goal.returns-clause-sent
returns-clause-sent g c = out_as (c.as_slice.ensures.value ∙ c.in_ok-line.ensures) (c.send_request.ensures.sent (search rules))

pub returns-clause-on : goal.returns-clause-on
returns-clause-on g c = rw (c.send_request.ensures.unread (search rules)) at c.in_ok-parts.ensures.on

pub returns-clause-prints : goal.returns-clause-prints
returns-clause-prints g c = subst (λ o. WritesOn g.O.Output c.args.out.now o) (sym (c.send_request.ensures.unprinted (search rules))) (writes_still g.O.Output _)
