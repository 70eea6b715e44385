use Rattle.std.proofs.Common.{rules, refl, inl, inr}
use Rattle.std.proofs.lemmas.Option.{MatchOption-at_some}
use Rattle.std.proofs.lemmas.Result.{IfErr-at_err, IfErr-weaker, on_ok_weaker}
use Rattle.mt_lines.specs.Reading.{last_line}
use Rattle.mt_client.proofs.TellingLaws.{unsaid_of, telling_first, told_whole, telling_stopped}
use Rattle.mt_client.proofs.CallLaws.{either, handed_on, ask_cut, talk_cut}
use Rattle.mt_client.proofs.MissingLaws.{telling_needs_opening, telling_needs_posts}
use Rattle.mt_client.proofs.RelayLaws.{part_second, same_fault}
use Rattle.mt_client.proofs.telling.tell.Goals as goal

pub returns-in_err-mirrors-clause-part : goal.returns-in_err-mirrors-clause-part
returns-in_err-mirrors-clause-part g c = telling_first c.args.scope _ _ c.watch.ensures.part

pub returns-in_err-mirrors-clause-broken : goal.returns-in_err-mirrors-clause-broken
returns-in_err-mirrors-clause-broken g c =
    let fault = c.in_err-mirrors.ensures.fault in
    handed_on _ _ _ c.from_residual.ensures.1 (inl (unsaid_of c.in_err-mirrors.field-0.0 _ _ _ fault.broken (λ other. fault.kept other)))

pub returns-in_err-mirrors-clause-connection : goal.returns-in_err-mirrors-clause-connection
returns-in_err-mirrors-clause-connection g c is u v = ask_cut (telling_needs_opening c.args.scope _) c.in_err-mirrors.ensures.fault (same_fault _ _ _ c.from_residual.ensures.1 is) u v

pub returns-in_err-mirrors-clause-output : goal.returns-in_err-mirrors-clause-output
returns-in_err-mirrors-clause-output g c is u = c.in_err-mirrors.ensures.fault.cause (same_fault _ _ _ c.from_residual.ensures.1 is) u

pub returns-in_default-clause-part : goal.returns-in_default-clause-part
returns-in_default-clause-part g c = telling_first c.args.scope _ _ c.watch.ensures.part

pub returns-in_default-clause-told : goal.returns-in_default-clause-told
returns-in_default-clause-told g c = let a = c.watch.ensures.refused (search rules) in inl (last_line c.watch.new.lines, a.refused, a.out.went, either (λ o. o.went) (λ b. b) a.gone)

pub returns : goal.returns
returns g c =
    let found = MatchOption-at_some {o = c.in_ok-mirrors.field-0} _ _ c.in-Some.mirrors (search rules) c.in_ok-mirrors.ensures.found in
    let unrefused = MatchOption-at_some {o = c.in_ok-mirrors.field-0} _ _ c.in-Some.mirrors (search rules) c.in_ok-mirrors.ensures.unrefused in
    let sent = MatchOption-at_some {o = c.in_ok-mirrors.field-0} _ _ c.in-Some.mirrors (search rules) c.in_ok-mirrors.ensures.sent in
    let same = MatchOption-at_some {o = c.in_ok-mirrors.field-0} _ _ c.in-Some.mirrors (search rules) c.in_ok-mirrors.ensures.unprinted in
    let on = c.in_ok-mirrors.ensures.on in
    record {
      told = on_ok_weaker c.tell_portions.result (λ h. inr (told_whole _ _ _ found sent h)) (rw same at c.tell_portions.ensures.told);
      broken = IfErr-weaker c.tell_portions.result _ _ (λ f q. telling_stopped found q) (rw same at c.tell_portions.ensures.broken);
      part = let p = c.tell_portions.ensures.part in (p.0, part_second _ _ _ _ _ sent.went p.1);
      connection = λ is. talk_cut on sent unrefused (telling_needs_posts c.args.scope c.in-Some.mirrors.items _ _ found unrefused) (IfErr-at_err _ is c.tell_portions.ensures.fault) refl;
      output = λ is u. let fault = IfErr-at_err _ is c.tell_portions.ensures.fault in rw same at (fault.cause refl u);
      fresh = search rules;
      reads = search rules;
      prints = search rules;
      limit = search rules;
    }
