use Rattle.std.proofs.Common.{rules, refl, ◌++◌, inl, inr}
use Rattle.std.proofs.lemmas.Option.{MatchOption-at_some}
use Rattle.std.proofs.lemmas.Result.{IfErr-at_err, IfErr-weaker}
use Rattle.mt_lines.specs.Reading.{last_line}
use Rattle.mt_events.specs.Posts.{ended}
use Rattle.mt_events.specs.declared.opening.Scope.TheVariants.{All}
use Rattle.mt_client.specs.Reading.{known_lines}
use Rattle.mt_client.specs.Finding.{watch_text}
use Rattle.mt_client.specs.Effects.{taking_text}
use Rattle.mt_client.proofs.TellingLaws.{unsaid_of}
use Rattle.mt_client.proofs.CallLaws.{either, out_both, handed_on, first_asked, more_asked}
use Rattle.mt_client.proofs.MissingLaws.{answer_later}
use Rattle.mt_client.proofs.RelayLaws.{part_first, part_second, broken_later, same_fault}
use Rattle.mt_client.proofs.effects.tell_effects.Goals as goal

pub returns-in_err-mirrors-clause-part : goal.returns-in_err-mirrors-clause-part
returns-in_err-mirrors-clause-part g c = part_first (ended (watch_text All)) (ended c.args.line.now ++ ended taking_text) _ _ c.watch.ensures.part

pub returns-in_err-mirrors-clause-broken : goal.returns-in_err-mirrors-clause-broken
returns-in_err-mirrors-clause-broken g c =
    let fault = c.in_err-mirrors.ensures.fault in
    handed_on _ _ _ c.from_residual.ensures.1 (inl (unsaid_of c.in_err-mirrors.field-0.0 _ _ _ fault.broken (λ other. fault.kept other)))

pub returns-in_err-mirrors-clause-connection : goal.returns-in_err-mirrors-clause-connection
returns-in_err-mirrors-clause-connection g c is u v = either (λ broken. broken) (λ m. inl (m v)) (c.in_err-mirrors.ensures.fault.cut (same_fault _ _ _ c.from_residual.ensures.1 is) u)

pub returns-in_err-mirrors-clause-output : goal.returns-in_err-mirrors-clause-output
returns-in_err-mirrors-clause-output g c is u = c.in_err-mirrors.ensures.fault.cause (same_fault _ _ _ c.from_residual.ensures.1 is) u

pub returns-in_default-clause-part : goal.returns-in_default-clause-part
returns-in_default-clause-part g c = part_first (ended (watch_text All)) (ended c.args.line.now ++ ended taking_text) _ _ c.watch.ensures.part

pub returns-in_default-clause-refused : goal.returns-in_default-clause-refused
returns-in_default-clause-refused g c is = let a = c.watch.ensures.refused (search rules) in inl (last_line c.watch.new.lines, a.refused, a.out.went)

pub returns-in_default-clause-asked : goal.returns-in_default-clause-asked
returns-in_default-clause-asked g c is = let a = c.watch.ensures.refused (search rules) in first_asked _ _ a.gone

pub returns : goal.returns
returns g c =
    let found = MatchOption-at_some {o = c.in_ok-mirrors.field-0} _ _ c.in-Some.mirrors (search rules) c.in_ok-mirrors.ensures.found in
    let sent = MatchOption-at_some {o = c.in_ok-mirrors.field-0} _ _ c.in-Some.mirrors (search rules) c.in_ok-mirrors.ensures.sent in
    let same = MatchOption-at_some {o = c.in_ok-mirrors.field-0} _ _ c.in-Some.mirrors (search rules) c.in_ok-mirrors.ensures.unprinted in
    let on = c.in_ok-mirrors.ensures.on in
    record {
      told = λ is.
          let told = rw same at (c.tell_answered.ensures.told is) in
          record { found = c.in-Some.mirrors.items; made = c.tell_answered.new.mirrors.items; opened = known_lines c.watch.new.lines; answered = told.0; between = told.1; watched = found; answer = told.2; changes = told.3 };
      refused = λ is. inr (c.in-Some.mirrors.items, known_lines c.watch.new.lines, found, rw same at (c.tell_answered.ensures.refused is));
      broken = IfErr-weaker c.tell_answered.result _ _ (λ f q. inr (c.in-Some.mirrors.items, known_lines c.watch.new.lines, found, q)) (rw same at c.tell_answered.ensures.broken);
      sent = λ is. let all = out_both sent (c.tell_answered.ensures.sent is) in all.went;
      part = part_second (ended (watch_text All)) (ended c.args.line.now ++ ended taking_text) _ _ _ sent.went c.tell_answered.ensures.part;
      asked = λ is. more_asked _ _ sent (c.tell_answered.ensures.asked is);
      connection = λ is u v.
          let fault = IfErr-at_err _ is c.tell_answered.ensures.fault in
          either (broken_later (on.counted u) (on.reads u)) (λ m. inr (c.in-Some.mirrors.items, known_lines c.watch.new.lines, found, answer_later c.args.line.now c.in-Some.mirrors.items (known_lines c.watch.new.lines) (broken_later (sent.on.counted v) (sent.on.serves v)) (m v))) (fault.cut refl u);
      output = λ is u. let fault = IfErr-at_err _ is c.tell_answered.ensures.fault in rw same at (fault.cause refl u);
      fresh = search rules;
      reads = search rules;
      prints = search rules;
      limit = search rules;
    }
