use Rattle.std.proofs.Common.{rules, refl, inl, inr}
use Rattle.std.proofs.lemmas.Option.{MatchOption-at_some}
use Rattle.std.proofs.lemmas.Result.{IfErr-at_err}
use Rattle.mt_lines.specs.Reading.{last_line}
use Rattle.mt_client.specs.Reading.{known_lines}
use Rattle.mt_client.proofs.FollowLaws.{mirrored_whole, mirroring_needs_opening, mirroring_needs_posts}
use Rattle.mt_client.proofs.CallLaws.{either, out_both, handed_on, ask_cut, talk_cut, writes_told, first_asked, more_asked, asked_alone}
use Rattle.mt_client.proofs.RelayLaws.{on_ok_at, part_first, part_second, same_fault}
use Rattle.mt_client.proofs.mirror.mirror.Goals as goal

pub returns-in_err-mirror-clause-part : goal.returns-in_err-mirror-clause-part
returns-in_err-mirror-clause-part g c = part_first _ _ _ _ c.watch_one.ensures.part

pub returns-in_err-mirror-clause-connection : goal.returns-in_err-mirror-clause-connection
returns-in_err-mirror-clause-connection g c is u v = ask_cut (mirroring_needs_opening c.args.space c.args.count _) c.in_err-mirror.ensures.fault (same_fault _ _ _ c.from_residual.ensures.1 is) u v

pub returns-in_err-mirror-clause-kept : goal.returns-in_err-mirror-clause-kept
returns-in_err-mirror-clause-kept g c = handed_on _ _ _ c.from_residual.ensures.1 c.in_err-mirror.ensures.fault.kept

pub returns-in_err-mirror-clause-output : goal.returns-in_err-mirror-clause-output
returns-in_err-mirror-clause-output g c is u = c.in_err-mirror.ensures.fault.cause (same_fault _ _ _ c.from_residual.ensures.1 is) u

pub returns-in_default-clause-part : goal.returns-in_default-clause-part
returns-in_default-clause-part g c = part_first _ _ _ _ c.watch_one.ensures.part

pub returns-in_default-clause-refused : goal.returns-in_default-clause-refused
returns-in_default-clause-refused g c is = let a = c.watch_one.ensures.refused (search rules) in (last_line c.watch_one.new.lines, inl a.refused, a.out.went)

pub returns-in_default-clause-writes : goal.returns-in_default-clause-writes
returns-in_default-clause-writes g c v e = let a = c.watch_one.ensures.refused (search rules) in either (λ o. o.on.serves v e) (λ b. (refl, b v)) a.gone

pub returns-in_default-clause-asked : goal.returns-in_default-clause-asked
returns-in_default-clause-asked g c is = let a = c.watch_one.ensures.refused (search rules) in first_asked _ _ a.gone

pub returns : goal.returns
returns g c =
    let opened = MatchOption-at_some {o = c.in_ok-mirror.field-0} _ _ c.in-Some.mirror (search rules) c.in_ok-mirror.ensures.opened in
    let unrefused = MatchOption-at_some {o = c.in_ok-mirror.field-0} _ _ c.in-Some.mirror (search rules) c.in_ok-mirror.ensures.unrefused in
    let sent = MatchOption-at_some {o = c.in_ok-mirror.field-0} _ _ c.in-Some.mirror (search rules) c.in_ok-mirror.ensures.sent in
    let same = MatchOption-at_some {o = c.in_ok-mirror.field-0} _ _ c.in-Some.mirror (search rules) c.in_ok-mirror.ensures.unprinted in
    let on = c.in_ok-mirror.ensures.on in
    record {
      mirrored = λ is.
          let printed = rw same at (c.print_followed.ensures.printed is) in
          (c.print_followed.new.mirror, mirrored_whole c.args.space c.args.count _ _ _ _ _ opened (c.print_followed.ensures.followed is), printed.went);
      refused = λ is.
          let out = rw same at (c.print_followed.ensures.refused is) in
          let left = c.print_followed.ensures.left is in
          (last_line c.print_followed.new.lines, inr (c.in-Some.mirror, left.0, known_lines c.watch_one.new.lines, opened, left.1), out.went);
      sent = λ is. let all = out_both sent (c.print_followed.ensures.sent is) in all.went;
      part = part_second _ _ _ _ _ sent.went c.print_followed.ensures.part;
      asked = λ is. more_asked _ _ sent (asked_alone g.W.Output _ (on_ok_at c.print_followed.result is c.print_followed.ensures.asked));
      connection = λ is. talk_cut on sent unrefused (mirroring_needs_posts c.args.space c.args.count c.in-Some.mirror _ _ opened unrefused) (IfErr-at_err _ is c.print_followed.ensures.fault) refl;
      kept = rw same at c.print_followed.ensures.kept;
      output = λ is u. let fault = IfErr-at_err _ is c.print_followed.ensures.fault in rw same at (fault.cause refl u);
      fresh = search rules;
      reads = search rules;
      writes = writes_told c.print_followed.result sent c.print_followed.ensures.sent c.print_followed.ensures.unsent;
      prints = search rules;
      limit = search rules;
    }
