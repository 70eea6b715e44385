use Rattle.std.proofs.Common.{rules, refl, subst, inl}
use Rattle.std.specs.Io.KnownBytes.{Appends}
use Rattle.std.proofs.lemmas.Option.{MatchOption-at_some}
use Rattle.mt_lines.specs.Reading.{last_line}
use Rattle.mt_render.specs.Drawings.{drawing_text}
use Rattle.mt_client.proofs.OpeningLaws.{watched_whole}
use Rattle.mt_client.proofs.CallLaws.{either, handed_on, ask_cut}
use Rattle.mt_client.proofs.RelayLaws.{same_fault}
use Rattle.mt_client.proofs.picture.draw.Goals as goal

pub returns-in_err-parts-clause-connection : goal.returns-in_err-parts-clause-connection
returns-in_err-parts-clause-connection g c is u v = ask_cut (λ none. none) c.in_err-parts.ensures.fault (same_fault _ _ _ c.from_residual.ensures.1 is) u v

pub returns-in_err-parts-clause-output : goal.returns-in_err-parts-clause-output
returns-in_err-parts-clause-output g c is u = c.in_err-parts.ensures.fault.cause (same_fault _ _ _ c.from_residual.ensures.1 is) u

pub returns-in_err-parts-clause-kept : goal.returns-in_err-parts-clause-kept
returns-in_err-parts-clause-kept g c = handed_on _ _ _ c.from_residual.ensures.1 c.in_err-parts.ensures.fault.kept

pub returns-in_default-clause-refused : goal.returns-in_default-clause-refused
returns-in_default-clause-refused g c is = let a = c.watch.ensures.refused (search rules) in (last_line c.watch.new.lines, a.refused, a.out.went)

pub returns-in_default-clause-writes : goal.returns-in_default-clause-writes
returns-in_default-clause-writes g c v e = let a = c.watch.ensures.refused (search rules) in either (λ o. o.on.serves v e) (λ b. (refl, b v)) a.gone

pub returns-clause-drawn : goal.returns-clause-drawn
returns-clause-drawn g c is =
    let found = MatchOption-at_some {o = c.in_ok-parts.field-0} _ _ c.in-Some.parts (search rules) c.in_ok-parts.ensures.found in
    let same = MatchOption-at_some {o = c.in_ok-parts.field-0} _ _ c.in-Some.parts (search rules) c.in_ok-parts.ensures.unprinted in
    (c.in-Some.parts.items, watched_whole c.args.scope c.in-Some.parts.items _ _ found, subst (λ ps. Appends (g.O.Output.contents c.args.out.now) (g.O.Output.contents c.print_drawing.new.out) (drawing_text c.args.drawing c.args.names.now ps)) c.as_slice.ensures.value (rw same at c.in_ok-print_drawing.ensures.out.went))

pub returns-in_default-clause-asked : goal.returns-in_default-clause-asked
returns-in_default-clause-asked g c = let a = c.watch.ensures.refused (search rules) in either (λ o. o.went) (λ b. b) a.gone

pub returns-clause-asked : goal.returns-clause-asked
returns-clause-asked g c = let sent = MatchOption-at_some {o = c.in_ok-parts.field-0} _ _ c.in-Some.parts (search rules) c.in_ok-parts.ensures.sent in inl sent.went
