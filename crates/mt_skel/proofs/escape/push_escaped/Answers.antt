use Rattle.std.proofs.Common.{◌++◌, take, ap, ◌∙◌, arith}
use Rattle.std.proofs.lemmas.List.{take_all}
use Rattle.mt_skel.specs.Escapes.{escaped}
use Rattle.mt_skel.proofs.EscapeLaws.{escaped_more}
use Rattle.mt_skel.proofs.ListLaws.{front_through}
use Rattle.mt_skel.proofs.escape.push_escaped.Goals as goal

pub loop-byte-preserved : goal.loop-byte-preserved
loop-byte-preserved c =
    escaped_more c.args.text.now.items c.args.bytes.now c.loop-byte.byte-index c.loop-byte-test.true c.loop-byte.invariant c.in_ok-push_byte.ensures.text

pub returns-in_err-push_byte-clause-kept : goal.returns-in_err-push_byte-clause-kept
returns-in_err-push_byte-clause-kept c =
    front_through _ _ _ (escaped (take c.loop-byte.byte-index c.args.bytes.now), c.loop-byte.invariant) c.push_byte.ensures.kept

pub returns-clause-text : goal.returns-clause-text
returns-clause-text c =
    let whole = take_all c.loop-byte.byte-index c.args.bytes.now (omega (arith, c.loop-byte-test.false)) in
    c.loop-byte.invariant ∙ ap (λ l. c.args.text.now.items ++ escaped l) whole

pub returns-clause-kept : goal.returns-clause-kept
returns-clause-kept c = (escaped (take c.loop-byte.byte-index c.args.bytes.now), c.loop-byte.invariant)
