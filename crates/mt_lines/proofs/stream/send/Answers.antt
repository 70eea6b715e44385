use Rattle.std.proofs.Common.{◌-◌, length, drop, arith, length-drop, length-take}
use Rattle.std.proofs.lemmas.List.{take_all}
use Rattle.std.proofs.KnownBytes.{Appends-kept}
use Rattle.mt_lines.proofs.StreamLaws.{appended_twice}
use Rattle.mt_lines.proofs.stream.send.Goals as goal

pub sending-preserved : goal.sending-preserved
sending-preserved g c =
    let e = c.in-Ok.ensures in
    let bytes = c.args.bytes.now in
    record {
      within = omega (arith, length-take (length bytes - c.sending.sent) (drop c.sending.sent bytes), length-drop c.sending.sent bytes, e.bound);
      appended = appended_twice _ _ _ bytes c.sending.sent c.in-Ok.count c.sending.invariant.appended e.known;
      faults = λ t none. e.served t;
      counted = λ t. omega (arith, c.sending.invariant.counted t, e.counted t);
    }

pub returns-in-Err-clause-appended_part : goal.returns-in-Err-clause-appended_part
returns-in-Err-clause-appended_part g c = Appends-kept _ _ _ _ c.sending.invariant.appended c.in-Err.ensures.known

pub returns-clause-appended : goal.returns-clause-appended
returns-clause-appended g c = rw (take_all c.sending.sent c.args.bytes.now (omega (arith, c.sending-test.false))) at c.sending.invariant.appended
