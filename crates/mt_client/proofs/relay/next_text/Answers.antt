use Rattle.std.proofs.Common.{rules, refl}
use Rattle.mt_lines.specs.Reading.{known_left, last_line, limit_of}
use Rattle.mt_client.proofs.CallLaws.{fault_refused, reader_fault, text_read}
use Rattle.mt_client.proofs.RelayLaws.{none_long, none_unended, none_at_end}
use Rattle.mt_client.proofs.relay.next_text.Goals as goal

pub returns-in-Ok-Text-clause-read : goal.returns-in-Ok-Text-clause-read
returns-in-Ok-Text-clause-read g c =
    let n = rw c.in-Ok-Text.field-0-is at c.in-Ok-Text.ensures.known in
    text_read c.args.lines.now c.next.new.self c.next.ensures.same (search rules) (n (rw c.requires.fresh refl)) (search rules) (search rules)

pub returns-in-Ok-TooLong-clause-fault : goal.returns-in-Ok-TooLong-clause-fault
returns-in-Ok-TooLong-clause-fault g c =
    let n = rw c.in-Ok-TooLong.field-0-is at c.in-Ok-TooLong.ensures.known in
    fault_refused c.next.ensures.same (none_long (limit_of c.args.lines.now) (known_left c.args.lines.now) (known_left c.next.new.self) (last_line c.next.new.self) (n (rw c.requires.fresh refl)))

pub returns-in-Ok-Unended-clause-fault : goal.returns-in-Ok-Unended-clause-fault
returns-in-Ok-Unended-clause-fault g c =
    let n = rw c.in-Ok-Unended.field-0-is at c.in-Ok-Unended.ensures.known in
    fault_refused c.next.ensures.same (none_unended (limit_of c.args.lines.now) (known_left c.args.lines.now) (known_left c.next.new.self) (last_line c.next.new.self) (n (rw c.requires.fresh refl)))

pub returns-in-Ok-End-clause-fault : goal.returns-in-Ok-End-clause-fault
returns-in-Ok-End-clause-fault g c =
    let n = rw c.in-Ok-End.field-0-is at c.in-Ok-End.ensures.known in
    fault_refused c.next.ensures.same (none_at_end (limit_of c.args.lines.now) (known_left c.args.lines.now) (known_left c.next.new.self) (last_line c.next.new.self) (n (rw c.requires.fresh refl)))

pub returns-in-Err-clause-fault : goal.returns-in-Err-clause-fault
returns-in-Err-clause-fault g c =
    rw c.reading_fault.ensures
    (reader_fault c.in-Err.fault c.args.lines.now c.next.new.self c.next.ensures.same (c.in-Err.ensures.known (rw c.requires.fresh refl)) (c.in-Err.ensures.cause (rw c.requires.fresh refl)) (c.in-Err.ensures.faults (rw c.requires.fresh refl)))
