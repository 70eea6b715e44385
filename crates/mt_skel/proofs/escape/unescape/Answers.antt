use Rattle.mt_skel.proofs.EscapeLaws.{all_read, stands_for}
use Rattle.mt_skel.proofs.escape.unescape.Goals as goal

pub returns-clause-bytes : goal.returns-clause-bytes
returns-clause-bytes c =
    all_read c.loop-byte.bytes.items c.loop-byte.rest.now c.args.text.now c.in-Some.length c.loop-byte.invariant c.in-Some.ensures c.in_default-first_byte.ensures.first

pub returns-in_err-to_vec-clause-inverse : goal.returns-in_err-to_vec-clause-inverse
returns-in_err-to_vec-clause-inverse c = stands_for c.args.text.now

pub returns-then-not-has_backslash-clause-inverse : goal.returns-then-not-has_backslash-clause-inverse
returns-then-not-has_backslash-clause-inverse c = stands_for c.args.text.now

pub returns-in_default-clause-inverse : goal.returns-in_default-clause-inverse
returns-in_default-clause-inverse c = stands_for c.args.text.now

pub returns-in_err-bytes-clause-inverse : goal.returns-in_err-bytes-clause-inverse
returns-in_err-bytes-clause-inverse c = stands_for c.args.text.now

pub returns-in_err-push-clause-inverse : goal.returns-in_err-push-clause-inverse
returns-in_err-push-clause-inverse c = stands_for c.args.text.now

pub returns-clause-inverse : goal.returns-clause-inverse
returns-clause-inverse c = stands_for c.args.text.now
