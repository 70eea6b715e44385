use Rattle.std.proofs.Common.{Some, None}
use Rattle.mt_skel.proofs.EscapeLaws.{not_empty, first_code}
use Rattle.mt_skel.proofs.escape.first_byte.Goals as goal

pub returns-in-Some-clause-first : goal.returns-in-Some-clause-first
returns-in-Some-clause-first c =
    first_code c.args.text.now (Some c.in-Some.byte) (not_empty c.args.text.now c.if-is_empty.ensures) c.if-first-ne92.false c.if-rest-lt3.false c.in-Some.ensures

pub returns-in-None-clause-first : goal.returns-in-None-clause-first
returns-in-None-clause-first c some =
    first_code c.args.text.now None some c.if-first-ne92.false c.if-rest-lt3.false c.in-None.ensures
