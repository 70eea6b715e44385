use Rattle.std.proofs.Common.{rules}
use Rattle.mt_import.proofs.ReadLaws.{unknown_field}
use Rattle.mt_import.proofs.read.Fields.with.Goals as goal

pub returns : goal.returns
returns c =
    unknown_field c.args.self c.args.field.now (search rules) c.in_default.ensures.cases c.in_default-strip_prefix.ensures.cases
    c.in_default-strip_prefix-2.ensures.cases
