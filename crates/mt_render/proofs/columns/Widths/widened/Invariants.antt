use Rattle.std.proofs.Common.{◌≡◌, drop}
use Rattle.std.specs.List.{fold}
use Rattle.mt_render.specs.Columns.{widened}
use Rattle.mt_render.proofs.columns.Widths.widened.Given as goal

abbrev pub invariant-lines : goal.invariant-lines
invariant-lines l = fold widened l.widths (drop l.line-index l.lines) ≡ fold widened l.fn.self l.lines
