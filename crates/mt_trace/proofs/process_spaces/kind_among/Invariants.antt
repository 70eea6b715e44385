use Rattle.std.proofs.Common.{◌≡◌, drop}
use Rattle.std.specs.Str.{bytes_eq}
use Rattle.mt_forms.specs.Lookup.{looked_up}
use Rattle.mt_trace.proofs.process_spaces.kind_among.Given as goal

abbrev pub invariant-loop-row : goal.invariant-loop-row
invariant-loop-row l =
    looked_up (λ row. bytes_eq row.1.now l.name) (λ row. row.0) (drop l.row-index l.rows) ≡ looked_up (λ row. bytes_eq row.1.now l.name) (λ row. row.0) l.rows
