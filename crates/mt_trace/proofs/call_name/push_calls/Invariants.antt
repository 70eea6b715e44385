use Rattle.std.proofs.Common.{◌≡◌, ◌∷◌, ◌++◌, drop}
use Rattle.std.specs.List.{flat_map}
use Rattle.mt_trace.proofs.call_name.push_calls.Given as goal

abbrev pub invariant-rows : goal.invariant-rows
invariant-rows l =
    l.text.items ++ flat_map (λ row. 44 ∷ row.1.now) (drop l.row-index l.rows) ≡ l.initial.text.items ++ flat_map (λ row. 44 ∷ row.1.now) l.rows
