use Rattle.std.proofs.Common.{◌≡◌, ◌++◌, drop}
use Rattle.std.specs.List.{flat_map}
use Rattle.mt_import.proofs.writer.joined.Given as goal

-- what was joined and what is left are all
abbrev pub invariant-texts : goal.invariant-texts
invariant-texts l = l.all.items ++ flat_map (λ text. text.now) (drop l.text-index l.texts) ≡ flat_map (λ text. text.now) l.texts
