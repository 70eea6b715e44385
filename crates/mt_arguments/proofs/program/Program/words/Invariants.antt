use Rattle.std.proofs.Common.{◌≡◌, ◌∷◌, ◌++◌, map, drop, string_bytes}
use Rattle.mt_arguments.proofs.program.Program.words.Given as goal

-- the words that were taken and those that are left are all
abbrev pub invariant-behind : goal.invariant-behind
invariant-behind l = map (λ word. word.now) l.words.items ++ map string_bytes (drop l.argument-index l.behind) ≡ l.initial.self.name.now ∷ map string_bytes l.behind
