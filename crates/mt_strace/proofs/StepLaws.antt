-- Bytes of a string, step by step.
use Rattle.std.proofs.Common.{◌≡◌, ℕ, List, [], ◌++◌, Option, Some, None, refl, sym, ap, append_assoc}
use Rattle.mt_strace.specs.Strings.{onto_bytes}

-- bytes before what a text gives
pub onto_both : (front more : List ℕ) (rest : Option (List ℕ)) → onto_bytes front (onto_bytes more rest) ≡ onto_bytes (front ++ more) rest
onto_both front more None = refl
onto_both front more (Some rest) = ap (λ x. Some x) (sym (append_assoc front more rest))

pub onto_none : (rest : Option (List ℕ)) → onto_bytes [] rest ≡ rest
onto_none None = refl
onto_none (Some rest) = refl
