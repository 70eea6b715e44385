-- Numbers in a row.
use Rattle.std.proofs.Common.{◌≡◌, ℕ, suc, ◌+◌, ◌-◌, ◌<◌, List, [], ◌∷◌, ◌++◌, map, ap, sym, ◌∙◌, append_assoc, arith}
use Rattle.std.specs.List.{range_with_len}
use Rattle.mt_what_if.specs.Naming.{made_space}
use Rattle.mt_what_if.specs.KnownSpaces.{TitledSpace}

-- those from one number up to another begin with the first one
range_step : (n next : ℕ) → n < next → range_with_len n (next - n) ≡ n ∷ range_with_len (n + 1) (next - (n + 1))
range_step n next l =
    let more : next - n ≡ suc (next - (n + 1)) = omega (arith, l) in
    ap (range_with_len n) more

-- one more is made
pub made_step :
    (last n next : ℕ) (xs ys start : List TitledSpace) → n < next → ys ≡ xs ++ made_space last n ∷ [] → xs ++ map (made_space last) (range_with_len n (next - n)) ≡ start
    → ys ++ map (made_space last) (range_with_len (n + 1) (next - (n + 1))) ≡ start
made_step last n next xs ys start l e h =
    ap (λ zs. zs ++ map (made_space last) (range_with_len (n + 1) (next - (n + 1)))) e ∙ append_assoc xs (made_space last n ∷ []) (map (made_space last) (range_with_len (n + 1) (next - (n + 1))))
    ∙ sym (ap (λ ks. xs ++ map (made_space last) ks) (range_step n next l)) ∙ h
