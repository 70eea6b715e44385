-- Texts that are appended one after another.
use Rattle.std.proofs.Common.{◌≡◌, ℕ, List, ◌++◌, ◌∙◌, ap, append_assoc}

pub two : (t0 t1 t2 a b : List ℕ) → t1 ≡ t0 ++ a → t2 ≡ t1 ++ b → t2 ≡ t0 ++ (a ++ b)
two t0 t1 t2 a b e1 e2 = e2 ∙ ap (λ t. t ++ b) e1 ∙ append_assoc t0 a b

pub three : (t0 t1 t2 t3 a b c : List ℕ) → t1 ≡ t0 ++ a → t2 ≡ t1 ++ b → t3 ≡ t2 ++ c → t3 ≡ t0 ++ (a ++ (b ++ c))
three t0 t1 t2 t3 a b c e1 e2 e3 = two t0 t1 t3 a (b ++ c) e1 (two t1 t2 t3 b c e2 e3)

pub four : (t0 t1 t2 t3 t4 a b c d : List ℕ) → t1 ≡ t0 ++ a → t2 ≡ t1 ++ b → t3 ≡ t2 ++ c → t4 ≡ t3 ++ d → t4 ≡ t0 ++ (a ++ (b ++ (c ++ d)))
four t0 t1 t2 t3 t4 a b c d e1 e2 e3 e4 = two t0 t1 t4 a (b ++ (c ++ d)) e1 (two t1 t2 t4 b (c ++ d) e2 (two t2 t3 t4 c d e3 e4))

pub five : (t0 t1 t2 t3 t4 t5 a b c d e : List ℕ) → t1 ≡ t0 ++ a → t2 ≡ t1 ++ b → t3 ≡ t2 ++ c → t4 ≡ t3 ++ d → t5 ≡ t4 ++ e → t5 ≡ t0 ++ (a ++ (b ++ (c ++ (d ++ e))))
five t0 t1 t2 t3 t4 t5 a b c d e e1 e2 e3 e4 e5 = two t0 t1 t5 a (b ++ (c ++ (d ++ e))) e1 (four t1 t2 t3 t4 t5 b c d e e2 e3 e4 e5)

pub six : (t0 t1 t2 t3 t4 t5 t6 a b c d e f : List ℕ) → t1 ≡ t0 ++ a → t2 ≡ t1 ++ b → t3 ≡ t2 ++ c → t4 ≡ t3 ++ d → t5 ≡ t4 ++ e → t6 ≡ t5 ++ f → t6 ≡ t0 ++ (a ++ (b ++ (c ++ (d ++ (e ++ f)))))
six t0 t1 t2 t3 t4 t5 t6 a b c d e f e1 e2 e3 e4 e5 e6 = two t0 t1 t6 a _ e1 (five t1 t2 t3 t4 t5 t6 b c d e f e2 e3 e4 e5 e6)

pub seven : (t0 t1 t2 t3 t4 t5 t6 t7 a b c d e f g : List ℕ) → t1 ≡ t0 ++ a → t2 ≡ t1 ++ b → t3 ≡ t2 ++ c → t4 ≡ t3 ++ d → t5 ≡ t4 ++ e → t6 ≡ t5 ++ f → t7 ≡ t6 ++ g
    → t7 ≡ t0 ++ (a ++ (b ++ (c ++ (d ++ (e ++ (f ++ g))))))
seven t0 t1 t2 t3 t4 t5 t6 t7 a b c d e f g e1 e2 e3 e4 e5 e6 e7 = two t0 t1 t7 a _ e1 (two t1 t2 t7 b _ e2 (five t2 t3 t4 t5 t6 t7 c d e f g e3 e4 e5 e6 e7))
