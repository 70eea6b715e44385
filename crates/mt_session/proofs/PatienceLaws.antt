-- Reads that answer no bytes, and one after them; writes that take none, and one after them.
use Rattle.std.proofs.Common.{ℕ, List, ◌++◌, take, Option, Some, None, sym, ap, ◌∙◌}
use Rattle.std.specs.Io.KnownBytes.{Consumes, Appends, Keeps}

-- bytes that are kept, and then the next of them
pub kept_and_read : (a b c : Option (List ℕ)) (bs : List ℕ) → Keeps a b → Consumes b c bs → Consumes a c bs
kept_and_read None b c bs k r = tt
kept_and_read (Some xs) None c bs k r = absurd k
kept_and_read (Some xs) (Some ys) None bs k r = r
kept_and_read (Some xs) (Some ys) (Some zs) bs k r = sym k ∙ r

-- bytes that are kept, and none of them
pub kept_and_none : (a b : Option (List ℕ)) (bytes : List ℕ) → Keeps a b → Consumes a b (take 0 bytes)
kept_and_none None b bytes k = tt
kept_and_none (Some xs) None bytes k = k
kept_and_none (Some xs) (Some ys) bytes k = sym k

pub kept_twice : (a b c : Option (List ℕ)) → Keeps a b → Keeps b c → Keeps a c
kept_twice None b c k l = tt
kept_twice (Some xs) None c k l = absurd k
kept_twice (Some xs) (Some ys) None k l = l
kept_twice (Some xs) (Some ys) (Some zs) k l = l ∙ k

-- bytes that are kept, and then some more
pub kept_and_written : (a b c : Option (List ℕ)) (bs : List ℕ) → Keeps a b → Appends b c bs → Appends a c bs
kept_and_written None b c bs k w = tt
kept_and_written (Some xs) None c bs k w = absurd k
kept_and_written (Some xs) (Some ys) None bs k w = w
kept_and_written (Some xs) (Some ys) (Some zs) bs k w = w ∙ ap (λ l. l ++ bs) k
