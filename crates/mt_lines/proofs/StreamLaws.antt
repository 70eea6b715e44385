-- What a read of bytes in memory gives, and what faults a stream's last calls leave.
use Rattle.std.proofs.Common.{◌≡◌, ◌∙◌, ap, ℕ, ◌+◌, ◌-◌, List, [], ◌++◌, length, length-drop, take, drop, Option, None, Some, sym, arith}
use Rattle.std.specs.Io.KnownBytes.{Consumes, Keeps, Appends}
use Rattle.std.proofs.KnownBytes.{Appends-trans}
use Rattle.std.proofs.Math.Seq.{take-add}
use Rattle.std.proofs.lemmas.List.{take_all, append-nil}

-- known bytes that were kept, and then a piece of them
pub kept_consumed : (from mid to : Option (List ℕ)) (piece : List ℕ) → Keeps from mid → Consumes mid to piece → Consumes from to piece
kept_consumed None mid to piece kept taken = tt
kept_consumed (Some xs) None to piece kept taken = absurd kept
kept_consumed (Some xs) (Some ys) to piece kept taken = rw (sym kept) taken

-- bytes that were kept, and then grew
pub kept_appended : (a b c : Option (List ℕ)) (bs : List ℕ) → Keeps a b → Appends b c bs → Appends a c bs
kept_appended None b c bs kept more = tt
kept_appended (Some xs) None c bs kept more = absurd kept
kept_appended (Some xs) (Some ys) None bs kept more = absurd more
kept_appended (Some xs) (Some ys) (Some zs) bs kept more = more ∙ ap (λ (x : List ℕ). x ++ bs) kept

-- bytes that were kept, and then grew by none
pub kept_none : (a b c : Option (List ℕ)) → Keeps a b → Appends b c [] → Keeps a c
kept_none None b c kept more = tt
kept_none (Some xs) None c kept more = absurd kept
kept_none (Some xs) (Some ys) None kept more = absurd more
kept_none (Some xs) (Some ys) (Some zs) kept more = more ∙ append-nil ys ∙ kept

-- two pieces in a row, the second of a slice from the first one's end
pub appended_twice : (a b c : Option (List ℕ)) (bytes : List ℕ) (m n : ℕ) → Appends a b (take m bytes) → Appends b c (take n (take (length bytes - m) (drop m bytes))) → Appends a c (take (m + n) bytes)
appended_twice a b c bytes m n first second =
    let all : take (length bytes - m) (drop m bytes) ≡ drop m bytes = take_all (length bytes - m) (drop m bytes) (simp length-drop (omega arith)) in
    rw (take-add m n bytes) (Appends-trans a b c (take m bytes) (take n (drop m bytes)) first (rw all at second))
