-- Keys as a hash table finds them.
use Rattle.std.proofs.Common.{◌≡◌, ℕ, ◌+◌, Bool, true, false, cond, not, ◌&&◌, ◌||◌, List, [], ◌∷◌, ◌++◌, length, None, Some, refl, ap, ◌∙◌, arith}
use Rattle.std.specs.Prelude.{nat_eq}
use Rattle.std.specs.List.{list_any, position, position_or_len}
use Rattle.std.proofs.lemmas.Bool.Decides.{nat_tests}
use Rattle.mt_propagate.specs.Groups.{key_eq}
use Rattle.mt_propagate.specs.declared.keys.Key.{Key}
use Rattle.mt_propagate.specs.Keys.{key_view, keys_of}
use Rattle.mt_skel.proofs.PlaceLaws.{place-within}

-- whether two keys in memory are the same
abbrev pub is_key : Key → Key → Bool
is_key k l = nat_eq k.group l.group && nat_eq k.source l.source

key-turned : (k l : Key) → is_key k l ≡ key_eq (key_view l) (key_view k)
key-turned k l = grind (arith, nat_tests)

-- a key is among keys
pub key-among : (k : Key) (ks : List Key) → list_any (is_key k) ks ≡ list_any (λ l. key_eq l (key_view k)) (keys_of ks)
key-among k [] = refl
key-among k (l ∷ ks) = λ i. key-turned k l i || key-among k ks i

-- keys with one more after them
pub keys-more : (k : Key) (ks : List Key) → keys_of (ks ++ k ∷ []) ≡ keys_of ks ++ key_view k ∷ []
keys-more k [] = refl
keys-more k (l ∷ ks) = ap (λ r. key_view l ∷ r) (keys-more k ks)

-- the keys once one is inserted
pub keys-added : (k : Key) (ks : List Key)
    → keys_of (cond (list_any (is_key k) ks) ks (ks ++ k ∷ [])) ≡ cond (list_any (λ l. key_eq l (key_view k)) (keys_of ks)) (keys_of ks) (keys_of ks ++ key_view k ∷ [])
keys-added k ks = by (list_any (is_key k) ks) (key-among k ks)
  where
    by : (b : Bool) → b ≡ list_any (λ l. key_eq l (key_view k)) (keys_of ks) → keys_of (cond b ks (ks ++ k ∷ [])) ≡ cond (list_any (λ l. key_eq l (key_view k)) (keys_of ks)) (keys_of ks) (keys_of ks ++ key_view k ∷ [])
    by true e = ap (λ c. cond c (keys_of ks) (keys_of ks ++ key_view k ∷ [])) e
    by false e = keys-more k ks ∙ ap (λ c. cond c (keys_of ks) (keys_of ks ++ key_view k ∷ [])) e

-- the index of a key among keys
pub key-index : (k : Key) (ks : List Key) → position_or_len (is_key k) ks ≡ position_or_len (key_eq (key_view k)) (keys_of ks)
key-index k [] = refl
key-index k (l ∷ ks) = λ i. cond (not (is_key k l)) (1 + key-index k ks i) 0

-- an index that is found, or none
pub index-is : {X : Type 0} (p : X → Bool) (xs : List X) (i : ℕ) → position p xs ≡ Some i → i ≡ position_or_len p xs
index-is p xs i e = grind (arith, nat_tests)

pub index-none : {X : Type 0} (p : X → Bool) (xs : List X) → position p xs ≡ None → length xs ≡ position_or_len p xs
index-none p xs e = let le = place-within p xs in grind (arith, nat_tests)
