-- Bytes as they stand in a line: what they stand for, and which bytes they have.
use Rattle.std.proofs.Common.{◌≡◌, ◌≢◌, ℕ, ◌<◌, ◌^◌, ◌==◌, ◌&&◌, not, decimal, Bool, true, false, List, [], ◌∷◌, ◌++◌, Option, Some, refl, sym, ap, ◌∙◌, arith}
use Rattle.std.specs.List.{list_all}
use Rattle.std.proofs.lemmas.Bool.{eqb-true, eqb-false}
use Rattle.std.proofs.lemmas.List.Folds.{list_all-append}
use Rattle.mt_skel.specs.Escapes.{unescaped, cons_to}
use Rattle.mt_skel.proofs.EscapeLaws.{unescaped-plain, unescaped-nil, unescaped-escape, each_escape}
use Rattle.mt_skel.proofs.MiddleLaws.{and-true, and_first, and_second}
use Rattle.mt_lines.proofs.PieceLaws.{lacks_byte}
use Rattle.mt_info.specs.Building.{behind}
use Rattle.mt_info.specs.Reading.{is_bare}
use Rattle.mt_info.proofs.WordLaws.{bare, decimal-bare}
use Rattle.mt_requests.specs.Printed.{sent_byte, sent}

-- what holds of the three escapes, and of each other byte but these, holds of any byte in a line
pub each_sent : (P : ℕ → List ℕ → Type 0) → P 32 (92 ∷ 48 ∷ 52 ∷ 48 ∷ []) → P 10 (92 ∷ 48 ∷ 49 ∷ 50 ∷ []) → P 92 (92 ∷ 49 ∷ 51 ∷ 52 ∷ [])
    → ((b : ℕ) → (b == 32) ≡ false → (b == 10) ≡ false → (b == 92) ≡ false → P b (b ∷ [])) → (b : ℕ) → P b (sent_byte b)
each_sent P of_space of_newline of_backslash plain b = go (b == 9) refl (b == 32) refl (b == 10) refl (b == 92) refl
  where
    go : (tab : Bool) → (b == 9) ≡ tab → (space : Bool) → (b == 32) ≡ space → (newline : Bool) → (b == 10) ≡ newline → (backslash : Bool) → (b == 92) ≡ backslash → P b (sent_byte b)
    go true t space s newline n backslash k = let e : b ≡ 9 = eqb-true b 9 t in rw e (plain 9 refl refl refl)
    go false t true s newline n backslash k = let e : b ≡ 32 = eqb-true b 32 s in rw e of_space
    go false t false s true n backslash k = let e : b ≡ 10 = eqb-true b 10 n in rw e of_newline
    go false t false s false n true k = let e : b ≡ 92 = eqb-true b 92 k in rw e of_backslash
    go false t false s false n false k = rw (t, s, n, k) (plain b s n k)

unescaped-byte : (b : ℕ) (rest : List ℕ) → unescaped (sent_byte b ++ rest) ≡ cons_to (Some b) (unescaped rest)
unescaped-byte b rest =
    each_sent (λ x text. unescaped (text ++ rest) ≡ cons_to (Some x) (unescaped rest)) (unescaped-escape 48 52 48 rest) (unescaped-escape 48 49 50 rest) (unescaped-escape 49 51 52 rest)
    (λ x _ _ other. unescaped-plain x rest (eqb-false x 92 other)) b

-- bytes in a line stand for these bytes
pub unescaped-sent : (bytes : List ℕ) → unescaped (sent bytes) ≡ Some bytes
unescaped-sent [] = unescaped-nil [] refl
unescaped-sent (b ∷ bytes) = unescaped-byte b (sent bytes) ∙ ap (cons_to (Some b)) (unescaped-sent bytes)

-- a byte that may stand in a word: no space, and no line end
abbrev pub is_inner : ℕ → Bool
is_inner b = not (b == 32) && not (b == 10)

abbrev pub inner : List ℕ → Bool
inner w = list_all is_inner w

both_pass : (p : ℕ → Bool) (xs ys : List ℕ) → list_all p xs ≡ true → list_all p ys ≡ true → list_all p (xs ++ ys) ≡ true
both_pass p xs ys h k = list_all-append p xs ys ∙ and-true (list_all p xs) (list_all p ys) h k

-- and may stand in a word, and have a zero byte only where these have one
pub sent_inner : (bytes : List ℕ) → inner (sent bytes) ≡ true
sent_inner [] = refl
sent_inner (b ∷ bytes) = both_pass is_inner (sent_byte b) (sent bytes) (each_sent (λ x text. inner text ≡ true) refl refl refl (λ x space newline _. rw (space, newline) refl) b) (sent_inner bytes)

byte-lacks-zero : (b : ℕ) → not (b == 0) ≡ true → lacks_byte 0 (sent_byte b) ≡ true
byte-lacks-zero = each_sent (λ x text. not (x == 0) ≡ true → lacks_byte 0 text ≡ true) (λ _. refl) (λ _. refl) (λ _. refl) (λ x _ _ _ other. rw other refl)

pub sent-lacks-zero : (bytes : List ℕ) → lacks_byte 0 bytes ≡ true → lacks_byte 0 (sent bytes) ≡ true
sent-lacks-zero [] h = refl
sent-lacks-zero (b ∷ bytes) h =
    both_pass (λ x. not (x == 0)) (sent_byte b) (sent bytes) (byte-lacks-zero b (and_first (not (b == 0)) (lacks_byte 0 bytes) h)) (sent-lacks-zero bytes (and_second (not (b == 0)) (lacks_byte 0 bytes) h))

-- digits may stand in one
bare_inner : (w : List ℕ) → bare w ≡ true → inner w ≡ true
bare_inner [] h = refl
bare_inner (b ∷ w) h =
    let first = and_first (is_bare b) (bare w) h in
    let space = and_first (not (b == 32)) (not (b == 9)) (and_first (not (b == 32) && not (b == 9)) (not (b == 10)) first) in
    let newline = and_second (not (b == 32) && not (b == 9)) (not (b == 10)) first in
    and-true (is_inner b) (inner w) (and-true (not (b == 32)) (not (b == 10)) space newline) (bare_inner w (and_second (is_bare b) (bare w) h))

pub decimal_inner : (n : ℕ) → n < 2 ^ 64 → inner (decimal n) ≡ true
decimal_inner n lt = bare_inner (decimal n) (decimal-bare n lt)

-- such words have no space, and no line of them has a line end
lacks_space : (w : List ℕ) → inner w ≡ true → lacks_byte 32 w ≡ true
lacks_space [] h = refl
lacks_space (b ∷ w) h =
    and-true (not (b == 32)) (lacks_byte 32 w) (and_first (not (b == 32)) (not (b == 10)) (and_first (is_inner b) (inner w) h)) (lacks_space w (and_second (is_inner b) (inner w) h))

lacks_newline : (w : List ℕ) → inner w ≡ true → lacks_byte 10 w ≡ true
lacks_newline [] h = refl
lacks_newline (b ∷ w) h =
    and-true (not (b == 10)) (lacks_byte 10 w) (and_second (not (b == 32)) (not (b == 10)) (and_first (is_inner b) (inner w) h)) (lacks_newline w (and_second (is_inner b) (inner w) h))

pub all_lack_space : (ws : List (List ℕ)) → list_all inner ws ≡ true → list_all (lacks_byte 32) ws ≡ true
all_lack_space [] h = refl
all_lack_space (w ∷ ws) h = and-true (lacks_byte 32 w) (list_all (lacks_byte 32) ws) (lacks_space w (and_first (inner w) (list_all inner ws) h)) (all_lack_space ws (and_second (inner w) (list_all inner ws) h))

behind_lacks : (ws : List (List ℕ)) → list_all inner ws ≡ true → lacks_byte 10 (behind 32 ws) ≡ true
behind_lacks [] h = refl
behind_lacks (w ∷ ws) h =
    both_pass (λ b. not (b == 10)) w (behind 32 ws) (lacks_newline w (and_first (inner w) (list_all inner ws) h)) (behind_lacks ws (and_second (inner w) (list_all inner ws) h))

pub line_whole : (w : List ℕ) (ws : List (List ℕ)) → list_all inner (w ∷ ws) ≡ true → lacks_byte 10 (w ++ behind 32 ws) ≡ true
line_whole w ws h =
    both_pass (λ b. not (b == 10)) w (behind 32 ws) (lacks_newline w (and_first (inner w) (list_all inner ws) h)) (behind_lacks ws (and_second (inner w) (list_all inner ws) h))
