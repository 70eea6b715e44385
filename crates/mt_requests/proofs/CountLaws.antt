-- A line that is read has the verb of its request, and one that asks for posts asks for at least one, and for no more than it may.
use Rattle.std.proofs.Common.{◌≡◌, ℕ, ◌<◌, ◌≤◌, Bool, true, false, cond, nat_lt, nat_le, ◌&&◌, List, [], ◌∷◌, drop, Option, Some, None, unwrap_or, is_some, Result, Ok, Err, IfOk, inl, inr, refl, sym, ap, subst, ◌∙◌, arith}
use Rattle.std.proofs.lemmas.Bool.Decides.{nat_tests}
use Rattle.std.specs.Option.{option_map_or}
use Rattle.mt_skel.specs.declared.fault.Fault.{Fault}
use Rattle.mt_skel.specs.declared.fault.Fault.TheVariants.{BadLine}
use Rattle.mt_lines.specs.Words.{words, number_in_text}
use Rattle.mt_protocol.specs.Verbs.{verb_of, verb_arguments, first_of, most_taken, most_followed}
use Rattle.mt_protocol.specs.declared.verb.Verb.{Verb}
use Rattle.mt_protocol.specs.declared.verb.Verb.TheVariants as verb
use Rattle.mt_requests.specs.declared.request.Request.{Request}
use Rattle.mt_requests.proofs.FaultLaws.{no_faults}
use Rattle.mt_requests.specs.Requests.{bad_unless, words_fault, options_behind, mount_said, command_verb, request_with, HasRightCount, request_verb, read_by, by_words, request_of, ReadsAs, LinesTellVerbs}

-- a mount is one, with attributes or without
mount_made : (n : ℕ) (fs : List ℕ) (path rest : List (List ℕ)) → command_verb (mount_said n fs path rest) ≡ verb.Mount
mount_made n fs path [] = refl
mount_made n fs path (word ∷ rest) = refl

-- the request of a verb has the verb
verb_made : (v : Verb) (w : List (List ℕ)) → request_verb (request_with v w) ≡ v
verb_made verb.Mount w = mount_made _ _ _ (drop 1 (options_behind w))
verb_made v w = refl

-- a count is at least one, and at most so many
bounds : (n : Option ℕ) (most : ℕ) → bad_unless (is_some (option_map_or (λ n. cond {A = Option ℕ} (nat_lt 0 n && nat_le n most) (Some n) None) n None)) ≡ None → (0 < unwrap_or n 0) × (unwrap_or n 0 ≤ most)
bounds None most e = cc
bounds (Some n) most e = go (nat_lt 0 n) (nat_le n most) refl refl e
  where
    go : (low high : Bool) → nat_lt 0 n ≡ low → nat_le n most ≡ high → bad_unless (is_some (cond {A = Option ℕ} (low && high) (Some n) None)) ≡ None → (0 < n) × (n ≤ most)
    go true true l h e = (grind (arith, nat_tests), grind (arith, nat_tests))
    go true false l h e = cc
    go false high l h e = cc

counted : (v : Verb) (w : List (List ℕ)) → words_fault (verb_arguments v) w ≡ None → HasRightCount (request_with v w)
counted verb.Take (word ∷ []) e = bounds (number_in_text word) most_taken (no_faults (verb_arguments verb.Take) (word ∷ []) e).1.0
counted verb.Take [] e = cc
counted verb.Take (word ∷ other ∷ w) e = cc
counted verb.Follow (word ∷ []) e = bounds (number_in_text word) most_followed (no_faults (verb_arguments verb.Follow) (word ∷ []) e).1.0
counted verb.Follow [] e = cc
counted verb.Follow (word ∷ other ∷ w) e = cc
counted v w e = tt

verb_right : (v : Verb) (w : List (List ℕ)) (r : Request) → read_by v w ≡ Ok r → (request_verb r ≡ v) × HasRightCount r
verb_right v w r e = go (words_fault (verb_arguments v) w) refl e
  where
    go : (fault : Option Fault) → words_fault (verb_arguments v) w ≡ fault → ◌≡◌ {A = Result Request Fault} (option_map_or (λ f. Err f) fault (Ok (request_with v w))) (Ok r) → (request_verb r ≡ v) × HasRightCount r
    go None is f = let same : request_with v w ≡ r = cc in subst (λ r. (request_verb r ≡ v) × HasRightCount r) same (verb_made v w, counted v w is)
    go (Some x) is f = cc

words_right : (said : List (List ℕ)) (r : Request) → by_words said ≡ Ok r → (verb_of (first_of said) ≡ Some (request_verb r)) × HasRightCount r
words_right [] r e = cc
words_right (word ∷ rest) r e = go (verb_of word) refl e
  where
    go : (found : Option Verb) → verb_of word ≡ found → option_map_or (λ v. read_by v rest) found (Err BadLine) ≡ Ok r → (verb_of word ≡ Some (request_verb r)) × HasRightCount r
    go None is f = cc
    go (Some v) is f = let of = verb_right v rest r f in (is ∙ ap Some (sym of.0), of.1)

line_right : (line : List ℕ) (r : Request) → request_of line ≡ Ok r → (verb_of (first_of (words line)) ≡ Some (request_verb r)) × HasRightCount r
unfolding request_of
line_right line r e = words_right (words line) r e

-- the verb of a line is that of its request
pub lines_tell : LinesTellVerbs
lines_tell line r e = (line_right line r e).0

-- and so it is with what was read of a line
pub read_right : (line : List ℕ) (read : Result Request Fault) → ReadsAs (request_of line) read → IfOk read HasRightCount
read_right line (Ok r) (inl e) = (line_right line r (sym e)).1
read_right line (Ok r) (inr e) = cc
read_right line (Err f) said = tt
