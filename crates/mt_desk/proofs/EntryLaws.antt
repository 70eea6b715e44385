-- Entries of one session, and of others.
use Rattle.std.proofs.Common.{◌≡◌, ◌≢◌, ℕ, Bool, ◌==◌, List, [], ◌∷◌, ◌++◌, map, filter, refl, sym, ap, ◌∙◌, append_assoc, append-nil}
use Rattle.std.proofs.lemmas.List.{map-append}
use Rattle.std.proofs.lemmas.List.Elements.{filter-append}
use Rattle.std.proofs.lemmas.Bool.{ne_eqb, cond-false}
use mathlib.Core.List.{IsPrefix}
use Rattle.mt_desk.specs.declared.act.Act.{Act}
use Rattle.mt_desk.specs.declared.act.LogEntry.{LogEntry}
use Rattle.mt_desk.specs.Entries.{entry, entries, acts_by, IsSeen}

abbrev act_of : LogEntry → Act
act_of e = e.act

abbrev is_by : ℕ → LogEntry → Bool
is_by n e = e.by == n

pub acts_by-append : (n : ℕ) (xs ys : List LogEntry) → acts_by n (xs ++ ys) ≡ acts_by n xs ++ acts_by n ys
acts_by-append n xs ys = ap (map act_of) (filter-append (is_by n) xs ys) ∙ map-append act_of (filter (is_by n) xs) (filter (is_by n) ys)

pub acts_by-none : (n by : ℕ) (cs : List Act) → n ≢ by → acts_by n (entries by cs) ≡ []
acts_by-none n by [] apart = refl
acts_by-none n by (c ∷ cs) apart =
    ap (map act_of) (cond-false (by == n) (entry by c ∷ filter (is_by n) (entries by cs)) (filter (is_by n) (entries by cs)) (ne_eqb by n (λ same. apart (sym same)))) ∙ acts_by-none n by cs apart

pub acts_more-other : (n by : ℕ) (log : List LogEntry) (cs : List Act) → n ≢ by → acts_by n (log ++ entries by cs) ≡ acts_by n log
acts_more-other n by log cs apart = acts_by-append n log (entries by cs) ∙ ap (λ l. acts_by n log ++ l) (acts_by-none n by cs apart) ∙ append-nil (acts_by n log)

pub prefix_self : (xs : List LogEntry) → IsPrefix xs xs
prefix_self xs = ([], append-nil xs)

pub prefix_more : (xs ys zs : List LogEntry) → IsPrefix xs ys → IsPrefix xs (ys ++ zs)
prefix_more xs ys zs p = (p.0 ++ zs, sym (append_assoc xs p.0 zs) ∙ ap (λ l. l ++ zs) p.1)

pub seen_all : (by : ℕ) (log : List LogEntry) → IsSeen by log log
seen_all by log = (prefix_self log, refl)

-- an entry of another session changes nothing of what a session knows
pub seen_more : (n by : ℕ) (seen log : List LogEntry) (cs : List Act) → n ≢ by → IsSeen n seen log → IsSeen n seen (log ++ entries by cs)
seen_more n by seen log cs apart h = (prefix_more seen log (entries by cs) h.0, acts_more-other n by log cs apart ∙ h.1)
