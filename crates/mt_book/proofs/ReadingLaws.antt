-- What is read from a book.
use Rattle.std.proofs.Common.{◌≡◌, ◌≢◌, ℕ, ◌+◌, ◌<◌, ◌≤◌, ◌==◌, Bool, true, false, List, [], ◌∷◌, ◌++◌, map, length, Option, Result, Ok, Err, IfOk, OnOk, IfErr, OnErr, refl, sym, ap, ◌∙◌, subst, take, get_or}
use Rattle.std.specs.List.{find}
use Rattle.std.specs.Option.{ok_or, option_map}
use Rattle.std.proofs.lemmas.Grind.{take_at_read}
use Rattle.mt_skel.specs.declared.fault.Fault.{Fault}
use Rattle.mt_skel.specs.declared.fault.Fault.TheVariants.{NoMemory, NoNamespace}
use Rattle.mt_propagate.specs.World.{WorldView, is_space}
use Rattle.mt_propagate.specs.WellFormed.{IsWellFormed}
use Rattle.mt_events.specs.Posts.{PostView}
use Rattle.mt_book.specs.declared.command.Command.{Command}
use Rattle.mt_book.specs.declared.command.Reply.{Reply}
use Rattle.mt_book.specs.Step.{after}
use Rattle.mt_book.specs.History.{space_number, posts_of}
use Rattle.mt_book.specs.Book.{space_in, number_in, spaces_of, space_numbers, answer, AreAnswered}
use Rattle.mt_book.proofs.HasLaws.{space_has, has_numbered}
use Rattle.mt_book.proofs.HistoryLaws.{after_good}
use Rattle.mt_book.proofs.ThereLaws.{paired, rows-spaces, number_there, number_nowhere}

-- a namespace that is there has one of the numbers that were given out
pub space_numbered : (w : WorldView) (n : ℕ) → IsWellFormed w → is_space w n ≡ true → (1 ≤ n) × (n < w.next_space)
space_numbered w n h is = has_numbered n w h (space_has n w h is)

-- the number of a namespace that is there is answered, and that another one is not
abbrev pub IsTold : List Command → ℕ → Result ℕ Fault → Type 0
IsTold cs n r = IfOk r (λ k. (is_space (after cs) n ≡ true) × (k ≡ space_number n cs)) × IfErr r (λ f. (f ≡ NoNamespace) × (is_space (after cs) n ≡ false))

pub number_told : (cs : List Command) (ks : List (ℕ × ℕ)) (n : ℕ) (o : Option ℕ) → ks ≡ space_numbers cs → o ≡ option_map number_in (find (λ r. space_in r == n) ks) → IsTold cs n (ok_or o NoNamespace)
unfolding space_numbers
number_told cs ks n o same read =
    subst (λ (o : Option ℕ). IsTold cs n (ok_or o NoNamespace)) (sym (read ∙ ap (λ (l : List (ℕ × ℕ)). option_map number_in (find (λ r. space_in r == n) l)) same)) (by (is_space (after cs) n) refl)
  where
    by : (b : Bool) → is_space (after cs) n ≡ b → IsTold cs n (ok_or (option_map number_in (find (λ r. space_in r == n) (paired (λ k. space_number k cs) (spaces_of (after cs))))) NoNamespace)
    by true is =
        let low = space_numbered (after cs) n (after_good cs).formed is in
        subst (λ (o : Option ℕ). IsTold cs n (ok_or o NoNamespace)) (sym (number_there (λ k. space_number k cs) (after cs) n is low.0 low.1)) ((is, refl), tt)
    by false gone = subst (λ (o : Option ℕ). IsTold cs n (ok_or o NoNamespace)) (sym (number_nowhere (λ k. space_number k cs) (after cs) n gone)) (tt, (refl, gone))

-- the namespaces whose numbers are kept are those that are there
pub spaces_read : (cs : List Command) (ks : List (ℕ × ℕ)) → ks ≡ space_numbers cs → map space_in ks ≡ spaces_of (after cs)
unfolding space_numbers
spaces_read cs ks same = ap (map space_in) same ∙ rows-spaces (λ n. space_number n cs) (spaces_of (after cs))

-- a run of commands is longer by one
run_longer : (cs done : List Command) (answers : List (Result (Reply × List PostView) Fault)) (end : List Command) (c : Command) (a : Result (Reply × List PostView) Fault) (last : List Command)
    → AreAnswered cs done answers end → AreAnswered end (c ∷ []) (a ∷ []) last → AreAnswered cs (done ++ c ∷ []) (answers ++ a ∷ []) last
run_longer cs [] [] end c a last h one = subst (λ (l : List Command). AreAnswered l (c ∷ []) (a ∷ []) last) h one
run_longer cs [] (b ∷ answers) end c a last h one = absurd h
run_longer cs (d ∷ done) [] end c a last h one = absurd h
run_longer cs (d ∷ done) (Ok p ∷ answers) end c a last h one = (h.0, h.1, run_longer (cs ++ d ∷ []) done answers end c a last h.2 one)
run_longer cs (d ∷ done) (Err f ∷ answers) end c a last h one = (h.0, run_longer cs done answers end c a last h.1 one)

one_run : (cs : List Command) (c : Command) (a : Result (Reply × List PostView) Fault) (last : List Command) → IfOk a (λ p. answer cs c ≡ Ok p.0) → IfOk a (λ p. p.1 ≡ posts_of cs c) → OnOk a (last ≡ cs ++ c ∷ []) → IfErr a (λ f. f ≢ NoMemory → answer cs c ≡ Err f) → OnErr a (last ≡ cs)
    → AreAnswered cs (c ∷ []) (a ∷ []) last
one_run cs c (Ok p) last done posts grown refused kept = (done, posts, grown)
one_run cs c (Err f) last done posts grown refused kept = (refused, kept)

pub run_more : (cs commands : List Command) (i : ℕ) (answers more : List (Result (Reply × List PostView) Fault)) (end : List Command) (c : Command) (a : Result (Reply × List PostView) Fault) (last : List Command) → i < length commands → c ≡ get_or commands i c
    → AreAnswered cs (take i commands) answers end → more ≡ answers ++ a ∷ []
    → IfOk a (λ p. answer end c ≡ Ok p.0) → IfOk a (λ p. p.1 ≡ posts_of end c) → OnOk a (last ≡ end ++ c ∷ []) → IfErr a (λ f. f ≢ NoMemory → answer end c ≡ Err f) → OnErr a (last ≡ end)
    → AreAnswered cs (take (i + 1) commands) more last
run_more cs commands i answers more end c a last within at h push done posts grown refused kept =
    let one = one_run end c a last done posts grown refused kept in
    let long = run_longer cs (take i commands) answers end c a last h one in
    rw ((take_at_read commands i c within).1 ∙ ap (λ (x : Command). take i commands ++ x ∷ []) (sym at), push) long
