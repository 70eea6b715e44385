-- Words that are not refused have no fault.
use Rattle.std.proofs.Common.{◌≡◌, ℕ, Bool, true, false, cond, List, [], ◌∷◌, Option, Some, None, fold, refl}
use Rattle.std.specs.List.{list_all}
use Rattle.mt_skel.specs.declared.fault.Fault.{Fault}
use Rattle.mt_skel.specs.declared.fault.Fault.TheVariants.{BadLine}
use Rattle.mt_protocol.specs.Verbs.{is_optional}
use Rattle.mt_protocol.specs.declared.argument.Argument.{Argument}
use Rattle.mt_protocol.specs.declared.argument.Argument.TheVariants.{Space, Scope, Count, Label, Path, Less, Lock, Recursive, Attributes, Setting}
use Rattle.mt_requests.specs.Requests.{is_bad_line, is_too_long, prior_of_two, prior_fault, are_counted, word_faults, words_fault, AreTexts}

-- none of these is a fault
abbrev pub HasNoFault : List (Option Fault) → Type 0
HasNoFault [] = Unit {0}
HasNoFault (f ∷ fs) = (f ≡ None) × HasNoFault fs

one_stays : (p q : Bool) (f : Fault) → cond p (Some f) (cond q (Some f) (Some f)) ≡ None → ⊥
one_stays true q f h = cc
one_stays false true f h = cc
one_stays false false f h = cc

one_of_two_stays : (p q r s : Bool) (f g : Fault) → cond p (Some f) (cond q (Some g) (cond r (Some f) (cond s (Some g) (Some f)))) ≡ None → ⊥
one_of_two_stays true q r s f g h = cc
one_of_two_stays false true r s f g h = cc
one_of_two_stays false false true s f g h = cc
one_of_two_stays false false false true f g h = cc
one_of_two_stays false false false false f g h = cc

prior_of_two-none : (a b : Option Fault) → prior_of_two a b ≡ None → (a ≡ None) × (b ≡ None)
prior_of_two-none None None h = (refl, refl)
prior_of_two-none None (Some g) h = absurd (one_stays (is_bad_line (Some g)) (is_too_long (Some g)) g h)
prior_of_two-none (Some f) None h = absurd (one_stays (is_bad_line (Some f)) (is_too_long (Some f)) f h)
prior_of_two-none (Some f) (Some g) h =
    absurd (one_of_two_stays (is_bad_line (Some f)) (is_bad_line (Some g)) (is_too_long (Some f)) (is_too_long (Some g)) f g h)

fold-none : (a : Option Fault) (faults : List (Option Fault)) → fold prior_of_two a faults ≡ None → (a ≡ None) × HasNoFault faults
fold-none a [] h = (h, tt)
fold-none a (f ∷ faults) h =
    let later = fold-none (prior_of_two a f) faults h in
    let both = prior_of_two-none a f later.0 in (both.0, (both.1, later.1))

-- where none is refused, they are counted rightly, and none has a fault
pub no_faults : (arguments : List Argument) (words : List (List ℕ)) → words_fault arguments words ≡ None → (are_counted arguments words ≡ true) × HasNoFault (word_faults arguments words)
no_faults arguments words h = go (are_counted arguments words) refl h
  where
    go : (counted : Bool) → are_counted arguments words ≡ counted → cond {A = Option Fault} counted (prior_fault (word_faults arguments words)) (Some BadLine) ≡ None → (are_counted arguments words ≡ true) × HasNoFault (word_faults arguments words)
    go true e f = (e, (fold-none None (word_faults arguments words) f).1)
    go false e f = cc

optional_texts : (arguments : List Argument) → list_all is_optional arguments ≡ true → AreTexts arguments []
optional_texts [] e = tt
optional_texts (Setting ∷ arguments) e = tt
optional_texts (Less ∷ arguments) e = optional_texts arguments e
optional_texts (Lock ∷ arguments) e = optional_texts arguments e
optional_texts (Recursive ∷ arguments) e = optional_texts arguments e
optional_texts (Attributes ∷ arguments) e = optional_texts arguments e
optional_texts (Label ∷ arguments) e = cc
optional_texts (Path ∷ arguments) e = cc
optional_texts (Space ∷ arguments) e = cc
optional_texts (Scope ∷ arguments) e = cc
optional_texts (Count most ∷ arguments) e = cc

texts_of : (arguments : List Argument) (words : List (List ℕ)) → are_counted arguments words ≡ true → HasNoFault (word_faults arguments words) → AreTexts arguments words
texts_of arguments [] e h = optional_texts arguments e
texts_of [] (word ∷ words) e h = tt
texts_of (Setting ∷ arguments) (word ∷ words) e h = tt
texts_of (Label ∷ arguments) (word ∷ words) e h = (h.0, texts_of arguments words e h.1)
texts_of (Path ∷ arguments) (word ∷ words) e h = (h.0, texts_of arguments words e h.1)
texts_of (Less ∷ arguments) (word ∷ words) e h = texts_of arguments words e h.1
texts_of (Lock ∷ arguments) (word ∷ words) e h = texts_of arguments words e h.1
texts_of (Recursive ∷ arguments) (word ∷ words) e h = texts_of arguments words e h.1
texts_of (Attributes ∷ arguments) (word ∷ words) e h = texts_of arguments words e h.1
texts_of (Space ∷ arguments) (word ∷ words) e h = texts_of arguments words e h.1
texts_of (Scope ∷ arguments) (word ∷ words) e h = texts_of arguments words e h.1
texts_of (Count most ∷ arguments) (word ∷ words) e h = texts_of arguments words e h.1

-- so the labels and the paths among them have none
pub fine_texts : (arguments : List Argument) (words : List (List ℕ)) → words_fault arguments words ≡ None → AreTexts arguments words
fine_texts arguments words h = let none = no_faults arguments words h in texts_of arguments words none.0 none.1
