-- The lines of requests and what of them went out; what was read and printed, line by line, and what cannot come first.
use Rattle.std.proofs.Common.{Bor, ◌≡◌, ℕ, suc, ◌+◌, ◌<◌, List, [], ◌∷◌, ◌++◌, map, length, take, drop, take_all, take-append-drop, refl, sym, ap, ◌∙◌, arith, append_assoc, length-append, Result, Ok, Err, OnOk, OnErr, ◌≢◌, ◌≤◌, subst, IsErrAnd, inl, inr, ◌⊎◌, Option, None, Some}
use Rattle.std.proofs.KnownBytes.{Appends-nil, Appends-trans, Appends-kept}
use Rattle.std.proofs.lemmas.Option.{same_Some}
use Rattle.std.specs.Io.KnownBytes.{Appends, Keeps}
use Rattle.std.specs.Option.{option_map}
use Rattle.std.proofs.lemmas.List.{append-nil, take-append-le, map-append}
use Rattle.std.specs.List.{flat_map, join_with_byte, AllByRecursion}
use Rattle.mt_skel.specs.Escapes.{escaped}
use Rattle.mt_client.specs.Requests.{request_text}
use Rattle.mt_client.specs.Reading.{IsCutOff, IsSentPart, texts, printed, ComeFirst, prepend_lines, Passed, HasRead, IsWhole, HasBroken, IsBroken, NoneFirst, AreSoMany, reading_fault}
use Rattle.std.proofs.lemmas.Grind.{flat_map-append}
use Rattle.mt_lines.specs.Lines.{Item, Text, lines_of}
use Rattle.mt_lines.specs.Reading.{IsNextKnown, IsFaultCause, IsFaultRun}
use Rattle.mt_lines.specs.declared.line.Line.TheVariants.{Text as TextLine, TooLong, Unended, End}
use Rattle.mt_lines.specs.declared.line.ReadFault.{ReadFault}
use Rattle.mt_lines.specs.declared.stream.StreamFault.{StreamFault}
use Rattle.mt_lines.specs.declared.line.ReadFault.TheVariants.{Device, Interrupted, Endless, NoMemory as NoRoom}
use Rattle.mt_client.specs.declared.fault.ClientFault.{ClientFault}
use Rattle.mt_client.specs.declared.fault.ClientFault.TheVariants.{Connection, Output, NoMemory}
use Rattle.mt_events.specs.Posts.{ended}

-- the words behind the first stand each behind the byte between
pub joined : (c : ℕ) (word : List ℕ) (words : List (List ℕ)) → join_with_byte c (word ∷ words) ≡ word ++ flat_map (λ w. c ∷ w) words
joined c word [] = sym (append-nil word)
joined c word (next ∷ words) = ap (λ rest. word ++ c ∷ rest) (joined c next words)

-- what holds after a fault
pub on_err : {A E : Type 0} {P : Type 0} (r : Result A E) → P → OnErr r P
on_err (Ok a) p = tt
on_err (Err e) p = p

pub on_ok : {A E : Type 0} {P : Type 0} (r : Result A E) → P → OnOk r P
on_ok (Ok a) p = p
on_ok (Err e) p = tt

pub on_ok_at : {A E : Type 0} {P : Type 0} {a : A} (r : Result A E) → r ≡ Ok a → OnOk r P → P
on_ok_at {A} {E} {P} {a} r is p = subst (λ x. OnOk x P) is p

-- a text that was cut in its first piece, or in its second
pub cut_first : (text rest : List ℕ) (old new : Option (List ℕ)) (n : ℕ) → n < length text → Appends old new (take n text) → IsCutOff (text ++ rest) old new
cut_first text rest old new n lt e = record {
  count = n;
  out = subst (λ x. Appends old new x) (sym (take-append-le n text rest (omega (arith, lt)))) e;
  within = let l = length-append text rest in omega (arith, lt, l);
}

take_behind : (text rest : List ℕ) (n : ℕ) → take (length text + n) (text ++ rest) ≡ text ++ take n rest
take_behind [] rest n = let e : length {A = ℕ} [] + n ≡ n = omega arith in rw e refl
take_behind (b ∷ text) rest n =
    let e : length (b ∷ text) + n ≡ suc (length text + n) = omega arith in
    rw e (ap (λ x. b ∷ x) (take_behind text rest n))

pub cut_second : (text rest : List ℕ) (old between new : Option (List ℕ)) (n : ℕ) → Appends old between text → n < length rest → Appends between new (take n rest) → IsCutOff (text ++ rest) old new
cut_second text rest old between new n e lt f = record {
  count = length text + n;
  out = subst (λ x. Appends old new x) (sym (take_behind text rest n)) (Appends-trans old between new text (take n rest) e f);
  within = let l = length-append text rest in omega (arith, lt, l);
}

-- the words of a request, of which the first was appended alone
pub words_joined : (words others : List (Bor (List ℕ))) (first : Bor (List ℕ)) (begun all : List ℕ) → words ≡ first ∷ others → begun ≡ escaped first.now
    → all ≡ begun ++ flat_map (λ word. 32 ∷ escaped word.now) others → all ≡ request_text (map (λ word. word.now) words)
words_joined words others first begun all is e f =
    f ∙ ap (λ x. x ++ flat_map (λ word. 32 ∷ escaped word.now) others) e
    ∙ ap (λ x. escaped first.now ++ x) (behind others)
    ∙ sym (joined 32 (escaped first.now) (map escaped (map (λ word. word.now) others)))
    ∙ ap (λ x. request_text (map (λ word. word.now) x)) (sym is)
  where
    behind : (ws : List (Bor (List ℕ))) → flat_map (λ word. 32 ∷ escaped word.now) ws ≡ flat_map (λ w. 32 ∷ w) (map escaped (map (λ word. word.now) ws))
    behind [] = refl
    behind (w ∷ ws) = ap (λ x. 32 ∷ escaped w.now ++ x) (behind ws)

-- a text that went out whole went out in part
pub sent_whole : (text : List ℕ) (old new : Option (List ℕ)) → Appends old new text → IsSentPart text old new
sent_whole text old new e = record { count = length text; out = subst (λ x. Appends old new x) (sym (take_all (length text) text (omega arith))) e }

-- a part of a text, and of one that begins with it
take_front : (text rest : List ℕ) (n : ℕ) → take (length (take n text)) (text ++ rest) ≡ take n text
take_front text rest n =
    let k : ℕ = length (take n text) in
    ap (λ t. take k (t ++ rest)) (sym (take-append-drop n text)) ∙ ap (take k) (append_assoc (take n text) (drop n text) rest) ∙ take-append-le k (take n text) (drop n text ++ rest) (omega arith) ∙ take_all k (take n text) (omega arith)

pub part_first : (first second : List ℕ) (old new : Option (List ℕ)) → IsSentPart first old new → IsSentPart (first ++ second) old new
part_first first second old new p = record { count = length (take p.count first); out = subst (λ x. Appends old new x) (sym (take_front first second p.count)) p.out }

pub part_second : (first second : List ℕ) (old between new : Option (List ℕ)) → Appends old between first → IsSentPart second between new → IsSentPart (first ++ second) old new
part_second first second old between new e p = record {
  count = length first + p.count;
  out = subst (λ x. Appends old new x) (sym (take_behind first second p.count)) (Appends-trans old between new first (take p.count second) e p.out);
}

-- the first of two texts went out, or both
pub part_one : (first second : List ℕ) (old new : Option (List ℕ)) → Appends old new first → IsSentPart (first ++ second) old new
part_one first second old new e = part_first first second old new (sent_whole first old new e)

pub texts-append : (xs ys : List (List ℕ)) → texts (xs ++ ys) ≡ texts xs ++ texts ys
texts-append xs ys = map-append Text xs ys

pub texts_split : (xs ys : List (List ℕ)) (later : List Item) → texts (xs ++ ys) ++ later ≡ texts xs ++ (texts ys ++ later)
texts_split xs ys later = ap (λ x. x ++ later) (texts-append xs ys) ∙ append_assoc (texts xs) (texts ys) later

pub printed-append : (xs ys : List (List ℕ)) → printed (xs ++ ys) ≡ printed xs ++ printed ys
printed-append xs ys = flat_map-append ended xs ys

-- lines that come first: none, two runs of them, and the same lines
pub come_none : (before : Option (List Item)) → ComeFirst before [] before
come_none before = record { known = λ items e. (items, e, refl) }

pub come_both : {xs ys : List (List ℕ)} {a b c : Option (List Item)} → ComeFirst a xs b → ComeFirst b ys c → ComeFirst a (xs ++ ys) c
come_both {xs} {ys} p q = record {
  known = λ items e.
      let r = p.known items e in
      let s = q.known r.0 r.1 in
      (s.0, s.1, r.2 ∙ ap (λ x. texts xs ++ x) s.2 ∙ sym (texts_split xs ys s.0));
}

pub come_as : {xs ys : List (List ℕ)} {a b : Option (List Item)} → xs ≡ ys → ComeFirst a xs b → ComeFirst a ys b
come_as {xs} {ys} {a} {b} e p = subst (λ ls. ComeFirst a ls b) e p

-- lines before known ones
pub prepended : (xs : List (List ℕ)) (later : List Item) → prepend_lines xs (Some later) ≡ Some (texts xs ++ later)
prepended [] later = refl
prepended (x ∷ xs) later = ap (option_map (λ items. Text x ∷ items)) (prepended xs later)

unprepended : (xs : List (List ℕ)) → prepend_lines xs None ≡ None
unprepended [] = refl
unprepended (x ∷ xs) = ap (option_map (λ items. Text x ∷ items)) (unprepended xs)

pub come_prepended : (xs : List (List ℕ)) (after : Option (List Item)) → ComeFirst (prepend_lines xs after) xs after
come_prepended xs None = record { known = λ items e. let no : None ≡ Some items = sym (unprepended xs) ∙ e in cc }
come_prepended xs (Some later) = record { known = λ items e. (later, refl, sym (same_Some (texts xs ++ later) items (sym (prepended xs later) ∙ e))) }

-- what is known is the lines that were read of it and those that are left
known_as : {xs : List (List ℕ)} {a b : Option (List Item)} → ComeFirst a xs b → (items : List Item) → a ≡ Some items → prepend_lines xs b ≡ Some items
known_as {xs} p items e =
    let r = p.known items e in
    ap (prepend_lines xs) r.1 ∙ prepended xs r.0 ∙ ap Some (sym r.2)

pub come_from : {xs ls : List (List ℕ)} {a b c : Option (List Item)} → ComeFirst a xs b → ComeFirst (prepend_lines xs b) ls c → ComeFirst a ls c
come_from p q = record { known = λ items e. q.known items (known_as p items e) }

pub none_from : {kind : List (List ℕ) → Type 0} {xs : List (List ℕ)} {a b : Option (List Item)} → ComeFirst a xs b → NoneFirst kind (prepend_lines xs b) → NoneFirst kind a
none_from p none lines later k e = none lines later k (known_as p (texts lines ++ later) e)

-- a line that is no text leaves nothing to be read
pub none_there : (before : Option (List Item)) → ((line : List ℕ) (later : List Item) → before ≢ Some (Text line ∷ later)) → NoneFirst (AreSoMany 1) before
none_there before none [] later one e = absurd (omega (arith, one))
none_there before none (line ∷ lines) later one e = none line (texts lines ++ later) e

-- one call of a reader: the line that it served, or that there is none
pub come_text : (limit still : ℕ) (before after : Option (List ℕ)) (text : List ℕ) → still ≡ limit → IsNextKnown limit before (Ok TextLine) text after → ComeFirst (option_map (lines_of limit) before) (text ∷ []) (option_map (lines_of still) after)
come_text limit still None after text e n = record { known = λ items no. cc }
come_text limit still (Some before) None text e n = absurd n
come_text limit still (Some before) (Some after) text e n =
    record { known = λ items is. (lines_of still after, refl, sym (same_Some (lines_of limit before) items is) ∙ n ∙ ap (λ l. Text text ∷ lines_of l after) (sym e)) }

pub none_long : (limit : ℕ) (before after : Option (List ℕ)) (text : List ℕ) → IsNextKnown limit before (Ok TooLong) text after → NoneFirst (AreSoMany 1) (option_map (lines_of limit) before)
none_long limit None after text n = none_there None (λ line later e. cc)
none_long limit (Some before) None text n = absurd n
none_long limit (Some before) (Some after) text n = none_there (Some (lines_of limit before)) (λ line later e. let b = sym n ∙ same_Some (lines_of limit before) (Text line ∷ later) e in cc)

pub none_unended : (limit : ℕ) (before after : Option (List ℕ)) (text : List ℕ) → IsNextKnown limit before (Ok Unended) text after → NoneFirst (AreSoMany 1) (option_map (lines_of limit) before)
none_unended limit None after text n = none_there None (λ line later e. cc)
none_unended limit (Some before) None text n = absurd n
none_unended limit (Some before) (Some after) text n = none_there (Some (lines_of limit before)) (λ line later e. let b = sym n.0 ∙ same_Some (lines_of limit before) (Text line ∷ later) e in cc)

pub none_at_end : (limit : ℕ) (before after : Option (List ℕ)) (text : List ℕ) → IsNextKnown limit before (Ok End) text after → NoneFirst (AreSoMany 1) (option_map (lines_of limit) before)
none_at_end limit None after text n = none_there None (λ line later e. cc)
none_at_end limit (Some before) None text n = absurd n
none_at_end limit (Some before) (Some after) text n = none_there (Some (lines_of limit before)) (λ line later e. let b = sym n.0 ∙ same_Some (lines_of limit before) (Text line ∷ later) e in cc)

none_endless : (limit : ℕ) (before after : Option (List ℕ)) (text : List ℕ) → IsNextKnown limit before (Err Endless) text after → NoneFirst (AreSoMany 1) (option_map (lines_of limit) before)
none_endless limit None after text n = none_there None (λ line later e. cc)
none_endless limit (Some before) None text n = absurd n
none_endless limit (Some before) (Some after) text n = none_there (Some (lines_of limit before)) (λ line later e. let b = sym n.1 ∙ same_Some (lines_of limit before) (Text line ∷ later) e in cc)

-- calls that failed later
pub broken_later : {old first new : ℕ} {none some all : List StreamFault} → old ≤ first → (none ≡ [] → some ≡ []) → HasBroken first new some all → HasBroken old new none all
broken_later low served b = record { more = let more = b.more in omega (arith, low, more); last = λ e. b.last (served e) }

-- what is known by its lines: whether one is valid, its lines, and those of several
pub record KnownByLines : Type 1 where
  pub X : Type 0
  pub IsValid : X → Type 0
  pub lines_of : X → List (List ℕ)
  pub all : List X → List (List ℕ)
  pub none : all [] ≡ []
  pub both : (x : X) (xs : List X) → all (x ∷ xs) ≡ lines_of x ++ all xs
  pub some : (x : X) → 0 < length (lines_of x)
  pub alike : (x y : X) (middle later : List Item) → IsValid x → IsValid y → texts (lines_of x) ++ middle ≡ texts (lines_of y) ++ later → (x ≡ y) × (middle ≡ later)

-- the lines of the first of them come first, and how many all are
first_lines : (k : KnownByLines) (x : k.X) (xs : List k.X) (later : List Item) → texts (k.all (x ∷ xs)) ++ later ≡ texts (k.lines_of x) ++ (texts (k.all xs) ++ later)
first_lines k x xs later = ap (λ ls. texts ls ++ later) (k.both x xs) ∙ texts_split (k.lines_of x) (k.all xs) later

counted : (k : KnownByLines) (x : k.X) (xs : List k.X) → length (k.all (x ∷ xs)) ≡ length (k.lines_of x) + length (k.all xs)
counted k x xs = ap length (k.both x xs) ∙ length-append (k.lines_of x) (k.all xs)

-- items that were read are those that come first, or one more comes behind them
pub items_or : {P : Type 0} (k : KnownByLines) (xs ys : List k.X) (middle later : List Item) → AllByRecursion k.IsValid xs → AllByRecursion k.IsValid ys → length (k.all xs) ≤ length (k.all ys) → texts (k.all xs) ++ middle ≡ texts (k.all ys) ++ later
    → (xs ≡ ys → middle ≡ later → P) → ((x : k.X) (rest : List Item) → k.IsValid x → length (k.all xs) + length (k.lines_of x) ≤ length (k.all ys) → middle ≡ texts (k.lines_of x) ++ rest → P) → P
items_or k [] [] middle later p q le e same more = same refl (ap (λ ls. texts ls ++ middle) (sym k.none) ∙ e ∙ ap (λ ls. texts ls ++ later) k.none)
items_or k [] (y ∷ ys) middle later p q le e same more =
    let n = ap length k.none in
    let m = counted k y ys in
    more y (texts (k.all ys) ++ later) q.0 (omega (arith, m, n)) (ap (λ ls. texts ls ++ middle) (sym k.none) ∙ e ∙ first_lines k y ys later)
items_or k (x ∷ xs) [] middle later p q le e same more =
    let n = ap length k.none in
    let m = counted k x xs in
    let s = k.some x in
    absurd (omega (arith, m, n, s, le))
items_or k (x ∷ xs) (y ∷ ys) middle later p q le e same more =
    let a = k.alike x y (texts (k.all xs) ++ middle) (texts (k.all ys) ++ later) p.0 q.0 (sym (first_lines k x xs middle) ∙ e ∙ first_lines k y ys later) in
    let m = counted k x xs in
    let n = counted k y ys in
    let s = ap (λ z. length (k.lines_of z)) a.0 in
    items_or k xs ys middle later p.1 q.1 (omega (arith, m, n, s, le)) a.1 (λ alike. same (λ i. a.0 i ∷ alike i)) (λ z rest is within. more z rest is (omega (arith, m, n, s, within)))

-- as many lines are of the same items, and behind fewer lines one more comes
pub items_alike : (k : KnownByLines) (xs ys : List k.X) {before after : Option (List Item)} (later : List Item) → AllByRecursion k.IsValid xs → AllByRecursion k.IsValid ys → length (k.all xs) ≡ length (k.all ys) → ComeFirst before (k.all xs) after → before ≡ Some (texts (k.all ys) ++ later)
    → (xs ≡ ys) × (after ≡ Some later)
items_alike k xs ys later p q many came e =
    let r = came.known (texts (k.all ys) ++ later) e in
    items_or k xs ys r.0 later p q (omega (arith, many)) (sym r.2) (λ same end. (same, r.1 ∙ ap Some end)) (λ x rest is within there. let s = k.some x in absurd (omega (arith, many, s, within)))

pub items_cut : (k : KnownByLines) (xs ys : List k.X) {before after : Option (List Item)} (later : List Item) → AllByRecursion k.IsValid xs → AllByRecursion k.IsValid ys → length (k.all xs) < length (k.all ys) → ComeFirst before (k.all xs) after → before ≡ Some (texts (k.all ys) ++ later)
    → ((x : k.X) (rest : List Item) → k.IsValid x → length (k.all xs) + length (k.lines_of x) ≤ length (k.all ys) → after ≢ Some (texts (k.lines_of x) ++ rest)) → ⊥
items_cut k xs ys later p q few came e never =
    let r = came.known (texts (k.all ys) ++ later) e in
    items_or k xs ys r.0 later p q (omega (arith, few)) (sym r.2) (λ same end. let n = ap (λ zs. length (k.all zs)) same in omega (arith, few, n)) (λ x rest is within there. never x rest is within (r.1 ∙ ap Some there))

-- two lines that come first are one, and so are lists of as many lines
pub first_alike : {x y : List ℕ} {middle later : List Item} → Text x ∷ middle ≡ Text y ∷ later → (x ≡ y) × (middle ≡ later)
first_alike e = (cc, cc)

each_line : (lines : List (List ℕ)) → AllByRecursion (λ line. Unit {0}) lines
each_line [] = tt
each_line (line ∷ lines) = (tt, each_line lines)

abbrev line_items : KnownByLines
line_items = record { X = List ℕ; IsValid = λ line. Unit {0}; lines_of = λ line. line ∷ []; all = λ lines. lines; none = refl; both = λ line lines. refl; some = λ line. omega arith; alike = λ x y middle later p q e. first_alike e }

pub lines_alike : (xs ys : List (List ℕ)) {before after : Option (List Item)} (later : List Item) → length xs ≡ length ys → ComeFirst before xs after → before ≡ Some (texts ys ++ later) → (xs ≡ ys) × (after ≡ Some later)
lines_alike xs ys later many came e = items_alike line_items xs ys later (each_line xs) (each_line ys) many came e

-- a fault behind lines that were passed on
pub broken_more : (f : ClientFault) (ls : List (List ℕ)) {before middle : Option (List Item)} {old between : Option (List ℕ)} (new : Option (List ℕ)) → Passed ls before middle old between → IsBroken f middle between new → IsBroken f before old new
broken_more f ls {before} {middle} {old} {between} new p b = go f b
  where
    whole : IsWhole middle between new → IsWhole before old new
    whole w = record { lines = ls ++ w.lines; later = w.later; read = come_both p.read w.read; out = subst (λ x. Appends old new x) (sym (printed-append ls w.lines)) (Appends-trans old between new (printed ls) (printed w.lines) p.out w.out) }

    go : (f : ClientFault) → IsBroken f middle between new → IsBroken f before old new
    go Connection w = whole w
    go NoMemory w = whole w
    go Output w = record {
      lines = ls ++ w.lines;
      later = w.later;
      read = come_both p.read w.read;
      out = subst (λ x. IsCutOff x old new) (sym (printed-append ls w.lines)) (cut_second (printed ls) (printed w.lines) old between new w.out.count p.out w.out.within w.out.out);
    }

-- a fault of calls that read on from lines that were read
pub broken_from : (f : ClientFault) {xs : List (List ℕ)} {a b : Option (List Item)} (old new : Option (List ℕ)) → ComeFirst a xs b → IsBroken f (prepend_lines xs b) old new → IsBroken f a old new
broken_from Connection old new p w = record { lines = w.lines; later = w.later; read = come_from p w.read; out = w.out }
broken_from NoMemory old new p w = record { lines = w.lines; later = w.later; read = come_from p w.read; out = w.out }
broken_from Output old new p w = record { lines = w.lines; later = w.later; read = come_from p w.read; out = w.out }

-- fewer lines came than were to come
pub so_many_cut : (n count : ℕ) (before middle : Option (List Item)) → HasRead (AreSoMany n) before middle → n < count → NoneFirst (AreSoMany 1) middle → NoneFirst (AreSoMany count) before
so_many_cut n count before middle h lt none lines later many e =
    items_cut line_items h.0 lines later (each_line h.0) (each_line lines) (omega (arith, h.1, many, lt)) h.2 e (λ line rest is within. none (line ∷ []) rest refl)

-- a fault of the reader
pub cut_by_fault : (f : ReadFault) (limit : ℕ) (before : Option (List ℕ)) (text : List ℕ) (after : Option (List ℕ)) (old new : ℕ) (none all : List StreamFault) → ◌≡◌ {A = Result (Unit {0}) ClientFault} (Err (reading_fault f)) (Err Connection) → IsNextKnown limit before (Err f) text after
    → IsFaultCause f old new → (none ≡ [] → IsFaultRun f all) → HasBroken old new none all ⊎ NoneFirst (AreSoMany 1) (option_map (lines_of limit) before)
cut_by_fault Device limit before text after old new none all is next cause run = inl (record { more = cause; last = λ e. inl (run e) })
cut_by_fault Interrupted limit before text after old new none all is next cause run = inl (record { more = omega (arith, cause); last = λ e. inr (run e) })
cut_by_fault Endless limit before text after old new none all is next cause run = inr (none_endless limit before after text next)
cut_by_fault NoRoom limit before text after old new none all is next cause run = cc

pub never_output : (f : ReadFault) → ◌≡◌ {A = Result (Unit {0}) ClientFault} (Err (reading_fault f)) (Err Output) → ⊥
never_output Device is = cc
never_output Interrupted is = cc
never_output Endless is = cc
never_output NoRoom is = cc

-- a fault that was handed on is the one that is answered
pub same_fault : {A : Type 0} (r : Result A ClientFault) (f k : ClientFault) → IsErrAnd r (λ y. y ≡ f) → r ≡ Err k → f ≡ k
same_fault r f k is answered = let same : k ≡ f = subst (λ x. IsErrAnd x (λ y. y ≡ f)) answered is in sym same

-- a fault of the output within a line, as it is handed on
pub broken_cut : (f : ClientFault) (line : List ℕ) (before after : Option (List Item)) (old new : Option (List ℕ)) → ComeFirst before (line ∷ []) after → f ≡ Output → IsCutOff (ended line) old new → IsBroken f before old new
broken_cut f line before after old new e kind cut =
    subst (λ x. IsBroken x before old new) (sym kind) (record { lines = line ∷ []; later = after; read = e; out = subst (λ x. IsCutOff x old new) (sym (append-nil (ended line))) cut })

-- nothing was printed
pub kept_nothing : (old new : Option (List ℕ)) → Keeps old new → Appends old new []
kept_nothing old new keeps = Appends-kept old old new [] (Appends-nil old) keeps

-- a fault that is none of the output, where nothing was printed yet
pub unprinted : (f : ClientFault) (before : Option (List Item)) (old new : Option (List ℕ)) → f ≢ Output → Keeps old new → IsBroken f before old new
unprinted f before old new other keeps = go f other
  where
    whole : IsWhole before old new
    whole = record { lines = []; later = before; read = come_none before; out = kept_nothing old new keeps }

    go : (f : ClientFault) → f ≢ Output → IsBroken f before old new
    go Connection never = whole
    go NoMemory never = whole
    go Output never = absurd (never refl)
