-- What calls leave of the streams, one behind another.
use Rattle.std.proofs.Common.{◌≡◌, ◌≢◌, ℕ, List, [], ◌∷◌, ◌++◌, ◌+◌, ◌≤◌, suc, take, length, length-append, refl, sym, ap, subst, ◌∙◌, arith, append_assoc, IsTrue, Bool, MatchBool, Result, Ok, Err, IfOk, IfErr, IsErrAnd, None, ◌⊎◌, inl, inr, true, false}
use Rattle.std.proofs.lemmas.List.{append-nil}
use Rattle.std.specs.List.{flat_map}
use Rattle.std.proofs.KnownBytes.{Appends-nil, Appends-trans, Keeps-refl}
use Rattle.std.specs.Io.KnownBytes.{Appends, Keeps}
use Rattle.std.proofs.lemmas.Result.{err_from_is_err_and}
use Rattle.mt_lines.specs.Reading.{fault_of, failed_calls, last_faults, last_line, limit_of, known_left, IsNextKnown, IsFaultCause, IsFaultRun}
use Rattle.mt_lines.specs.declared.line.Line.TheVariants.{Text as TextLine}
use Rattle.mt_lines.specs.declared.line.LineReader.{LineReader}
use Rattle.mt_lines.specs.declared.line.ReadFault.{ReadFault}
use Rattle.mt_lines.specs.declared.stream.Input.{Ghosts}
use Rattle.mt_lines.specs.declared.stream.Output.{Ghosts as OutputGhosts}
use Rattle.mt_events.specs.Posts.{ended}
use Rattle.mt_client.specs.declared.fault.ClientFault.{ClientFault}
use Rattle.mt_client.specs.declared.fault.ClientFault.TheVariants.{Connection, Output, NoMemory}
use Rattle.mt_client.specs.Reading.{known_lines, printed, AreSent, ComeFirst, prepend_lines, Passed, HasRead, HasPassed, IsBroken, IsCutOff, HasBroken, NoneFirst, AreSoMany, IsCut, reading_fault}
use Rattle.mt_client.specs.Mirroring.{HasRefused}
use Rattle.mt_client.specs.Missing.{IsMissing}
use Rattle.mt_client.specs.Calls.{ReadsOn, WritesOn, AreRead, IsOut, IsOutOrBroken, AreOutOrBroken, IsOutInPart, Breaks, IsFault, IsReadFault, IsPassFault, IsEffectFault, PassesOn, PassesRefusal, IsAskFault}
use Rattle.mt_client.proofs.RelayLaws.{printed-append, come_none, come_text, come_both, come_prepended, broken_later, broken_more, broken_from, cut_by_fault, never_output, unprinted}
use Rattle.mt_client.specs.Awaited.{IsOneRefusal}

pub connection≢output : Connection ≢ Output
connection≢output e = let both : ◌≡◌ {A = ClientFault} Connection Output = e in cc

pub no_memory≢output : NoMemory ≢ Output
no_memory≢output e = let both : ◌≡◌ {A = ClientFault} NoMemory Output = e in cc

pub no_memory≢connection : NoMemory ≢ Connection
no_memory≢connection e = let both : ◌≡◌ {A = ClientFault} NoMemory Connection = e in cc

pub output≢connection : Output ≢ Connection
output≢connection e = let both : ◌≡◌ {A = ClientFault} Output Connection = e in cc

-- one of two causes
pub either : {A B C D : Type 0} → (A → C) → (B → D) → A ⊎ B → C ⊎ D
either f h (inl a) = inl (f a)
either f h (inr b) = inr (h b)

pub match_bool : {A B C D : Type 0} (b : Bool) → (A → C) → (B → D) → MatchBool b A B → MatchBool b C D
match_bool true f h = f
match_bool false f h = h

-- calls that read
pub read_still : {R : Type 0} {g : Ghosts R} (r : LineReader R g) → fault_of r ≡ None → ReadsOn r r
read_still r fresh = record { fresh = fresh; limit = refl; counted = λ u. omega arith; reads = λ u e. e }

pub reads_both : {R : Type 0} {g : Ghosts R} {a b c : LineReader R g} → ReadsOn a b → ReadsOn b c → ReadsOn a c
reads_both p q = record {
  fresh = q.fresh;
  limit = q.limit ∙ p.limit;
  counted = λ u. let m = p.counted u in let n = q.counted u in omega (arith, m, n);
  reads = λ u e. q.reads u (p.reads u e);
}

pub nothing_read : {R : Type 0} {g : Ghosts R} (r : LineReader R g) → fault_of r ≡ None → AreRead [] r r
nothing_read r fresh = record { on = read_still r fresh; came = come_none (known_lines r) }

-- lines that were read, and then more
pub read_both : {R : Type 0} {g : Ghosts R} {xs ys : List (List ℕ)} {a b c : LineReader R g} → AreRead xs a b → AreRead ys b c → AreRead (xs ++ ys) a c
read_both p q = record { on = reads_both p.on q.on; came = come_both p.came q.came }

-- calls that print
pub writes_still : {W : Type 0} (g : OutputGhosts W) (w : W) → WritesOn g w w
writes_still g w = record { counted = λ u. omega arith; serves = λ u e. e }

pub writes_both : {W : Type 0} {g : OutputGhosts W} {a b c : W} → WritesOn g a b → WritesOn g b c → WritesOn g a c
writes_both p q = record { counted = λ u. let m = p.counted u in let n = q.counted u in omega (arith, m, n); serves = λ u e. q.serves u (p.serves u e) }

pub out_both : {W : Type 0} {g : OutputGhosts W} {text more : List ℕ} {a b c : W} → IsOut g text a b → IsOut g more b c → IsOut g (text ++ more) a c
out_both {W} {g} {text} {more} {a} {b} {c} p q = record { on = writes_both p.on q.on; went = Appends-trans (g.contents a) (g.contents b) (g.contents c) text more p.went q.went }

pub out_as : {W : Type 0} {g : OutputGhosts W} {text more : List ℕ} {a b : W} → text ≡ more → IsOut g text a b → IsOut g more a b
out_as {W} {g} {text} {more} {a} {b} e p = record { on = p.on; went = subst (λ x. Appends (g.contents a) (g.contents b) x) e p.went }

pub line_text : (shown line : List ℕ) → shown ≡ line → ended shown ≡ printed (line ∷ [])
line_text shown line e = ap ended e ∙ sym (append-nil (ended line))

-- lines that were appended to a text as they were read
pub appended_of : {R : Type 0} {g : Ghosts R} (n : ℕ) (old new : List ℕ) (a b : LineReader R g) → ((all : List (List ℕ)) × (length all ≡ n) × AreRead all a b × (new ≡ old ++ printed all))
    → (all : List (List ℕ)) × (length all ≡ n) × ComeFirst (known_lines a) all (known_lines b) × (new ≡ old ++ printed all)
appended_of n old new a b h = (h.0, h.1, h.2.came, h.3)

pub appended_line : {R : Type 0} {g : Ghosts R} (n : ℕ) (old text new line : List ℕ) (a b c : LineReader R g) → ((all : List (List ℕ)) × (length all ≡ n) × AreRead all a b × (text ≡ old ++ printed all)) → AreRead (line ∷ []) b c → new ≡ text ++ ended line
    → (all : List (List ℕ)) × (length all ≡ n + 1) × AreRead all a c × (new ≡ old ++ printed all)
appended_line n old text new line a b c h p e =
    let l = length-append h.0 (line ∷ []) in
    let m = h.1 in (
      h.0 ++ line ∷ [],
      omega (arith, l, m),
      read_both h.2 p,
      e ∙ ap (λ x. x ++ ended line) h.3 ∙ append_assoc old (printed h.0) (ended line)
          ∙ ap (λ x. old ++ (printed h.0 ++ x)) (sym (append-nil (ended line))) ∙ ap (λ x. old ++ x) (sym (printed-append h.0 (line ∷ []))),
    )

-- a first line to which others were appended is the text of them all
pub text_whole : (first : List ℕ) (others : List (List ℕ)) (text begun : List ℕ) → begun ≡ [] ++ ended first → text ≡ begun ++ printed others → text ≡ printed (first ∷ others)
text_whole first others text begun began is = is ∙ ap (λ x. x ++ printed others) began

-- a fault that is handed on
pub handed_on : {T : Type 0} (P : ClientFault → Type 0) (r : Result T ClientFault) (f : ClientFault) → IsErrAnd r (λ y. y ≡ f) → P f → IfErr r P
handed_on P r f h holds = let p = err_from_is_err_and r h in rw (p.1, p.2) holds

-- calls that failed later
pub breaks_later : {W : Type 0} {w : OutputGhosts W} {k l m : W} → WritesOn w k l → Breaks w l m → Breaks w k m
breaks_later o b u = broken_later (o.counted u) (o.serves u) (b u)

-- a fault of other calls, where what is missing then is missing here; the same behind calls that read on
pub fault_as : {R : Type 0} {g : Ghosts R} {f : ClientFault} {M N U V : Type 0} {a b : LineReader R g} → (M → N) → (U → V) → IsFault f M U a b → IsFault f N V a b
fault_as needs breaks q = record { limit = q.limit; cut = λ e u. either (λ b. b) needs (q.cut e u); cause = λ e. breaks (q.cause e) }

pub fault_behind : {R : Type 0} {g : Ghosts R} {f : ClientFault} {M N U V : Type 0} {a b c : LineReader R g} → ReadsOn a b → (M → N) → (U → V) → IsFault f M U b c → IsFault f N V a c
fault_behind p needs breaks q = record { limit = q.limit ∙ p.limit; cut = λ e u. either (broken_later (p.counted u) (p.reads u)) needs (q.cut e u); cause = λ e. breaks (q.cause e) }

-- calls that looked at what was read, the same where it is refused, and calls without memory
pub fault_checked : {R : Type 0} {g : Ghosts R} {f : ClientFault} {M U : Type 0} {a b : LineReader R g} → limit_of b ≡ limit_of a → (f ≡ Connection → M) → (f ≡ Output → U) → IsFault f M U a b
fault_checked limit none cause = record { limit = limit; cut = λ e u. inr (none e); cause = cause }

pub fault_refused : {R : Type 0} {g : Ghosts R} {M U : Type 0} {a b : LineReader R g} → limit_of b ≡ limit_of a → M → IsFault Connection M U a b
fault_refused limit none = fault_checked limit (λ e. none) (λ e. absurd (connection≢output e))

pub fault_no_memory : {R : Type 0} {g : Ghosts R} {M U : Type 0} {a : LineReader R g} → IsFault NoMemory M U a a
fault_no_memory = fault_checked refl (λ e. absurd (no_memory≢connection e)) (λ e. absurd (no_memory≢output e))

-- calls that print
pub fault_printing : {R : Type 0} {g : Ghosts R} {f : ClientFault} {M U : Type 0} {a b : LineReader R g} → ReadsOn a b → f ≡ Output → U → IsFault f M U a b
fault_printing p is broken = fault_checked p.limit (λ e. absurd (output≢connection (sym is ∙ e))) (λ e. broken)

-- a last call that looks at what was read
pub checked_end : {R T : Type 0} {g : Ghosts R} {M : Type 0} (a b : LineReader R g) (r : Result T ClientFault) → r ≢ Err Output → limit_of b ≡ limit_of a → (r ≡ Err Connection → M) → IfErr r (λ f. IsFault f M ⊥ a b)
checked_end a b (Ok x) other limit none = tt
checked_end a b (Err f) other limit none = fault_checked limit (λ e. none (ap Err e)) (λ e. other (ap Err e))

-- a line that the reader served
pub text_read : {R : Type 0} {g : Ghosts R} (a b : LineReader R g) → limit_of b ≡ limit_of a → fault_of b ≡ None → IsNextKnown (limit_of a) (known_left a) (Ok TextLine) (last_line b) (known_left b) → (IsTrue g.counts → failed_calls a ≤ failed_calls b)
    → (IsTrue g.counts → last_faults a ≡ [] → last_faults b ≡ []) → AreRead (last_line b ∷ []) a b
text_read a b limit fresh next counted served = record {
  on = record { fresh = fresh; limit = limit; counted = counted; reads = served };
  came = come_text (limit_of a) (limit_of b) (known_left a) (known_left b) (last_line b) limit next;
}

-- a fault of the reader
pub reader_fault : {R : Type 0} {g : Ghosts R} (f : ReadFault) (a b : LineReader R g) → limit_of b ≡ limit_of a → IsNextKnown (limit_of a) (known_left a) (Err f) (last_line b) (known_left b)
    → (IsTrue g.counts → IsFaultCause f (failed_calls a) (failed_calls b)) → (IsTrue g.counts → last_faults a ≡ [] → IsFaultRun f (last_faults b)) → IsReadFault (reading_fault f) (AreSoMany 1) (known_lines a) a b
reader_fault f a b limit next cause run = record {
  limit = limit;
  cut = λ e u. cut_by_fault f (limit_of a) (known_left a) (last_line b) (known_left b) (failed_calls a) (failed_calls b) (last_faults a) (last_faults b) (ap Err e) next (cause u) (run u);
  cause = λ e. never_output f (ap Err e);
}

-- what was read and printed
pub passed_of : {R O : Type 0} {g : Ghosts R} {h : OutputGhosts O} (seen xs : List (List ℕ)) {a b : LineReader R g} {x y : O} → AreRead xs a b → IsOut h (printed (seen ++ xs)) x y
    → Passed (seen ++ xs) (prepend_lines seen (known_lines a)) (known_lines b) (h.contents x) (h.contents y)
passed_of {R} {O} {g} {h} seen xs {a} p o = record { read = come_both (come_prepended seen (known_lines a)) p.came; out = o.went }

pub passes_passed : {R O : Type 0} {g : Ghosts R} {h : OutputGhosts O} {kind : List (List ℕ) → Type 0} {a b : LineReader R g} {x y : O} → PassesOn h [] kind a b x y → HasPassed kind (known_lines a) (known_lines b) (h.contents x) (h.contents y)
passes_passed p = (p.others, p.is, record { read = p.read.came; out = p.out.went })

pub passes_read : {R O : Type 0} {g : Ghosts R} {h : OutputGhosts O} {seen : List (List ℕ)} {kind : List (List ℕ) → Type 0} {a b : LineReader R g} {x y : O} → PassesOn h seen kind a b x y → HasRead kind (prepend_lines seen (known_lines a)) (known_lines b)
passes_read {R} {O} {g} {h} {seen} {kind} {a} p = (seen ++ p.others, p.is, come_both (come_prepended seen (known_lines a)) p.read.came)

pub passes_nothing : {R O : Type 0} {g : Ghosts R} (h : OutputGhosts O) (kind : List (List ℕ) → Type 0) (a : LineReader R g) (x : O) → fault_of a ≡ None → kind [] → PassesOn h [] kind a a x x
passes_nothing h kind a x fresh is = record { others = []; is = is; read = nothing_read a fresh; out = record { on = writes_still h x; went = Appends-nil (h.contents x) } }

pub passes_line : {R O : Type 0} {g : Ghosts R} {h : OutputGhosts O} {kind : List (List ℕ) → Type 0} {line text : List ℕ} {a b : LineReader R g} {x y : O} → AreRead (line ∷ []) a b → text ≡ printed (line ∷ []) → IsOut h text x y → kind (line ∷ []) → PassesOn h [] kind a b x y
passes_line {R} {O} {g} {h} {kind} {line} p e o is = record { others = line ∷ []; is = is; read = p; out = out_as e o }

-- a line that was read before and is printed alone
pub passes_seen : {R O : Type 0} {g : Ghosts R} {h : OutputGhosts O} {line text : List ℕ} {x y : O} (a : LineReader R g) → fault_of a ≡ None → text ≡ printed (line ∷ []) → IsOut h text x y → PassesOn h (line ∷ []) (λ ls. ls ≡ line ∷ []) a a x y
passes_seen a fresh e o = record { others = []; is = refl; read = nothing_read a fresh; out = out_as e o }

-- lines of one kind that are of another too
pub passes_as : {R O : Type 0} {g : Ghosts R} {h : OutputGhosts O} {seen : List (List ℕ)} {kind more : List (List ℕ) → Type 0} {a b : LineReader R g} {x y : O} → ((ls : List (List ℕ)) → kind ls → more ls) → PassesOn h seen kind a b x y → PassesOn h seen more a b x y
passes_as {R} {O} {g} {h} {seen} f p = record { others = p.others; is = f (seen ++ p.others) p.is; read = p.read; out = p.out }

-- lines that were passed on, and then more
pub passes_both : {R O : Type 0} {g : Ghosts R} {h : OutputGhosts O} {seen : List (List ℕ)} {kind more all : List (List ℕ) → Type 0} {a b c : LineReader R g} {x y z : O}
    → ((ls ms : List (List ℕ)) → kind ls → more ms → all (ls ++ ms)) → PassesOn h seen kind a b x y → PassesOn h [] more b c y z → PassesOn h seen all a c x z
passes_both {R} {O} {g} {h} {seen} {kind} {more} {all} join p q = record {
  others = p.others ++ q.others;
  is = subst all (append_assoc seen p.others q.others) (join (seen ++ p.others) q.others p.is q.is);
  read = read_both p.read q.read;
  out = out_as (sym (printed-append (seen ++ p.others) q.others) ∙ ap printed (append_assoc seen p.others q.others)) (out_both p.out q.out);
}

-- lines that were read first and printed with those behind them
pub passes_behind : {R O : Type 0} {g : Ghosts R} {h : OutputGhosts O} {xs : List (List ℕ)} {kind : List (List ℕ) → Type 0} {a b c : LineReader R g} {x z : O} → AreRead xs a b → PassesOn h xs kind b c x z → PassesOn h [] kind a c x z
passes_behind {R} {O} {g} {h} {xs} p q = record { others = xs ++ q.others; is = q.is; read = read_both p q.read; out = q.out }

-- a refusal that was passed on, as it was read
pub refused_of : {R O : Type 0} {g : Ghosts R} {h : OutputGhosts O} {a b : LineReader R g} {x y : O} → PassesRefusal h a b x y → HasRefused (last_line b) (known_lines a) (known_lines b)
refused_of p = record { is = p.is; read = p.read.came }

-- a fault of calls that print lines as they read them
pub pass_fault : {R O : Type 0} {g : Ghosts R} {h : OutputGhosts O} {f : ClientFault} {kind : List (List ℕ) → Type 0} {seen : List (List ℕ)} {a b : LineReader R g} {x y : O}
    → IsFault f (NoneFirst kind (prepend_lines seen (known_lines a))) (Breaks h x y) a b → IsBroken f (prepend_lines seen (known_lines a)) (h.contents x) (h.contents y) → IsPassFault h f kind seen a b x y
pass_fault q broken = record { limit = q.limit; cut = q.cut; cause = q.cause; broken = broken }

pub as_fault : {R O : Type 0} {g : Ghosts R} {h : OutputGhosts O} {f : ClientFault} {kind : List (List ℕ) → Type 0} {seen : List (List ℕ)} {a b : LineReader R g} {x y : O}
    → IsPassFault h f kind seen a b x y → IsFault f (NoneFirst kind (prepend_lines seen (known_lines a))) (Breaks h x y) a b
as_fault q = record { limit = q.limit; cut = q.cut; cause = q.cause }

pub pass_fault_of : {R O : Type 0} {g : Ghosts R} {h : OutputGhosts O} {f : ClientFault} {inner kind : List (List ℕ) → Type 0} {seen : List (List ℕ)} {a b : LineReader R g} {x y : O}
    → (NoneFirst inner (prepend_lines seen (known_lines a)) → NoneFirst kind (prepend_lines seen (known_lines a))) → IsPassFault h f inner seen a b x y → IsPassFault h f kind seen a b x y
pass_fault_of needs q = pass_fault (fault_as needs (λ b. b) (as_fault q)) q.broken

-- where nothing was printed yet
pub pass_unprinted : {R O : Type 0} {g : Ghosts R} {h : OutputGhosts O} {f : ClientFault} {kind : List (List ℕ) → Type 0} {seen : List (List ℕ)} {a b : LineReader R g} {x : O} → IsReadFault f kind (prepend_lines seen (known_lines a)) a b → IsPassFault h f kind seen a b x x
pass_unprinted {R} {O} {g} {h} {f} {kind} {seen} {a} {b} {x} q = pass_fault (fault_as (λ none. none) (λ no. absurd no) q) (unprinted _ _ _ _ q.cause (Keeps-refl (h.contents x)))

pub pass_fault_behind : {R O : Type 0} {g : Ghosts R} {h : OutputGhosts O} {f : ClientFault} {inner kind : List (List ℕ) → Type 0} {seen xs : List (List ℕ)} {a b c : LineReader R g} {x y z : O}
    → AreRead xs a b → IsOut h (printed (seen ++ xs)) x y → (NoneFirst inner (known_lines b) → NoneFirst kind (prepend_lines seen (known_lines a))) → IsPassFault h f inner [] b c y z → IsPassFault h f kind seen a c x z
pass_fault_behind {R} {O} {g} {h} {f} {inner} {kind} {seen} {xs} p o needs q = pass_fault (fault_behind p.on needs (breaks_later o.on) (as_fault q)) (broken_more _ (seen ++ xs) _ (passed_of seen xs p o) q.broken)

-- behind lines that were read before and that are printed with the others
pub pass_fault_inner : {R O : Type 0} {g : Ghosts R} {h : OutputGhosts O} {f : ClientFault} {inner kind : List (List ℕ) → Type 0} {xs : List (List ℕ)} {a b c : LineReader R g} {x z : O}
    → AreRead xs a b → (NoneFirst inner (prepend_lines xs (known_lines b)) → NoneFirst kind (known_lines a)) → IsPassFault h f inner xs b c x z → IsPassFault h f kind [] a c x z
pass_fault_inner {R} {O} {g} {h} {f} {inner} {kind} {xs} {a} {b} {c} {x} {z} p needs q = pass_fault (fault_behind p.on needs (λ b. b) (as_fault q)) (broken_from f (h.contents x) (h.contents z) p.came q.broken)

pub pass_fault_printing : {R O : Type 0} {g : Ghosts R} {h : OutputGhosts O} {f : ClientFault} {kind : List (List ℕ) → Type 0} {seen xs : List (List ℕ)} {text : List ℕ} {a b : LineReader R g} {x z : O}
    → AreRead xs a b → text ≡ printed (seen ++ xs) → (f ≡ Output) × IsOutInPart h text x z → IsPassFault h f kind seen a b x z
pass_fault_printing {R} {O} {g} {h} {f} {kind} {seen} {xs} {text} {a} {b} {x} {z} p is part =
    pass_fault (fault_printing p.on part.0 part.1.cause)
    (subst (λ k. IsBroken k (prepend_lines seen (known_lines a)) (h.contents x) (h.contents z)) (sym part.0) (record {
      lines = seen ++ xs;
      later = known_lines b;
      read = come_both (come_prepended seen (known_lines a)) p.came;
      out = subst (λ s. IsCutOff s (h.contents x) (h.contents z)) is part.1.cut;
    }))

-- the output failed within lines that were read behind others, which were printed
pub pass_fault_printing_behind : {R O : Type 0} {g : Ghosts R} {h : OutputGhosts O} {f : ClientFault} {kind : List (List ℕ) → Type 0} {xs ys : List (List ℕ)} {text : List ℕ} {a b c : LineReader R g} {x y z : O}
    → AreRead xs a b → IsOut h (printed xs) x y → AreRead ys b c → text ≡ printed ys → (f ≡ Output) × IsOutInPart h text y z → IsPassFault h f kind [] a c x z
pass_fault_printing_behind p o q is part = pass_fault_behind {inner = λ ls. ls ≡ []} {seen = []} p o (λ none lines later k e. let r = p.came.known _ e in none [] r.0 refl r.1) (pass_fault_printing q is part)

-- a fault behind lines that were printed, since no lines of this kind come first
pub pass_refused_behind : {R O : Type 0} {g : Ghosts R} {h : OutputGhosts O} {kind : List (List ℕ) → Type 0} {seen xs : List (List ℕ)} {a b c : LineReader R g} {x y : O} → AreRead xs a b → IsOut h (printed (seen ++ xs)) x y → limit_of c ≡ limit_of b
    → NoneFirst kind (prepend_lines seen (known_lines a)) → IsPassFault h Connection kind seen a c x y
pass_refused_behind p o limit none = pass_fault_behind {inner = λ ls. ⊥} p o (λ never. none) (pass_unprinted (fault_refused limit (λ lines later never. absurd never)))

-- a fault of calls that ask, read and print, behind others
pub effect_behind : {R W O : Type 0} {g : Ghosts R} {w : OutputGhosts W} {h : OutputGhosts O} {f : ClientFault} (inner missing : Type 0 → Type 0) {a b c : LineReader R g} {k l m : W} {x y z : O}
    → ReadsOn a b → WritesOn w k l → WritesOn h x y → ((less more : Type 0) → (less → more) → inner less → missing more) → IsEffectFault w h f inner b c l m y z → IsEffectFault w h f missing a c k m x z
effect_behind inner missing p s o needs q = fault_behind p (λ i v. needs _ _ (broken_later (s.counted v) (s.serves v)) (i v)) (breaks_later o) q

-- a fault of a request, and of what is read behind it
pub ask_no_memory : {R W O : Type 0} {g : Ghosts R} {w : OutputGhosts W} {h : OutputGhosts O} {kind : List (List ℕ) → Type 0} {a : LineReader R g} {k : W} {x : O} → IsAskFault w h NoMemory kind a a k k x x
ask_no_memory {R} {W} {O} {g} {w} {h} {kind} {a} {k} {x} =
    let q : IsFault NoMemory (IsTrue w.counts → IsMissing (HasBroken (w.failed k) (w.failed k) (w.faults k) (w.faults k)) kind (known_lines a)) (Breaks h x x) a a = fault_no_memory in
    record { limit = q.limit; cut = q.cut; cause = q.cause; kept = λ other. Keeps-refl (h.contents x); broken = unprinted _ _ _ _ no_memory≢output (Keeps-refl (h.contents x)) }

pub ask_fault_sending : {R W O : Type 0} {g : Ghosts R} {w : OutputGhosts W} {h : OutputGhosts O} {f : ClientFault} {kind : List (List ℕ) → Type 0} {a b : LineReader R g} {k l : W} {x y : O}
    → Breaks w k l → (f ≢ Output → Keeps (h.contents x) (h.contents y)) → IsPassFault h f IsOneRefusal [] a b x y → IsAskFault w h f kind a b k l x y
ask_fault_sending cause kept q = record { limit = q.limit; cut = λ e u. either (λ b. b) (λ none v. inr (cause v, none)) (q.cut e u); cause = q.cause; kept = kept; broken = q.broken }

pub ask_fault_passing : {R W O : Type 0} {g : Ghosts R} {w : OutputGhosts W} {h : OutputGhosts O} {f : ClientFault} {kind : List (List ℕ) → Type 0} {a b : LineReader R g} {k l : W} {x y : O}
    → (f ≢ Output → Keeps (h.contents x) (h.contents y)) → IsPassFault h f kind [] a b x y → IsAskFault w h f kind a b k l x y
ask_fault_passing kept q = record { limit = q.limit; cut = λ e u. either (λ b. b) (λ none v. inl none) (q.cut e u); cause = q.cause; kept = kept; broken = q.broken }

pub ask_fault_of : {R W O : Type 0} {g : Ghosts R} {w : OutputGhosts W} {h : OutputGhosts O} {f : ClientFault} {inner kind : List (List ℕ) → Type 0} {a b : LineReader R g} {k l : W} {x y : O} → (NoneFirst inner (known_lines a) → NoneFirst kind (known_lines a)) → IsAskFault w h f inner a b k l x y
    → IsAskFault w h f kind a b k l x y
ask_fault_of needs q = record { limit = q.limit; cut = λ e u. either (λ b. b) (λ m v. either needs (λ s. s) (m v)) (q.cut e u); cause = q.cause; kept = q.kept; broken = q.broken }

-- its cause, where what is read behind it is the first of all that is awaited
pub ask_cut : {R W O : Type 0} {g : Ghosts R} {w : OutputGhosts W} {h : OutputGhosts O} {f : ClientFault} {inner kind : List (List ℕ) → Type 0} {a b : LineReader R g} {k l : W} {x y : O} → (NoneFirst inner (known_lines a) → NoneFirst kind (known_lines a)) → IsAskFault w h f inner a b k l x y
    → f ≡ Connection → IsTrue g.counts → IsTrue w.counts → (HasBroken (w.failed k) (w.failed l) (w.faults k) (w.faults l) × IsCut IsOneRefusal a b) ⊎ IsCut kind a b
ask_cut needs q e u v = elim (q.cut e u) [ inl broken ↦ inr (inl broken) | inr missing ↦ elim (missing v) [ inl none ↦ inr (inr (needs none)) | inr unsent ↦ inl (unsent.0, inr unsent.1) ] ]

-- the cause of a fault behind a request that went out, where none refuses it
pub talk_cut : {R W U : Type 0} {g : Ghosts R} {w : OutputGhosts W} {f : ClientFault} {inner kind : List (List ℕ) → Type 0} {text : List ℕ} {a b c : LineReader R g} {k l m : W}
    → ReadsOn a b → IsOut w text k l → NoneFirst IsOneRefusal (known_lines a) → (NoneFirst inner (known_lines b) → NoneFirst kind (known_lines a)) → IsFault f (IsTrue w.counts → HasBroken (w.failed l) (w.failed m) (w.faults l) (w.faults m) ⊎ NoneFirst inner (known_lines b)) U b c
    → f ≡ Connection → IsTrue g.counts → IsTrue w.counts → (HasBroken (w.failed k) (w.failed m) (w.faults k) (w.faults m) × IsCut IsOneRefusal a c) ⊎ IsCut kind a c
talk_cut on sent unrefused needs q e u v = elim (q.cut e u) [
  | inl broken ↦ inr (inl (broken_later (on.counted u) (on.reads u) broken))
  | inr missing ↦ either (λ b. (broken_later (sent.on.counted v) (sent.on.serves v) b, inr unrefused)) (λ none. inr (needs none)) (missing v)
]

-- what was printed to the writer, where a request went out and behind it another, or calls failed
pub writes_told : {W : Type 0} {w : OutputGhosts W} {text more : List ℕ} {k l m : W} (r : Result Bool ClientFault) → IsOut w text k l → (r ≡ Ok true → IsOut w more l m) → (r ≡ Ok false → IsTrue w.counts → (w.faults l ≡ [] → w.faults m ≡ []) ⊎ HasBroken (w.failed l) (w.failed m) (w.faults l) (w.faults m))
    → IfOk r (λ told. IsTrue w.counts → w.faults k ≡ [] → (w.faults m ≡ []) ⊎ ((told ≡ false) × HasBroken (w.failed k) (w.failed m) (w.faults k) (w.faults m)))
writes_told (Err f) o sent unsent = tt
writes_told (Ok true) o sent unsent = λ v e. inl ((sent refl).on.serves v (o.on.serves v e))
writes_told (Ok false) o sent unsent = λ v e. either (λ s. s (o.on.serves v e)) (λ b. (refl, broken_later (o.on.counted v) (o.on.serves v) b)) (unsent refl v)

-- the first of some requests went out, and behind it more of them
first_sent : {W : Type 0} {w : OutputGhosts W} (request : List ℕ) (more : List (List ℕ)) {k l : W} → IsOut w (ended request) k l → AreSent (request ∷ more) (w.contents k) (w.contents l)
first_sent {W} {w} request more {k} {l} o = record { count = 1; some = omega arith; within = omega arith; out = subst (λ x. Appends (w.contents k) (w.contents l) x) (sym (append-nil (ended request))) o.went }

more_sent : {W : Type 0} {w : OutputGhosts W} (request : List ℕ) (more : List (List ℕ)) {k l m : W} → IsOut w (ended request) k l → AreSent more (w.contents l) (w.contents m) → AreSent (request ∷ more) (w.contents k) (w.contents m)
more_sent {W} {w} request more {k} {l} {m} o s = record {
  count = suc s.count;
  some = omega arith;
  within = let n = s.within in omega (arith, n);
  out = Appends-trans (w.contents k) (w.contents l) (w.contents m) (ended request) (flat_map ended (take s.count more)) o.went s.out;
}

pub first_asked : {W : Type 0} {w : OutputGhosts W} (request : List ℕ) (more : List (List ℕ)) {k l : W} → IsOut w (ended request) k l ⊎ Breaks w k l → AreOutOrBroken w (request ∷ more) k l
first_asked request more (inl o) = inl (first_sent request more o)
first_asked request more (inr broken) = inr broken

pub more_asked : {W : Type 0} {w : OutputGhosts W} (request : List ℕ) (more : List (List ℕ)) {k l m : W} → IsOut w (ended request) k l → AreOutOrBroken w more l m → AreOutOrBroken w (request ∷ more) k m
more_asked request more o (inl s) = inl (more_sent request more o s)
more_asked request more o (inr broken) = inr (breaks_later o.on broken)

-- one request that went out, or calls failed
pub asked_alone : {W : Type 0} (w : OutputGhosts W) (request : List ℕ) {k l : W} → IsOutOrBroken w (ended request) k l → AreOutOrBroken w (request ∷ []) k l
asked_alone w request {k} {l} (inl out) = inl (record { count = 1; some = omega arith; within = omega arith; out = subst (λ x. Appends (w.contents k) (w.contents l) x) (sym (append-nil (ended request))) out })
asked_alone w request (inr broken) = inr broken
