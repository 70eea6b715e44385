-- What a session in a thread of its own has answered: the pieces of an answer, and line by line.
use Rattle.std.proofs.Common.{subst, ◌≡◌, ◌≢◌, ◌∙◌, true≢false, ℕ, zero, suc, ◌<◌, ◌≤◌, List, [], ◌∷◌, ◌++◌, map, take, refl, ap, sym, inl, inr, true, Result, Ok, Err, Option, Some, None, arith, length, length-append, unwrap_or}
use Rattle.std.proofs.lemmas.List.{append-nil, map-append}
use Rattle.std.proofs.lemmas.Grind.{flat_map-append}
use Rattle.std.specs.List.{flat_map}
use Rattle.mt_skel.specs.declared.fault.Fault.{Fault}
use Rattle.mt_skel.specs.declared.fault.Fault.TheVariants.{BadLine, TooLong as LineTooLong, NoMemory as WantsMemory}
use Rattle.mt_lines.specs.declared.stream.Cut.{Cut}
use Rattle.mt_lines.specs.declared.line.ReadFault.{ReadFault}
use Rattle.mt_lines.specs.declared.line.ReadFault.TheVariants.{Endless as NeverEnds, NoMemory as NoRoom}
use Rattle.std.specs.Io.KnownBytes.{Appends, Keeps}
use Rattle.std.proofs.KnownBytes.{Appends-nil, Appends-trans}
use Rattle.mt_lines.specs.Lines.{Item, Unended}
use Rattle.mt_lines.specs.declared.line.Line.{Line}
use Rattle.mt_lines.specs.declared.line.Line.TheVariants.{Text as TextLine, TooLong as LongLine, Unended as BrokenLine, End as NoLine}
use Rattle.mt_lines.specs.Reading.{IsNextKnown, LosesNoLine, PassLines}
use Rattle.mt_desk.specs.Calls.{WatcherView}
use Rattle.mt_requests.specs.declared.request.Request.{Request}
use Rattle.mt_requests.specs.declared.request.Request.TheVariants.{Follow, Quit as AsksQuit, Stop as AsksStop}
use Rattle.mt_requests.specs.Requests.{request_of, ReadsAs}
use Rattle.mt_session.specs.declared.serving.End.{End}
use Rattle.mt_session.specs.declared.serving.End.TheVariants.{Input, Read, Cut as CutOff, Spent}
use Rattle.mt_session.specs.declared.shared_answer.Then.{Then}
use Rattle.mt_session.specs.declared.shared_answer.Then.TheVariants.{More, Over}
use Rattle.mt_session.specs.Answers.{refusal}
use Rattle.mt_session.specs.Session.{Asking, Whole, Overlong, Broken, item_of, has_end, request_of_line, ends_by, line_limit, EndsInput}
use Rattle.mt_session.specs.Answering.{IsSent, is_by_answer, AnswersLine, ServesNext, ServesLines, ServesAll}
use Rattle.mt_session.specs.SharedSession.{new_session, IsTurn, IsInFront, IsAnswerSoFar, SharedTurn, AreTurns, TurnsGoOn, HasLeft, WasLeft, ServedShared, FollowsSoFar, EndsOfInput, EndsOfAnswer, SharedGoing, SharedEnding, ServedSharedLine}
use Rattle.mt_session.specs.SharedServing.{IsKeptOrLeft, Follows, IsSoFar, AnswersWhole, IsPiece, IsCutPiece, IsOutcome, ServesAsked, OnDesk, SharedLinesAreServed}
use Rattle.mt_session.proofs.EndLaws.{is_uncut}
use Rattle.mt_lines.proofs.PassLaws.{pass_none, pass_more, pass_text, pass_long}
use Rattle.mt_session.proofs.PassLaws.{pass_broken, pass_end, pass_endless, input_more, kept_nothing}
use Rattle.mt_desk.specs.declared.act.LogEntry.{LogEntry}
use Rattle.mt_desk.specs.Entries.{WitnessView}
use Rattle.mt_session.specs.SharedTurns.{SharedView, is_under_lock, SeesOn}
use Rattle.mt_session.proofs.WatcherLaws.{turn_keeps, kept_same, was_left}

-- ---- An answer, piece by piece

pub following_so_far : (w w' : Option WatcherView) (r : Request) (out : List ℕ) (told : ℕ) → Follows w r out told w' → FollowsSoFar w (Ok r) out
following_so_far w w' r out told f =
    let told_most : length f.posts ≤ f.most = omega (arith, f.count, f.within) in
    rw (f.had, f.asked) (f.posts, f.after, f.taken, told_most, f.text)

pub so_far_front : (w mid : SharedView) (r : Request) (out : List ℕ) (told : ℕ) → IsSoFar w r out told mid → IsInFront w.own (Ok r) out
so_far_front w mid r out told (inl s) = inl s.0
so_far_front w mid r out told (inr f) = inr (following_so_far w.own mid.own r out told f.0)

-- an answer that is no `follow` is begun by its first piece
pub piece_at_once : (s mid s' : SharedView) (r : Request) (out : List ℕ) (told : ℕ) (p : Option (List ℕ)) (n : Then) → ((most : ℕ) → r ≢ Follow most)
    → IsSoFar s r out told mid → IsPiece mid r [] p n s' → IsPiece s r out p n s'
piece_at_once s mid s' r out told p n other (inl x) piece = rw (x.0, ← x.2) piece
piece_at_once s mid s' r out told p n other (inr f) piece = absurd (other f.0.most f.0.asked)

pub desk_follows_none : (r : Request) → is_under_lock r ≡ true → (most : ℕ) → r ≢ Follow most
desk_follows_none r lock most is = true≢false (sym lock ∙ ap is_under_lock is)

-- it goes on
pub piece_more : (w w' : SharedView) (r : Request) (out : List ℕ) (told : ℕ) (p : Option (List ℕ)) (n : Then) → n ≡ More told → IsPiece w r out p n w' → IsSoFar w r (out ++ unwrap_or p []) told w'
piece_more w w' r out told p n is piece = inr (rw is at piece)

-- ---- Answers

-- an answer that is out whole
outcome_of : (w w' : SharedView) (asked : Result Request Fault) (out : List ℕ) → IsTurn w asked out w' → IsOutcome (ends_by asked) w asked out w'
outcome_of w w' (Ok AsksQuit) out t = (refl, t)
outcome_of w w' (Ok AsksStop) out t = (refl, t)
outcome_of w w' asked out t = (t, refl)

-- how the session goes on with it, or ends, but by no cut
record IsOut (w : SharedView) (asked : Result Request Fault) (out : List ℕ) (end : Option End) (w' : SharedView) : Type 0 where
  outcome : IsOutcome end w asked out w'
  watcher : IsKeptOrLeft w.own w'.own w'.sight.seen
  so_far : IsAnswerSoFar w asked out w'
  uncut : is_uncut end ≡ true

whole_out : (w w' : SharedView) (asked : Result Request Fault) (out : List ℕ) (end : Option End) → AnswersWhole w asked out end w' → IsOut w asked out end w'
whole_out w w' asked out end (inl (turn, is)) = record { outcome = rw is (outcome_of w w' asked out turn); watcher = turn_keeps w asked out w' turn; so_far = inl turn; uncut = rw is (grind arith) }
whole_out w w' asked out end (inr (lost, keeps, sees, is)) = record { outcome = rw is (lost, sees); watcher = keeps; so_far = inr (inl lost, sees); uncut = rw is refl }

serves_whole : (w w' : SharedView) (asked : Result Request Fault) (sent written : Option (List ℕ)) (out : List ℕ) (end : Option End)
    → Appends sent written out → AnswersWhole w asked out end w' → ServesAsked w asked sent written end w'
serves_whole w w' asked sent written out end is whole =
    let o = whole_out w w' asked out end whole in record { out = out; written_is = is; outcome = o.outcome; watcher = o.watcher }

-- an answer that was cut within a piece
serves_cut : (w w' : SharedView) (asked : Result Request Fault) (sent written : Option (List ℕ)) (front piece : List ℕ) (cut : Cut)
    → Appends sent written (front ++ take cut.sent piece) → IsInFront w.own asked front → IsAnswerSoFar w asked (front ++ piece) w' → cut.sent < length piece → IsKeptOrLeft w.own w'.own w'.sight.seen
    → ServesAsked w asked sent written (Some (CutOff cut)) w'
serves_cut w w' asked sent written front piece cut is before answer fewer keeps = record {
  out = front ++ take cut.sent piece;
  written_is = is;
  outcome = inl record { front = front; piece = piece; front_is = before; answer = answer; fewer = fewer; out_is = refl };
  watcher = keeps;
}

-- the whole answer was sent, or cut
serves_sent : (w w' : SharedView) (asked : Result Request Fault) (sent written : Option (List ℕ)) (text : List ℕ) (end result : Option End)
    → IsSent sent written text end result → AnswersWhole w asked text end w' → ServesAsked w asked sent written result w'
serves_sent w w' asked sent written text end result (inl s) whole = rw s.0 (serves_whole w w' asked sent written text end s.1 whole)
serves_sent w w' asked sent written text end result (inr s) whole =
    let o = whole_out w w' asked text end whole in rw s.1 (serves_cut w w' asked sent written [] text s.0 s.2 (inl refl) o.so_far s.3 o.watcher)

-- ---- Answers of pieces

-- the last piece is out whole
pub piece_over : (w w' : SharedView) (r : Request) (sent so_far written : Option (List ℕ)) (out : List ℕ) (p : Option (List ℕ)) (n : Then) (end : Option End)
    → IsPiece w r out p n w' → n ≡ Over end → Appends sent so_far out → Appends so_far written (unwrap_or p []) → ServesAsked w (Ok r) sent written end w'
piece_over w w' r sent so_far written out None n end piece is e more = absurd (rw is at piece)
piece_over w w' r sent so_far written out (Some text) n end piece is e more =
    serves_whole w w' (Ok r) sent written (out ++ text) end (Appends-trans sent so_far written out text e more) (rw is at piece)

following_keeps : (w w' : Option WatcherView) (r : Request) (out : List ℕ) (told : ℕ) (seen : List LogEntry) → Follows w r out told w' → IsKeptOrLeft w w' seen
following_keeps w w' r out told seen f = rw (f.had, f.has) (f.posts, f.taken.0, f.taken.2)

-- a piece was cut
pub piece_cut : (w mid w' : SharedView) (r : Request) (sent so_far written : Option (List ℕ)) (out : List ℕ) (told : ℕ) (p : Option (List ℕ)) (n : Then) (cut : Cut)
    → IsSoFar w r out told mid → IsPiece w r out p n w' → IsCutPiece cut.sent p → Appends sent so_far out → Appends so_far written (take cut.sent (unwrap_or p []))
    → ServesAsked w (Ok r) sent written (Some (CutOff cut)) w'
piece_cut w mid w' r sent so_far written out told (Some text) (More next) cut s piece fewer e more =
    serves_cut w w' (Ok r) sent written out text cut (Appends-trans sent so_far written out (take cut.sent text) e more) (so_far_front w mid r out told s)
    (inr (inr (following_so_far w.own w'.own r (out ++ text) next piece.0), piece.1)) fewer (following_keeps w.own w'.own r (out ++ text) next w'.sight.seen piece.0)
piece_cut w mid w' r sent so_far written out told (Some text) (Over end) cut s piece fewer e more =
    let o = whole_out w w' (Ok r) (out ++ text) end piece in
    serves_cut w w' (Ok r) sent written out text cut (Appends-trans sent so_far written out (take cut.sent text) e more) (so_far_front w mid r out told s) o.so_far fewer o.watcher
piece_cut w mid w' r sent so_far written out told None (More next) cut s piece none e more = record {
  out = out ++ [];
  written_is = Appends-trans sent so_far written out [] e (subst (λ (k : ℕ). Appends so_far written (take k [])) none more);
  outcome = inr (none, following_so_far w.own w'.own r (out ++ []) next piece.0, piece.1);
  watcher = following_keeps w.own w'.own r (out ++ []) next w'.sight.seen piece.0;
}
piece_cut w mid w' r sent so_far written out told None (Over end) cut s piece none e more = absurd piece

-- the last piece of an answer is never the cause that a writer ends the session
pub piece_uncut : (w w' : SharedView) (r : Request) (out : List ℕ) (p : Option (List ℕ)) (n : Then) (end : Option End) → IsPiece w r out p n w' → n ≡ Over end → is_uncut end ≡ true
piece_uncut w w' r out None n end piece is = absurd (rw is at piece)
piece_uncut w w' r out (Some text) n end piece is = (whole_out w w' (Ok r) (out ++ text) end (rw is at piece)).uncut

-- ---- Lines

-- a line that is refused for itself, that says no request, or that could not be read for want of memory
refused_served : (w : SharedView) (f : Fault) (sent written : Option (List ℕ)) (result : Option End) → IsSent sent written (refusal f) None result → ServesAsked w (Err f) sent written result w
refused_served w f sent written result s = serves_sent w w (Err f) sent written (refusal f) None result s (inl (inl (refl, refl), refl))

pub unread_served : (w : SharedView) (asked : Result Request Fault) (f : Fault) (sent written : Option (List ℕ)) (result : Option End)
    → ReadsAs asked (Err f) → IsSent sent written (refusal f) None result → ServesAsked w asked sent written result w
unread_served w asked f sent written result (inl e) s = rw (← e) (refused_served w f sent written result s)
unread_served w asked f sent written result (inr (e, m)) s =
    let same : f ≡ WantsMemory = cc in
    let goes : ends_by asked ≡ None = grind arith in
    serves_sent w w asked sent written (refusal f) None result s (inl (inr (ap refusal same, inl (m, refl)), sym goes))

pub read_is : (w w' : SharedView) (asked : Result Request Fault) (r : Request) (sent written : Option (List ℕ)) (result : Option End)
    → ReadsAs asked (Ok r) → ServesAsked w (Ok r) sent written result w' → ServesAsked w asked sent written result w'
read_is w w' asked r sent written result (inl e) s = rw (← e) s
read_is w w' asked r sent written result (inr e) s = cc

-- an answer that ends the session leaves its input open
answer_input : (by : End) (w w' : SharedView) (asked : Result Request Fault) (out : List ℕ) (before : Option (List ℕ)) (items : List Item) → EndsOfAnswer by w asked out w' → EndsInput by before items
answer_input Input w w' asked out before items h = absurd h
answer_input (Read f) w w' asked out before items h = absurd h
answer_input by w w' asked out before items h = tt

-- a line with its line end
line_served : (before later : Option (List ℕ)) (line : Asking) (w w' : SharedView) (sent written : Option (List ℕ)) (result : Option End)
    → PassLines line_limit before (item_of line ∷ []) later → has_end line ≡ true → ServesAsked w (request_of_line line) sent written result w'
    → ServedSharedLine before later w w' sent written result
line_served before later line w w' sent written None lines ends s =
    let turn : SharedTurn = record { line = line; text = s.out } in (
      turn,
      record {
        lines = lines;
        told = (w', s.outcome.0, refl);
        goes = (ends, s.outcome.1, tt);
        written_is = subst (λ (x : List ℕ). Appends sent written x) (sym (append-nil s.out)) s.written_is;
      },
    )
line_served before later line w w' sent written (Some by) lines ends s = record {
  last = item_of line ∷ [];
  rest = later;
  lines = lines;
  input = answer_input by w w' (request_of_line line) s.out before (item_of line ∷ []) s.outcome;
  out = s.out;
  written_is = s.written_is;
  ends = inr (line, refl, refl, s.outcome);
  left = λ v left sees. was_left w.own w'.own w'.sight.seen s.watcher v.seen left sees.1.0;
}

-- the last line has no line end, or there is none
left_so : (w : SharedView) (v : WitnessView) → HasLeft w.own v.seen → SeesOn w.sight v → WasLeft w.own v.seen
left_so w v left sees = was_left w.own w.own w.sight.seen (kept_same w.own w.sight.seen) v.seen left sees.1.0

unended_served : (before later : Option (List ℕ)) (w : SharedView) (sent written : Option (List ℕ)) (result : Option End)
    → PassLines line_limit before (Unended ∷ []) later → EndsInput Input before (Unended ∷ []) → IsSent sent written (refusal BadLine) (Some Input) result → ServedSharedLine before later w w sent written result
unended_served before later w sent written result lines input (inl s) =
    rw s.0 record { last = Unended ∷ []; rest = later; lines = lines; input = input; out = refusal BadLine; written_is = s.1; ends = inl ((refl, inr (refl, refl)), refl); left = left_so w }
unended_served before later w sent written result lines input (inr s) =
    rw s.1 record {
      last = Unended ∷ [];
      rest = later;
      lines = lines;
      input = tt;
      out = take s.0.sent (refusal BadLine);
      written_is = s.2;
      ends = inr (Broken, refl, refl, inl record { front = []; piece = refusal BadLine; front_is = inl refl; answer = inl (inl (refl, refl)); fewer = s.3; out_is = refl });
      left = left_so w;
    }

-- the input brings the end, for which nothing is written
input_ends : (before rest later : Option (List ℕ)) (w : SharedView) (sent written : Option (List ℕ)) (by : End) → PassLines line_limit before [] rest → EndsInput by before [] → Keeps sent written → EndsOfInput by [] rest later []
    → SharedEnding before later w w sent written by
input_ends before rest later w sent written by lines input keeps ends =
    record { last = []; rest = rest; lines = lines; input = input; out = []; written_is = kept_nothing sent written keeps; ends = inl (ends, refl); left = left_so w }

-- the reader failed
fault_served : (before later : Option (List ℕ)) (kept : List ℕ) (f : ReadFault) (w : SharedView) (sent written : Option (List ℕ))
    → f ≢ NoRoom → IsNextKnown line_limit before (Err f) kept later → LosesNoLine (Err f) before later → Keeps sent written → ServedSharedLine before later w w sent written (Some (Read f))
fault_served before later kept NeverEnds w sent written room n whole keeps = input_ends before before later w sent written (Read NeverEnds) (pass_none line_limit before) (pass_endless before later kept n) keeps (refl, refl)
fault_served before later kept NoRoom w sent written room n whole keeps = absurd (room refl)
fault_served before later kept f w sent written room n whole keeps = input_ends before before later w sent written (Read f) (pass_none line_limit before) tt keeps (whole, refl, refl)

-- a line that a reader served
line_answered : {P : Type 0} (before later : Option (List ℕ)) (bytes : List ℕ) (line : Line) (s s' : P × SharedView) (sent written : Option (List ℕ)) (end : Option End)
    → IsNextKnown line_limit before (Ok line) bytes later → AnswersLine OnDesk line bytes s sent written end s' → ServedSharedLine before later s.1 s'.1 sent written end
line_answered before later bytes TextLine s s' sent written end n a = line_served before later (Whole bytes) s.1 s'.1 sent written end (pass_text line_limit before later bytes n) refl a
line_answered before later bytes LongLine s s' sent written end n a =
    rw a.0 (line_served before later Overlong s.1 s.1 sent written end (pass_long line_limit before later bytes n) refl (refused_served s.1 LineTooLong sent written end a.1))
line_answered before later bytes BrokenLine s s' sent written end n a =
    let passed = pass_broken before later bytes n in rw a.0 (unended_served before later s.1 sent written end passed.0 passed.1 a.1)
line_answered before later bytes NoLine s s' sent written end n a =
    let passed = pass_end before later bytes n in rw (a.0, a.2) (input_ends before later later s.1 sent written Input passed.0 passed.1 a.1 (refl, inl (refl, refl)))

pub next_answered : {P : Type 0} → SharedLinesAreServed P
next_answered before later s s' sent written end (inl (line, bytes, n, a)) = line_answered before later bytes line s s' sent written end n a
next_answered before later s s' sent written end (inr (f, is, w)) = rw (is, w.3) (fault_served before later w.1.0 f s.1 sent written w.0 w.1.1 w.2 w.4)

-- lines one after another
AreTurns-append : (xs ys : List SharedTurn) (w mid w' : SharedView) → AreTurns w xs mid → AreTurns mid ys w' → AreTurns w (xs ++ ys) w'
AreTurns-append [] ys w mid w' h k = rw (← h) k
AreTurns-append (x ∷ xs) ys w mid w' h k = (h.0, h.1, AreTurns-append xs ys h.0 mid w' h.2 k)

TurnsGoOn-append : (xs ys : List SharedTurn) → TurnsGoOn xs → TurnsGoOn ys → TurnsGoOn (xs ++ ys)
TurnsGoOn-append [] ys h k = k
TurnsGoOn-append (x ∷ xs) ys h k = (h.0, h.1, TurnsGoOn-append xs ys h.2 k)

going_none : (before : Option (List ℕ)) (w : SharedView) (sent : Option (List ℕ)) → SharedGoing [] before before w w sent sent
going_none before w sent = record { lines = pass_none line_limit before; told = refl; goes = tt; written_is = Appends-nil sent }

going_more : (turns more : List SharedTurn) (before mid later : Option (List ℕ)) (w now w' : SharedView) (sent so_far written : Option (List ℕ))
    → SharedGoing turns before mid w now sent so_far → SharedGoing more mid later now w' so_far written → SharedGoing (turns ++ more) before later w w' sent written
going_more turns more before mid later w now w' sent so_far written a b =
    let item : SharedTurn → Item = λ (t : SharedTurn). item_of t.line in
    let text : SharedTurn → List ℕ = λ (t : SharedTurn). t.text in
    record {
      lines = subst (λ (x : List Item). PassLines line_limit before x later) (sym (map-append item turns more)) (pass_more line_limit before mid later (map item turns) (map item more) a.lines b.lines);
      told = AreTurns-append turns more w now w' a.told b.told;
      goes = TurnsGoOn-append turns more a.goes b.goes;
      written_is = subst (λ (x : List ℕ). Appends sent written x) (sym (flat_map-append text turns more)) (Appends-trans sent so_far written (flat_map text turns) (flat_map text more) a.written_is b.written_is);
    }

-- it began with no watcher
begins_in : (turns : List SharedTurn) (w now : SharedView) → w.own ≡ None → AreTurns w turns now → AreTurns (new_session w.sight) turns now
begins_in turns w now none told = subst (λ (x : Option WatcherView). AreTurns (record { own = x; sight = w.sight }) turns now) none told

-- the session ends with the next line
served_ending : (turns : List SharedTurn) (before mid later : Option (List ℕ)) (w now then : SharedView) (sent so_far written : Option (List ℕ)) (by : End) (v : WitnessView)
    → w.own ≡ None → SharedGoing turns before mid w now sent so_far → SharedEnding mid later now then so_far written by → length turns < 16777216 → HasLeft then.own v.seen → SeesOn then.sight v
    → ServedShared before later sent written by w.sight v
served_ending turns before mid later w now then sent so_far written by v none a b count left sees =
    let item : SharedTurn → Item = λ (t : SharedTurn). item_of t.line in
    let text : SharedTurn → List ℕ = λ (t : SharedTurn). t.text in
    record {
      turns = turns;
      state = now;
      final = then;
      last = b.last;
      rest = b.rest;
      out = b.out;
      lines = pass_more line_limit before mid b.rest (map item turns) b.last a.lines b.lines;
      input = input_more by before mid (map item turns) b.last a.lines b.input;
      told = begins_in turns w now none a.told;
      goes = a.goes;
      written_is = Appends-trans sent so_far written (flat_map text turns) b.out a.written_is b.written_is;
      ends = inl (count, b.ends);
      count = omega (arith, count);
      left = b.left v left sees;
      gone = left;
      sight = sees;
    }

-- as many lines were served as a session serves
served_spent : (turns : List SharedTurn) (before later : Option (List ℕ)) (w now : SharedView) (sent written : Option (List ℕ)) (v : WitnessView)
    → w.own ≡ None → SharedGoing turns before later w now sent written → length turns ≡ 16777216 → HasLeft now.own v.seen → SeesOn now.sight v → ServedShared before later sent written Spent w.sight v
served_spent turns before later w now sent written v none a count left sees =
    let item : SharedTurn → Item = λ (t : SharedTurn). item_of t.line in
    let text : SharedTurn → List ℕ = λ (t : SharedTurn). t.text in
    record {
      turns = turns;
      state = now;
      final = now;
      last = [];
      rest = later;
      out = [];
      lines = subst (λ (x : List Item). PassLines line_limit before x later) (sym (append-nil (map item turns))) a.lines;
      input = tt;
      told = begins_in turns w now none a.told;
      goes = a.goes;
      written_is = subst (λ (x : List ℕ). Appends sent written x) (sym (append-nil (flat_map text turns))) a.written_is;
      ends = inr ((count, refl, refl, refl), refl);
      count = omega (arith, count);
      left = left_so now v left sees;
      gone = left;
      sight = sees;
    }

-- ---- The loop over lines

going_lines : {P : Type 0} (n : ℕ) (before later : Option (List ℕ)) (s s' : P × SharedView) (sent written : Option (List ℕ)) → ServesLines OnDesk n before s sent later s' written
    → (turns : List SharedTurn) × (length turns ≡ n) × SharedGoing turns before later s.1 s'.1 sent written
unfolding ServesLines
going_lines zero before later s s' sent written (b, t, w) = rw (b, t, w) ([], refl, going_none before s.1 sent)
going_lines (suc n) before later s s' sent written (mid, now, so_far, first, next) =
    let i = going_lines n before mid s now sent so_far first in
    let one = next_answered mid later now s' so_far written None next in
    (i.0 ++ one.0 ∷ [], simp length-append (omega (arith, i.1)), going_more i.0 (one.0 ∷ []) before mid later s.1 now.1 s'.1 sent so_far written i.2 one.1)

pub all_served : {P : Type 0} (before later : Option (List ℕ)) (s s' : P × SharedView) (sent written : Option (List ℕ)) (by : End) (v : WitnessView)
    → s.1.own ≡ None → ServesAll OnDesk before s sent by later s' written → HasLeft s'.1.own v.seen → SeesOn s'.1.sight v → ServedShared before later sent written by s.1.sight v
unfolding ServesAll
all_served before later s s' sent written by v none (inl (n, mid, now, so_far, few, first, next)) left sees =
    let i = going_lines n before mid s now sent so_far first in
    served_ending i.0 before mid later s.1 now.1 s'.1 sent so_far written by v none i.2 (next_answered mid later now s' so_far written (Some by) next) (omega (arith, i.1, few)) left sees
all_served before later s s' sent written by v none (inr (n, all, is, lines)) left sees =
    let i = going_lines n before later s s' sent written lines in
    rw is (served_spent i.0 before later s.1 s'.1 sent written v none i.2 (omega (arith, i.1, all)) left sees)

-- ---- What brings no end by the reader

pub serves_read : (w w' : SharedView) (asked : Result Request Fault) (sent written : Option (List ℕ)) (result : Option End) → ServesAsked w asked sent written result w' → is_by_answer result ≡ true
serves_read w w' asked sent written None s = refl
serves_read w w' asked sent written (Some by) s = ends_answer by w asked s.out w' s.outcome where
  ends_answer : (by : End) (w : SharedView) (asked : Result Request Fault) (out : List ℕ) (w' : SharedView) → EndsOfAnswer by w asked out w' → is_by_answer (Some by) ≡ true
  ends_answer (Read f) w asked out w' h = absurd h
  ends_answer by w asked out w' h = refl
