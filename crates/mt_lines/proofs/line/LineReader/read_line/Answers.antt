use Rattle.std.proofs.Common.{◌≡◌, ◌+◌, [], ◌∷◌, ◌++◌, append_assoc, length, take, drop, arith, sym, ◌∙◌, ap, length-append}
use Rattle.std.proofs.lemmas.List.{length-take-le}
use Rattle.mt_lines.proofs.LineLaws.{Consumed-more, Unbroken-append, Unbroken-all, judge_known, finish_known, endless_known, known-same, ahead_taken, line_taken}
use Rattle.mt_lines.proofs.StreamLaws.{kept_consumed}
use Rattle.std.proofs.KnownBytes.{Consumes-kept, Consumes-trans}
use Rattle.mt_lines.proofs.line.LineReader.read_line.Goals as goal

pub overflow_add-seen : goal.overflow_add-seen
overflow_add-seen g c =
    let within = c.in-Some.ensures.cases.1 in
    let bound = c.in-Some.ensures.bound in
    let limit = c.args.self.now.small in
    let seen = c.reading.invariant.small in
    omega arith

pub overflow_add-seen-in-None : goal.overflow_add-seen-in-None
overflow_add-seen-in-None g c =
    let limit = c.args.self.now.small in
    let seen = c.reading.invariant.small in
    let bound = c.len-count.ensures.bound in
    omega arith

-- the end of the input
pub returns-then-not-branch-clause-known : goal.returns-then-not-branch-clause-known
returns-then-not-branch-clause-known g c =
    let front = c.reading.invariant.consumed in
    let more = c.in_ok-more.ensures in
    let judged = c.finish.ensures in
    let same = known-same g.R.Input.remaining _ _ _ _ judged.same.2 judged.same.1 in
    let gone = rw c.if-not-branch.true at more.known_end in
    finish_known _ front.text _ _ _ _ front.unbroken
    (rw same (Consumes-kept _ _ _ front.text front.known more.known))
    (rw same gone)
    (omega (arith, front.count))
    (λ none. judged.end (omega (arith, front.count)))
    (λ some fits. judged.short (omega (arith, front.count)) (omega (arith, front.count, more.same.0)))
    (λ over. judged.long (omega (arith, front.count, more.same.0)))

-- a line end
pub returns-in-Some-clause-known : goal.returns-in-Some-clause-known
returns-in-Some-clause-known g c =
    let front = c.reading.invariant.consumed in
    let more = c.in_ok-more.ensures in
    let found = c.in-Some.ensures.cases in
    let taken = c.in_ok-take-in-Some.ensures in
    let judged = c.judge.ensures in
    let chunk = c.more.new.self.chunk in
    let piece = take c.in-Some.end chunk in
    let same_limit : c.args.self.now.limit ≡ c.more.new.self.limit = omega (arith, more.same.0) in
    let kept = taken.line front.text (ap (λ v. v.items) more.same.1 ∙ front.front ∙ ap (λ n. take n front.text) same_limit) in
    let count : length (front.text ++ piece) ≡ c.reading.seen + c.in-Some.end = simp length-append (omega (arith, front.count, length-take-le c.in-Some.end chunk (omega (arith, found.1)))) in
    judge_known _ (front.text ++ piece) _ _ c.take.new.self.line.items _ _
    (Unbroken-append front.text piece front.unbroken found.0)
    (rw (append_assoc front.text piece (10 ∷ []))
    (Consumes-trans _ _ _ front.text (piece ++ 10 ∷ [])
    (Consumes-kept _ _ _ front.text front.known more.known)
    (line_taken c.in-Some.end chunk _ _ _ found.2 (judged.same.2 ∙ c.advance.ensures ∙ ap (drop 1) taken.rest) (ap g.R.Input.remaining (judged.same.1 ∙ taken.same.1)))))
    (rw same_limit kept)
    (λ fits. judged.short (omega (arith, count, same_limit, taken.same.0)))
    (λ over within. judged.long (omega (arith, count, same_limit, taken.same.0)) (omega (arith, count, same_limit, taken.same.0)))
    (λ beyond. judged.endless (omega (arith, count, same_limit, taken.same.0)))

-- a chunk with no line end
pub reading-preserved : goal.reading-preserved
reading-preserved g c =
    let front = c.reading.invariant.consumed in
    let more = c.in_ok-more.ensures in
    let taken = c.in_ok-take-in-None.ensures in
    let chunk = c.more.new.self.chunk in
    let n = c.len-count.result in
    let same_limit : c.args.self.now.limit ≡ c.more.new.self.limit = omega (arith, more.same.0) in
    let kept = taken.line front.text (ap (λ v. v.items) more.same.1 ∙ front.front ∙ ap (λ n. take n front.text) same_limit) in
    let all : length (take n chunk) ≡ n = length-take-le n chunk (omega (arith, c.len-count.ensures.len)) in
    record {
      same = omega (arith, taken.same.0, more.same.0);
      fault = taken.same.2 ∙ more.same.2 ∙ c.reading.invariant.fault;
      failed = λ t. rw taken.same.1 (omega (arith, c.reading.invariant.failed t, more.cause t));
      faults = λ t none. rw taken.same.1 (more.faults t (c.reading.invariant.faults t none));
      kept = omega (arith, taken.kept, more.same.0);
      small = omega (arith, c.len-count.ensures.bound);
      consumed = rw all at (Consumed-more _ _ _ (take n chunk) _ _ _ _ front
          (kept_consumed _ _ _ (take n chunk) more.known (ahead_taken n chunk c.take-in-None.new.self.chunk _ _ taken.rest (ap g.R.Input.remaining taken.same.1)))
          (Unbroken-all chunk n c.len-count.ensures.len c.in-None.ensures.cases)
          (kept ∙ ap (λ w. take w (front.text ++ take n chunk)) (sym same_limit)));
    }

-- no line end far past the limit
pub returns-clause-known : goal.returns-clause-known
returns-clause-known g c =
    let front = c.reading.invariant.consumed in
    endless_known c.args.self.now.limit front.text _ _ _ front.unbroken (omega (arith, front.count)) front.known
