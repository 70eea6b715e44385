use Rattle.std.proofs.Common.{◌≡◌, ◌∷◌, [], ◌||◌, false, refl, sym, ◌∙◌, get_or, rules}
use Rattle.std.proofs.lemmas.Bool.{false≢true}
use Rattle.mt_locks.specs.declared.mount_locks.MountLocks.{MountLocks}
use Rattle.mt_info.proofs.LockLineLaws.{LocksTaken, locks_taken, locks_are}
use Rattle.mt_info.proofs.lock_line.read_lock_words.Goals.{After-take_word-atime}
use Rattle.mt_info.proofs.lock_line.read_lock_words.Goals as goal

-- the words were taken one after another
taken : (c : After-take_word-atime) → LocksTaken c.args.word.now
    (c.take_word-place.result ∷ c.take_word-ro.result ∷ c.take_word-nosuid.result ∷ c.take_word-nodev.result ∷ c.take_word-noexec.result ∷ c.take_word-atime.result ∷ []) c.take_word-atime.new.words
taken c = record { rest = c.new-words.result; begin = sym c.new-words.ensures; taken = search rules }

pub returns-in-Some-clause-refused : goal.returns-in-Some-clause-refused
returns-in-Some-clause-refused c = (
  refl,
  λ k some e.
      let r = locks_taken (taken (goal.at.returns-in-Some-clause-refused c).After-take_word-atime) k some e in
      let bad : c.in-Some._extra.now ∷ c.next.new.self ≡ [] = sym c.in-Some.ensures.steps ∙ r.1 in cc,
)

pub returns-then-not-locks_some-clause-refused : goal.returns-then-not-locks_some-clause-refused
returns-then-not-locks_some-clause-refused c = (
  refl,
  λ k some e.
      let r = locks_taken (taken (goal.at.returns-then-not-locks_some-clause-refused c).After-take_word-atime) k some e in
      false≢true
      (sym c.if-not-locks_some.true ∙ c.locks_some.ensures
      ∙ (λ i. get_or (r.0 i) 0 false || get_or (r.0 i) 1 false || get_or (r.0 i) 2 false || get_or (r.0 i) 3 false || get_or (r.0 i) 4 false || get_or (r.0 i) 5 false) ∙ some),
)

pub returns-clause-locks : goal.returns-clause-locks
returns-clause-locks c =
    let k : MountLocks = record {
      mount = c.args.mount;
      place = c.take_word-place.result;
      ro = c.take_word-ro.result;
      nosuid = c.take_word-nosuid.result;
      nodev = c.take_word-nodev.result;
      noexec = c.take_word-noexec.result;
      atime = c.take_word-atime.result;
    } in
    (refl, locks_are (taken (goal.at.returns-clause-locks c).After-take_word-atime) k refl c.in_default.ensures.steps.0, sym c.locks_some.ensures ∙ c.if-not-locks_some.false)
