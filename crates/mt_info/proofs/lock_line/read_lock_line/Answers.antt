use Rattle.std.proofs.Common.{◌≡◌, ◌∷◌, [], refl, sym, ap, ◌∙◌, drop, get_or, decimal}
use Rattle.std.specs.List.{join_with_byte}
use Rattle.std.proofs.lemmas.Result.{IfOk-weaker, IfErr-weaker, err_from_is_err_and}
use Rattle.mt_lines.specs.Words.{words}
use Rattle.mt_info.specs.LockLine.{lock_words}
use Rattle.mt_info.proofs.LockLineLaws.{line_split, line_is}
use Rattle.mt_info.proofs.lock_line.read_lock_line.Goals.{After-read_lock_words}
use Rattle.mt_info.proofs.lock_line.read_lock_line.Goals as goal

-- a line has two words, neither more nor less
pub returns-in_default-clause-refused : goal.returns-in_default-clause-refused
returns-in_default-clause-refused c = (
  refl,
  λ k valid e.
      let all = sym c.in_default.ensures.steps ∙ c.words-words.ensures ∙ line_split c.args.line.now k valid e in
      let bad : c.in_default.field-0-2.now ∷ c.next-3.new.self ≡ [] = sym c.in_default.ensures''.steps ∙ ap (drop 1) (sym c.in_default.ensures'.steps ∙ ap (drop 1) all) in
      cc,
)

pub returns-in_default-2-clause-refused : goal.returns-in_default-2-clause-refused
returns-in_default-2-clause-refused c = (
  refl,
  λ k valid e.
      let all = sym c.in_default.ensures.steps ∙ c.words-words.ensures ∙ line_split c.args.line.now k valid e in
      let bad : [] ≡ join_with_byte 44 (lock_words k) ∷ [] = sym c.in_default.ensures'.steps.0 ∙ ap (drop 1) all in
      cc,
)

pub returns-in_default-3-clause-refused : goal.returns-in_default-3-clause-refused
returns-in_default-3-clause-refused c = (
  refl,
  λ k valid e.
      let bad : [] ≡ decimal k.mount ∷ join_with_byte 44 (lock_words k) ∷ [] = sym c.in_default.ensures.steps.0 ∙ c.words-words.ensures ∙ line_split c.args.line.now k valid e in
      cc,
)

pub returns-in_err-mount-clause-refused : goal.returns-in_err-mount-clause-refused
returns-in_err-mount-clause-refused c =
    let p = err_from_is_err_and c.from_residual.result c.from_residual.ensures.1 in
    rw (p.1, p.2)
    (let r = c.in_err-mount.ensures.refused in
    (r.0, λ k valid e. r.1 k.mount valid.small (ap (λ ws. get_or ws 0 []) (sym c.in-Some-Some-None.ensures.steps ∙ c.words-words.ensures ∙ line_split c.args.line.now k valid e))))

-- the words of the line
two : (c : After-read_lock_words) → words c.args.line.now ≡ c.in-Some-Some-None.first.now ∷ c.in-Some-Some-None.second.now ∷ []
two c =
    let s = c.in-Some-Some-None in
    sym c.words-words.ensures ∙ s.ensures.steps ∙ ap (λ ws. s.first.now ∷ ws) (s.ensures'.steps ∙ ap (λ ws. s.second.now ∷ ws) s.ensures''.steps.0)

pub returns-clause-locks : goal.returns-clause-locks
returns-clause-locks c =
    IfOk-weaker c.read_lock_words.result _ _
    (λ k p. line_is c.args.line.now c.in-Some-Some-None.first.now c.in-Some-Some-None.second.now k (two (goal.at.returns-clause-locks c).After-read_lock_words) (c.in_ok-mount.ensures.number ∙ ap decimal (sym p.0)) p.1)
    c.read_lock_words.ensures.locks

pub returns-clause-refused : goal.returns-clause-refused
returns-clause-refused c =
    IfErr-weaker c.read_lock_words.result _ _
    (λ f p. (p.0, λ k valid e. p.1 k valid.some (ap (λ ws. get_or ws 1 []) (sym (two (goal.at.returns-clause-refused c).After-read_lock_words) ∙ line_split c.args.line.now k valid e))))
    c.read_lock_words.ensures.refused
