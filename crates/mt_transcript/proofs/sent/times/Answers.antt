use Rattle.std.proofs.Common.{arith, ◌≡◌, ℕ, ◌+◌, suc, List, ◌++◌, ap, ◌∙◌}
use Rattle.mt_transcript.specs.Sent.{times}
use Rattle.mt_transcript.proofs.sent.times.Goals as goal

-- once more
once_more : (n : ℕ) (word : List ℕ) → times n word ++ word ≡ times (n + 1) word
once_more n word = let next : suc n ≡ n + 1 = omega arith in ap (λ (k : ℕ). times k word) next

pub times-preserved : goal.times-preserved
times-preserved c =
    c.in_ok-extend_from_slice.ensures.items ∙ ap (λ (x : List ℕ). x ++ c.args.word.now) c.times.invariant ∙ once_more c.times._time c.args.word.now
