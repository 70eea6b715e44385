-- Lines that are served one after another, whoever answers them.
use Rattle.std.proofs.Common.{◌≡◌, ◌≢◌, ℕ, suc, ◌<◌, List, subst, refl, arith, Result, Ok, Err, Option, None}
use Rattle.std.proofs.KnownBytes.{Keeps-refl}
use Rattle.mt_lines.specs.declared.line.Line.{Line}
use Rattle.mt_lines.specs.declared.line.ReadFault.{ReadFault}
use Rattle.mt_lines.specs.declared.line.ReadFault.TheVariants.{NoMemory as NoRoom}
use Rattle.mt_lines.specs.Reading.{IsNextKnown, LosesNoLine}
use Rattle.mt_session.specs.Session.{line_limit}
use Rattle.mt_session.specs.Answering.{Answering, FailsWith, ServesNext, ServesLines}

-- the reader has the limit of sessions, so that it never wants memory
pub next_at : (limit : ℕ) (before later : Option (List ℕ)) (bytes : List ℕ) (line : Line) → limit ≡ line_limit → IsNextKnown limit before (Ok line) bytes later → IsNextKnown line_limit before (Ok line) bytes later
next_at limit before later bytes line e n = subst (λ x. IsNextKnown x before (Ok line) bytes later) e n

pub failed_at : {S : Type 0} (limit : ℕ) (fault : ReadFault) (before later : Option (List ℕ)) (part : List ℕ) (s : S) (sent : Option (List ℕ)) → limit ≡ line_limit → (fault ≡ NoRoom → 8192 < limit)
    → IsNextKnown limit before (Err fault) part later → LosesNoLine (Err fault) before later → FailsWith fault before s sent later s sent
failed_at limit fault before later part s sent e room n whole =
    let fits : fault ≢ NoRoom = λ is. let over = room is in omega (arith, over, e) in
    (fits, (part, subst (λ x. IsNextKnown x before (Err fault) part later) e n), whole, refl, Keeps-refl sent)

pub lines_none : {S : Type 0} (answers : Answering S) (before : Option (List ℕ)) (s : S) (sent : Option (List ℕ)) → ServesLines answers 0 before s sent before s sent
unfolding ServesLines
lines_none answers before s sent = (refl, refl, refl)

pub lines_more : {S : Type 0} (answers : Answering S) (n k : ℕ) (before mid later : Option (List ℕ)) (s now s' : S) (sent so_far written : Option (List ℕ)) → suc n ≡ k
    → ServesLines answers n before s sent mid now so_far → ServesNext answers mid now so_far None later s' written → ServesLines answers k before s sent later s' written
unfolding ServesLines
lines_more answers n k before mid later s now s' sent so_far written e first next = subst (λ j. ServesLines answers j before s sent later s' written) e (mid, now, so_far, first, next)
