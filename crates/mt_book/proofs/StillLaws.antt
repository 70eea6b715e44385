-- A command of a book uncovers nothing that was covered.
use Rattle.std.proofs.Common.{◌≡◌, List, [], ◌∷◌, ◌++◌, inl, inr, refl, sym, subst}
use Rattle.mt_propagate.specs.World.{WorldView}
use Rattle.mt_book.specs.declared.command.Command.{Command}
use Rattle.mt_book.specs.Step.{after}
use Rattle.mt_book.specs.Covered.{IsStillCovering, StaysCovered}
use Rattle.mt_book.proofs.EffectLaws.{next_by}
use Rattle.mt_book.proofs.HistoryLaws.{after_good, after-append}
use Rattle.mt_book.proofs.OrderLaws.{locks_in_order}
use Rattle.mt_book.proofs.CoveredLaws.{covered_stays}

-- a refused command changes nothing, and an accepted one covers what was covered
still_covered : (cs : List Command) (c : Command) → StaysCovered cs c (cs ++ c ∷ [])
still_covered cs c i on =
    let w = after cs in
    subst (λ (v : WorldView). IsStillCovering w c v i) (sym (after-append cs (c ∷ [])))
    (next_by (λ (v : WorldView). IsStillCovering w c v i) w c (inr (inr (on, inl refl))) (λ v r e. covered_stays w c v r (after_good cs).formed (locks_in_order cs) e i on))

-- one that a book has done
pub done_covered : (cs now : List Command) (c : Command) → now ≡ cs ++ c ∷ [] → StaysCovered cs c now
done_covered cs now c done = subst (StaysCovered cs c) (sym done) (still_covered cs c)
