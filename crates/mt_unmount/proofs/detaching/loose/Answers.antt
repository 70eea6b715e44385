use Rattle.std.proofs.Common.{◌≡◌, ◌&&◌, Bool, ℕ, List, not, sym, ap, ◌∙◌, subst}
use Rattle.mt_skel.specs.Keyed.{among}
use Rattle.mt_propagate.specs.World.{world_view}
use Rattle.mt_unmount.specs.Detaching.{is_candidate}
use Rattle.mt_unmount.specs.Holding.{AreHeld}
use Rattle.mt_unmount.proofs.CandidateLaws.{not-held}
use Rattle.mt_unmount.proofs.detaching.loose.Goals as goal

pub returns-clause-loose : goal.returns-clause-loose
returns-clause-loose c =
    let w = world_view c.args.world.now in
    let i = c.args.id in
    let among_them : among c.new-candidates.result ≡ is_candidate w i = λ t. λ j. (c.new-candidates.ensures.same j ∙ ap (λ (l : List ℕ). among l j) c.in_ok-candidates.ensures.candidates) t in
    let held : among c.in_ok-held.field-0.items ≡ among c.new-held.result = λ t. λ j. sym (c.new-held.ensures.same j) t in
    let are = subst (λ (f : ℕ → Bool). AreHeld w (is_candidate w i) f) held (subst (λ (f : ℕ → Bool). AreHeld w f (among c.in_ok-held.field-0.items)) among_them c.in_ok-held.ensures.held) in
    record {
      rising = c.without.ensures.rising;
      each = λ j. c.without.ensures.same j ∙ ap (λ (f : ℕ → Bool). f j && not (among c.new-held.result j)) among_them ∙ not-held w c.requires.well_formed i (among c.new-held.result) are j;
    }
