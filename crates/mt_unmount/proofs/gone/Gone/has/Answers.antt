use Rattle.std.proofs.Common.{List, ℕ, sym, ap, subst, ◌∙◌}
use Rattle.std.specs.List.Sorted.{IsStrictlyIncreasing}
use Rattle.mt_skel.specs.Keyed.{among}
use Rattle.mt_unmount.proofs.FoundLaws.{searched-among}
use Rattle.mt_unmount.proofs.gone.Gone.has.Goals as goal

pub returns : goal.returns
returns c =
    let ids = c.deref.result.now in
    let rising = subst IsStrictlyIncreasing (sym c.deref.ensures.value) c.self.invariant in
    c.is_ok.ensures.value ∙ searched-among ids c.args.id c.binary_search.result rising c.binary_search.ensures.position
    ∙ ap (λ (l : List ℕ). among l c.args.id) (c.deref.ensures.value ∙ c.self.view_is)
