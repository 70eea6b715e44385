use Rattle.std.proofs.Common.{rules, true, Some, sym, ap, get_or, ◌≡◌, ◌∙◌, List}
use Rattle.std.proofs.lemmas.List.Sorted.{answers_always}
use Rattle.mt_skel.specs.Keyed.{rises}
use Rattle.mt_skel.proofs.SearchLaws.{found_at, not_found}
use Rattle.mt_reach.specs.declared.row.SeenRow.{SeenRow}
use Rattle.mt_reach.specs.Rows.{seen_id, seen_at}
use Rattle.mt_reach.proofs.rows.SeenRows.get.Goals.{After-deref}
use Rattle.mt_reach.proofs.rows.SeenRows.get.Goals as goal

-- the rows that are searched are those of the type, and rise
same : (c : After-deref) → c.deref.result.now ≡ c.args.self.now
same c = c.deref.ensures.value ∙ c.self.view_is

risen : (c : After-deref) → rises seen_id c.deref.result.now ≡ true
risen c = ap (rises seen_id) c.deref.ensures.value ∙ c.self.invariant.0

pub returns-in-Ok : goal.returns-in-Ok
returns-in-Ok c =
    let a = (goal.at.returns-in-Ok c).After-deref in
    let d = c.index.result.now in
    let equal = c.in-Ok.ensures.position seen_id (answers_always _ _ _ (λ f a r g called. search rules)) in
    ap (λ (rows : List SeenRow). seen_at rows c.args.id) (sym (same a))
    ∙ sym (found_at seen_id c.args.id c.in-Ok.at c.deref.result.now d (risen a) c.in-Ok.ensures.bound equal)
    ∙ ap (λ (l : List SeenRow). Some (get_or l c.in-Ok.at d)) c.deref.ensures.value ∙ ap Some (sym c.index.ensures)

pub returns-in-Err : goal.returns-in-Err
returns-in-Err c =
    let a = (goal.at.returns-in-Err c).After-deref in
    let parted = c.in-Err.ensures.position seen_id (answers_always _ _ _ (λ f a r g called. search rules)) in
    ap (λ (rows : List SeenRow). seen_at rows c.args.id) (sym (same a)) ∙ not_found seen_id c.args.id c.in-Err.field-0 c.deref.result.now (risen a) parted
