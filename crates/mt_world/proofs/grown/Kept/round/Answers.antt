use Rattle.std.proofs.Common.{◌≡◌, ◌∙◌, ◌≤◌, ◌+◌, ℕ, List, ◌||◌, true, length, drop, get_or, Some, slice_get, refl, ap, sym, subst, arith}
use Rattle.mt_skel.specs.Keyed.{among}
use Rattle.mt_world.specs.declared.row.TableRow.{TableRow}
use Rattle.mt_world.specs.Kept.{IsParentless}
use Rattle.mt_world.proofs.RoundLaws.{still_waiting, no_more, still_parentless}
use Rattle.mt_world.proofs.grown.Kept.round.Goals as goal

pub turns-preserved : goal.turns-preserved
turns-preserved c =
    let ws = c.args.waiting.now in
    let i = c.turns.number-index in
    let n = get_or ws i 0 in
    let rows = c.args.rows.now in
    let old = c.turns.self.left.items in
    let new = c.try_row.new.self.left.items in
    let later = c.turns.later.items in
    let flag = c.in_ok-waits.waits in
    let list = c.in_ok-push_if.ensures.list in
    record {
      sound = c.try_row.ensures.sound;
      kept = c.in_ok-waits.ensures.kept;
      room = c.in_ok-waits.ensures.room ∙ c.turns.invariant.room;
      waiting = λ k e.
          ap (λ (l : List ℕ). among l k || among (drop (i + 1) ws) k) list
          ∙ still_waiting rows old new later ws i n 0 c.turns-test.true refl flag c.turns.invariant.waiting c.in_ok-waits.ensures.others c.in_ok-waits.ensures.done k e;
      fewer = subst (λ (l : List ℕ). length l ≤ i + 1) (sym list) (no_more rows old new later ws i n 0 c.turns-test.true refl flag c.turns.invariant.fewer);
      parentless = subst
          (λ (l : List ℕ). i + 1 ≤ length l → (k : ℕ) (r : TableRow) → among l k ≡ true → slice_get rows k ≡ Some r → IsParentless rows new r) (sym list)
          (still_parentless rows old new later ws i n 0 c.turns-test.true refl flag c.turns.invariant.fewer c.turns.invariant.parentless c.in_ok-waits.ensures.same c.in_ok-waits.ensures.parentless);
    }

pub returns-clause-parentless : goal.returns-clause-parentless
returns-clause-parentless c l = c.turns.invariant.parentless (omega (arith, l, c.turns.auto.number-index-end))
