use Rattle.std.proofs.Common.{◌≡◌, ℕ, List, Option, nat_eq, length, slice_get, Some, ap, sym, subst, arith}
use Rattle.std.proofs.lemmas.Option.{slice_get_within}
use Rattle.indexmap.specs.IndexMap.{get}
use Rattle.mt_propagate.specs.World.{world_view}
use Rattle.mt_world.specs.declared.misfit.Misfit.{Misfit}
use Rattle.mt_world.specs.declared.misfit.Misfit.TheVariants.{NoParent}
use Rattle.mt_world.specs.declared.row.TableRow.{TableRow}
use Rattle.mt_world.specs.Kept.{AreKept, IsParentless, waits_for_parent}
use Rattle.mt_world.proofs.KeptLaws.{kept_none}
use Rattle.mt_world.proofs.grown.grow.Goals as goal

pub grow-requires-clause-kept : goal.grow-requires-clause-kept
grow-requires-clause-kept c =
    kept_none (world_view c.args.world.now) c.args.rows.now c.in_ok-kept.kept.left.items (get nat_eq c.in_ok-kept.kept.put) c.requires.sound c.requires.numbers c.requires.filesystems c.requires.bare c.requires.few c.in_ok-kept.ensures.sized
    c.in_ok-kept.ensures.waits c.in_ok-kept.ensures.none

pub grow-requires-clause-waiting : goal.grow-requires-clause-waiting
grow-requires-clause-waiting c k w =
    let within = slice_get_within c.in_ok-kept.kept.left.items k (Some NoParent) w in
    c.in_ok-order.ensures.all k (omega (arith, within, c.in_ok-kept.ensures.sized, c.in_ok-ties.ensures.sized, ap length c.as_slice.ensures.value))

pub returns-clause-kept : goal.returns-clause-kept
returns-clause-kept c =
    let v = world_view c.grow.new.world in
    let rows = c.args.rows.now in
    record {
      put = get nat_eq c.grow.new.self.put;
      kept = subst (λ (l : List (Option Misfit)). AreKept v rows l (get nat_eq c.grow.new.self.put)) (sym c.into_left.ensures) c.in_ok-grow.ensures.kept;
      parentless = subst (λ (l : List (Option Misfit)). (k : ℕ) (row : TableRow) → waits_for_parent l k → slice_get rows k ≡ Some row → IsParentless rows l row) (sym c.into_left.ensures) c.in_ok-grow.ensures.parentless;
    }
