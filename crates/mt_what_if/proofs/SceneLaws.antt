-- The world of tables.
use Rattle.std.proofs.Common.{◌≡◌, ℕ, List, [], map, Option, refl, ap, subst, sym, ◌∙◌}
use Rattle.mt_propagate.specs.World.{WorldView}
use Rattle.mt_propagate.specs.WellFormed.{IsWellFormed}
use Rattle.mt_world.specs.declared.misfit.Misfit.{Misfit}
use Rattle.mt_world.specs.declared.row.TableRow.{TableRow}
use Rattle.mt_world.specs.Locked.{with_foreign_locks}
use Rattle.mt_world.specs.Made.{IsMade, KeepsPlain}
use Rattle.mt_what_if.specs.Trials.{TrialView}
use Rattle.mt_what_if.specs.Scenes.{IsWorldOfTables}

-- a world that was made of rows, with what is locked in it, and no command was tried on it yet
pub begun_world :
    (rows given locked listed : List TableRow) (foreign numbers : List ℕ) (w v : WorldView) (t : TrialView) (left private : List (Option Misfit)) → given ≡ rows → locked ≡ rows
    → listed ≡ rows → numbers ≡ foreign → IsWellFormed v → IsMade w given left private → KeepsPlain w given left → v ≡ with_foreign_locks locked numbers w
    → t ≡ record { start = v; commands = []; names = map (λ (r : TableRow). r.device) listed; given = []; refused = [] } → IsWorldOfTables rows foreign t
begun_world rows given locked listed foreign numbers w v t left private e k l n h m p locks same =
    let fresh : TrialView = record { start = v; commands = []; names = map (λ (r : TableRow). r.device) listed; given = []; refused = [] } in
    let q : IsWorldOfTables rows foreign fresh = record {
      well_formed = h;
      bare = w;
      left = left;
      private = private;
      made = subst (λ (r : List TableRow). IsMade w r left private) e m;
      plain = subst (λ (r : List TableRow). KeepsPlain w r left) e p;
      locked = locks ∙ (λ i. with_foreign_locks (k i) (n i) w);
      named = ap (map (λ (r : TableRow). r.device)) l;
      fresh = (refl, refl, refl);
    } in
    subst (IsWorldOfTables rows foreign) (sym same) q
