use Rattle.std.proofs.Common.{◌∙◌, refl, ap, sym, subst, take, slice_get, inl, inr}
use Rattle.std.proofs.lemmas.List.{take_all}
use Rattle.mt_skel.proofs.ListLaws.{pushed, take_next}
use Rattle.mt_world.specs.declared.row.TableRow.{TableRow}
use Rattle.mt_world.specs.Kept.{IsNamed}
use Rattle.mt_world.proofs.DirectoryLaws.{grows_same, grows_on, filed_more}
use Rattle.mt_world.proofs.directory.add_filesystems.Goals as goal

pub rows-init : goal.rows-init
rows-init c = record { skeleton = c.requires.skeleton; grown = grows_same c.args.skel.now; room = refl; named = λ k r e. absurd (cc) }

pub rows-preserved : goal.rows-preserved
rows-preserved c = record {
  skeleton = c.add_filesystem.ensures.skeleton;
  grown = grows_on c.args.skel.now c.rows.skel c.add_filesystem.new.skel c.rows.invariant.grown c.add_filesystem.ensures.grown;
  room = c.add_filesystem.ensures.room ∙ c.rows.invariant.room;
  named = λ k r e. elim (pushed (take c.rows.row-index c.args.rows.now) c.row-item.result r k (ap (λ l. slice_get l k) (sym (take_next c.args.rows.now c.rows.row-index c.row-item.result c.rows-test.true c.row-item.is)) ∙ e)) [
    | inl old ↦ filed_more c.rows.skel c.add_filesystem.new.skel r.device c.add_filesystem.ensures.grown c.add_filesystem.ensures.room (c.rows.invariant.named k r old)
    | inr new ↦ subst (λ (x : TableRow). IsNamed c.add_filesystem.new.skel x.device) new.1 c.in_ok-add_filesystem.ensures.named
  ];
}

pub returns-clause-named : goal.returns-clause-named
returns-clause-named c k r e = c.rows.invariant.named k r (ap (λ l. slice_get l k) (take_all c.rows.row-index c.args.rows.now c.rows-test.false) ∙ e)
