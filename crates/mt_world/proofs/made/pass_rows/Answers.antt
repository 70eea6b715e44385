use Rattle.std.proofs.Common.{◌∙◌, ◌<◌, ap, sym, subst, take, slice_get, inl, inr, arith}
use Rattle.std.specs.Prelude.{IsTrue}
use Rattle.std.proofs.lemmas.List.{take_all}
use Rattle.mt_skel.proofs.ListLaws.{pushed, take_next}
use Rattle.mt_world.specs.declared.row.TableRow.{TableRow}
use Rattle.mt_world.specs.Rows.{is_numbered}
use Rattle.mt_world.proofs.made.pass_rows.Goals as goal

pub rows-preserved : goal.rows-preserved
rows-preserved c = record {
  bare = c.pass_row.ensures.bare;
  numbers = λ k r e n. elim (pushed (take c.rows.row-index c.args.rows.now) c.row-item.result r k (ap (λ l. slice_get l k) (sym (take_next c.args.rows.now c.rows.row-index c.row-item.result c.rows-test.true c.row-item.is)) ∙ e)) [
    | inl old ↦ let b = c.rows.invariant.numbers k r old n in (omega (arith, b.0, c.pass_row.ensures.mounts), omega (arith, b.1, c.pass_row.ensures.spaces))
    | inr new ↦
        subst (λ (x : TableRow). IsTrue (is_numbered x) → (x.id < c.pass_row.new.world.next_mount) × (x.space < c.pass_row.new.world.next_space)) new.1 c.pass_row.ensures.numbered n
  ];
  skel = c.pass_row.ensures.skel ∙ c.rows.invariant.skel;
}

pub returns-clause-numbers : goal.returns-clause-numbers
returns-clause-numbers c k r e n = c.rows.invariant.numbers k r (ap (λ l. slice_get l k) (take_all c.rows.row-index c.args.rows.now c.rows-test.false) ∙ e) n
