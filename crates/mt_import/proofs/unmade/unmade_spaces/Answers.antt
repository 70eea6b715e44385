use Rattle.std.proofs.Common.{rules, arith}
use Rattle.std.proofs.lemmas.Grind.{common_steps}
use Rattle.mt_import.proofs.UnmadeLaws.{unmade_pushed}
use Rattle.mt_import.proofs.unmade.unmade_spaces.Goals as goal

pub tables-preserved : goal.tables-preserved
tables-preserved c = record {
  told = grind (arith, common_steps);
  unmade =
      unmade_pushed c.tables.spaces.items c.push.new.self.items c.in_ok-space.space c.tables.before (search rules) c.tables.invariant.count c.tables.invariant.unmade
      c.in_ok-space.ensures.unmade;
  count = search rules;
}
