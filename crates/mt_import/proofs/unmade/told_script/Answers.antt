use Rattle.std.proofs.Common.{rules, subst}
use Rattle.mt_import.proofs.UnmadeLaws.{told_alone}
use Rattle.mt_import.specs.Import.{IsImport}
use Rattle.mt_import.proofs.unmade.told_script.Goals as goal

pub returns : goal.returns
returns c =
    subst (λ tables. IsImport tables c.tell_spaces.new.script) c.in_ok-spaces.ensures.told
    (told_alone c.new-groups.result.all c.in_ok-spaces.spaces.items c.new-script.result c.tell_tables.new.script c.tell_spaces.new.script c.in_ok-spaces.ensures.unmade
    (search rules) (search rules) (search rules) (search rules) (search rules))
