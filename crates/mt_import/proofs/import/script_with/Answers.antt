use Rattle.std.proofs.Common.{rules}
use Rattle.mt_import.proofs.ForwardLaws.{imported}
use Rattle.mt_import.proofs.import.script_with.Goals as goal

pub returns : goal.returns
returns c =
    imported c.args.plan.now.groups.all c.args.spaces.now c.new-script.result c.tell_tables.new.script c.tell_spaces.new.script c.append.new.self
    c.make_spaces.new.script c.in_ok-front.front (search rules) c.in_ok-tell_tables.ensures
    c.in_ok-tell_spaces.ensures.pushed c.in_ok-tell_spaces.ensures.trees (search rules) c.in_ok-front.ensures c.in_ok-append.ensures c.in_ok-make_spaces.ensures
    (search rules)
