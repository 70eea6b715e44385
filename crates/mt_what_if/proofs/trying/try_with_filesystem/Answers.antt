use Rattle.std.proofs.lemmas.Result.{IfErr-weaker}
use Rattle.mt_what_if.specs.Trials.{stopped}
use Rattle.mt_what_if.proofs.TriedLaws.{with_more}
use Rattle.mt_what_if.proofs.trying.try_with_filesystem.Goals as goal

pub returns-clause-refused : goal.returns-clause-refused
returns-clause-refused c =
    IfErr-weaker c.try_asked.result _ _
    (λ fault refused ne. with_more c.args.filesystem.now c.args.line.now c.args.trial.now c.give_source.new.trial (stopped c.try_asked.new.trial fault)
    c.in_ok-give_source.ensures.done (refused ne))
    c.try_asked.ensures.refused
