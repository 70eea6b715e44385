use Rattle.std.proofs.Common.{◌∙◌, ◌++◌, List, ap, sym}
use Rattle.mt_desk.specs.declared.act.Act.{Act}
use Rattle.mt_desk.specs.Entries.{entries}
use Rattle.mt_session.proofs.SharedLaws.{command_told, command_refused, applied_acts, refused_log}
use Rattle.mt_session.proofs.shared_session.run.Goals as goal

pub returns-in-Ok-clause-text : goal.returns-in-Ok-clause-text
returns-in-Ok-clause-text g c = command_told c.args.desk.now.desk c.apply.new.self.desk c.args.command.now c.in-Ok.reply c.reply.result c.in-Ok.ensures.done c.reply.ensures

pub returns-in-Err-clause-text : goal.returns-in-Err-clause-text
returns-in-Err-clause-text g c = command_refused c.args.desk.now.desk c.args.command.now c.in-Err.fault c.told_refusal.result c.in-Err.ensures.refused c.told_refusal.ensures.ok

pub returns-in-Ok-clause-log : goal.returns-in-Ok-clause-log
returns-in-Ok-clause-log g c =
    c.in-Ok.ensures.log ∙ ap (λ (acts : List Act). c.args.desk.now.log ++ entries c.args.witness.now.by acts) (sym (applied_acts c.args.desk.now.desk c.apply.new.self.desk c.args.command.now c.in-Ok.reply c.in-Ok.ensures.done))

pub returns-in-Err-clause-log : goal.returns-in-Err-clause-log
returns-in-Err-clause-log g c = refused_log c.args.desk.now c.apply.new.self c.args.witness.now.by c.args.command.now c.in-Err.fault c.told_refusal.result c.in-Err.ensures.unchanged c.in-Err.ensures.refused c.told_refusal.ensures.ok
