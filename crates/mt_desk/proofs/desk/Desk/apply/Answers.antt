use Rattle.std.proofs.Common.{◌∙◌, ap, sym, subst, List}
use Rattle.mt_desk.specs.declared.act.LogEntry.{LogEntry}
use Rattle.mt_desk.specs.Entries.{HistoryView}
use Rattle.mt_desk.specs.Held.{IsLogged}
use Rattle.mt_desk.proofs.HeldLaws.{told_command}
use Rattle.mt_desk.proofs.desk.Desk.apply.Goals as goal

pub invariant_of-self : goal.invariant_of-self
invariant_of-self g c =
    let h = c.apply-in-Ok.ensures.history in
    let journal = c.in-Ok.ensures.journal in
    record {
      name_is = ap (λ (v : HistoryView). v.table) h ∙ c.self.invariant.name_is;
      told = subst (λ (l : List LogEntry). IsLogged c.apply.new.self l) (sym (ap (λ (v : HistoryView). v.log) h)) (told_command _ _ _ _ _ c.self.invariant.told journal c.apply.ensures.stopped);
    }
