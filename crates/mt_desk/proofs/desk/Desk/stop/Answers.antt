use Rattle.std.proofs.Common.{◌∙◌, ap, sym, subst, List}
use Rattle.mt_desk.specs.declared.act.LogEntry.{LogEntry}
use Rattle.mt_desk.specs.Entries.{HistoryView}
use Rattle.mt_desk.specs.Desk.{DeskView}
use Rattle.mt_desk.specs.Held.{IsLogged}
use Rattle.mt_desk.proofs.HeldLaws.{told_stop}
use Rattle.mt_desk.proofs.desk.Desk.stop.Goals as goal

pub invariant_of-self : goal.invariant_of-self
invariant_of-self g c =
    let h = c.stop-2.ensures.history in
    let d = c.stop.ensures.desk in
    record {
      name_is = ap (λ (v : HistoryView). v.table) h ∙ c.self.invariant.name_is;
      told = subst (λ (l : List LogEntry). IsLogged c.stop.new.self l) (sym (ap (λ (v : HistoryView). v.log) h)) (told_stop _ _ _ _ c.self.invariant.told (ap (λ (v : DeskView). v.journal) d) (ap (λ (v : DeskView). v.stopped) d));
    }
