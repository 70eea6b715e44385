-- A history, after one act more.
use Rattle.std.proofs.Common.{◌≡◌, ℕ, true, List, [], ◌∷◌, ◌++◌, refl, sym, ap, ◌∙◌}
use Rattle.mt_book.specs.declared.command.Command.{Command}
use Rattle.mt_desk.specs.declared.act.Act.{Act}
use Rattle.mt_desk.specs.declared.act.Act.TheVariants.{Apply, Stop}
use Rattle.mt_desk.specs.declared.act.LogEntry.{LogEntry}
use Rattle.mt_desk.specs.Entries.{entry, command_first, commands_of, is_stop, has_stop}
use Rattle.mt_desk.specs.Desk.{DeskView}
use Rattle.mt_desk.specs.Held.{IsLogged}

command_first-append : (a : Act) (cs ds : List Command) → command_first a (cs ++ ds) ≡ command_first a cs ++ ds
command_first-append (Apply c) cs ds = refl
command_first-append Stop cs ds = refl

pub commands_of-append : (xs ys : List LogEntry) → commands_of (xs ++ ys) ≡ commands_of xs ++ commands_of ys
commands_of-append [] ys = refl
commands_of-append (x ∷ xs) ys = ap (command_first x.act) (commands_of-append xs ys) ∙ command_first-append x.act (commands_of xs) (commands_of ys)

pub commands_of-stop : (xs : List LogEntry) (by : ℕ) → commands_of (xs ++ entry by Stop ∷ []) ≡ commands_of xs
commands_of-stop [] by = refl
commands_of-stop (x ∷ xs) by = ap (command_first x.act) (commands_of-stop xs by)

pub has_stop-apply : (xs : List LogEntry) (by : ℕ) (c : Command) → has_stop (xs ++ entry by (Apply c) ∷ []) ≡ has_stop xs
has_stop-apply [] by c = refl
has_stop-apply (x ∷ xs) by c = ap (is_stop x.act) (has_stop-apply xs by c)

is_stop_true : (a : Act) → is_stop a true ≡ true
is_stop_true (Apply c) = refl
is_stop_true Stop = refl

pub has_stop-stop : (xs : List LogEntry) (by : ℕ) → has_stop (xs ++ entry by Stop ∷ []) ≡ true
has_stop-stop [] by = refl
has_stop-stop (x ∷ xs) by = ap (is_stop x.act) (has_stop-stop xs by) ∙ is_stop_true x.act

-- a command that was accepted
pub told_command : (d now : DeskView) (log : List LogEntry) (by : ℕ) (c : Command) → IsLogged d log → now.journal ≡ d.journal ++ c ∷ [] → now.stopped ≡ d.stopped → IsLogged now (log ++ entry by (Apply c) ∷ [])
told_command d now log by c h journal stopped = record {
  journal = journal ∙ ap (λ (l : List Command). l ++ c ∷ []) h.journal ∙ sym (commands_of-append log (entry by (Apply c) ∷ []));
  stopped = stopped ∙ h.stopped ∙ sym (has_stop-apply log by c);
}

-- a stop
pub told_stop : (d now : DeskView) (log : List LogEntry) (by : ℕ) → IsLogged d log → now.journal ≡ d.journal → now.stopped ≡ true → IsLogged now (log ++ entry by Stop ∷ [])
told_stop d now log by h journal stopped = record {
  journal = journal ∙ h.journal ∙ sym (commands_of-stop log by);
  stopped = stopped ∙ sym (has_stop-stop log by);
}
