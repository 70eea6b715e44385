-- What an event does, case by case: it changes nothing, or makes one of seven changes.
use Rattle.std.proofs.Common.{◌≡◌, ℕ, ◌+◌, Bool, true, false, List, [], ◌∷◌, ◌++◌, length, Option, Some, None, slice_get, Ok, Err, refl}
use Rattle.std.specs.Prelude.{Result}
use Rattle.std.specs.Option.{option_map_or}
use Rattle.mt_skel.specs.declared.fault.Fault.{Fault}
use Rattle.mt_skel.specs.declared.fault.Fault.TheVariants.{NoWatcher, Lagged as WasLagged, Stopped}
use Rattle.mt_skel.specs.Keyed.{row_at}
use Rattle.mt_propagate.specs.World.{WorldView}
use Rattle.mt_events.specs.Posts.{PostView}
use Rattle.mt_events.specs.declared.opening.Scope.{Scope}
use Rattle.mt_book.specs.declared.command.Command.{Command}
use Rattle.mt_book.specs.declared.command.Reply.{Reply}
use Rattle.mt_book.specs.Step.{step, after}
use Rattle.mt_floor.specs.declared.watch.Meeting.{Meeting}
use Rattle.mt_floor.specs.declared.watch.Phase.{Phase}
use Rattle.mt_floor.specs.declared.watch.Phase.TheVariants.{Open as IsOpen, Lagged, Ended}
use Rattle.mt_floor.specs.declared.event.Event.{Event}
use Rattle.mt_floor.specs.declared.event.Event.TheVariants.{Apply, PostNext, Open, Take, Meet, Close, Stop}
use Rattle.mt_floor.specs.declared.event.Answer.{Answer}
use Rattle.mt_floor.specs.declared.event.Answer.TheVariants.{Opened, Took, Met, NotNow}
use Rattle.mt_floor.specs.Watcher.{Watcher, Due, watcher_key, opening_of}
use Rattle.mt_floor.specs.Schedule.{FloorView, Stepped, floor_step, unless, if_idle, at_row, changed, sent_to, is_full, posted, applied, replied, nothing_left, took, met, closed, halted, opened, command_refusal, opening_refusal}
use Rattle.mt_floor.proofs.AllowedLaws.{IsAllowedCommand, IsAllowedOpening, command_allowed, opening_allowed}

-- a newcomer has the greatest key
abbrev pub newcomer : FloorView → Scope → Watcher
newcomer s sc = record { key = s.next_key; scope = sc; since = length s.journal; opening = opening_of s.journal sc; sent = []; taken = []; phase = IsOpen }

-- the floor on which a newcomer has begun
abbrev pub opens : FloorView → Scope → FloorView
opens s sc = record s { next_key = s.next_key + 1; watchers = s.watchers ++ newcomer s sc ∷ [] }

-- an answer to an event that changes nothing
pub data Still : Type 0 where
  put_off : Still
  refused : Fault → Still
  emptied : Still
  told : Meeting → Still

abbrev pub still_answer : Still → Result Answer Fault
still_answer put_off = Ok NotNow
still_answer (refused f) = Err f
still_answer emptied = Ok (Took None)
still_answer (told m) = Ok (Met m)

-- what is to be shown of an event, in each case
pub record Cases (s : FloorView) (P : Event → Stepped → Type 0) : Type 0 where
  pub on_still : (e : Event) (a : Still) → P e (s, still_answer a)
  pub on_apply : (c : Command) (p : WorldView × Reply) → s.due ≡ [] → IsAllowedCommand s → P (Apply c) (replied s c (Ok p))
  pub on_lag : (d : Due) (ds : List Due) (r : Watcher) → s.due ≡ d ∷ ds → row_at watcher_key d.key s.watchers ≡ Some r → P PostNext (sent_to s d ds true r)
  pub on_send : (d : Due) (ds : List Due) (r : Watcher) → s.due ≡ d ∷ ds → row_at watcher_key d.key s.watchers ≡ Some r → P PostNext (sent_to s d ds false r)
  pub on_open : (sc : Scope) → s.due ≡ [] → IsAllowedOpening s sc → P (Open sc) (opens s sc, Ok (Opened s.next_key (opening_of s.journal sc)))
  pub on_take : (q : ℕ) (r : Watcher) (p : PostView) → row_at watcher_key q s.watchers ≡ Some r → slice_get r.sent (length r.taken) ≡ Some p
      → P (Take q) (changed s (record r { taken = r.taken ++ p ∷ [] }), Ok (Took (Some p)))
  pub on_close : (q : ℕ) (r : Watcher) → row_at watcher_key q s.watchers ≡ Some r → s.due ≡ [] → P (Close q) (closed s r)
  pub on_stop : s.due ≡ [] → P Stop (halted s)

module _ (s : FloorView) (P : Event → Stepped → Type 0) (c : Cases s P) where
  -- an event that may be put off, one that may be refused, and one of the watcher of a key
  idle : (e : Event) (done : Stepped) → (s.due ≡ [] → P e done) → P e (if_idle s.due s done)
  idle e done go = by s.due refl
    where
      by : (ds : List Due) → s.due ≡ ds → P e (if_idle ds s done)
      by [] none = go none
      by (d ∷ ds) some = c.on_still e put_off

  allowed : (e : Event) (o : Option Fault) (done : Stepped) → (o ≡ None → P e done) → P e (unless o s done)
  allowed e None done go = go refl
  allowed e (Some f) done go = c.on_still e (refused f)

  of_row : (e : Event) (q : ℕ) (f : Watcher → Stepped) → ((r : Watcher) → row_at watcher_key q s.watchers ≡ Some r → P e (f r)) → P e (at_row s q f)
  of_row e q f go = by (row_at watcher_key q s.watchers) refl
    where
      by : (o : Option Watcher) → row_at watcher_key q s.watchers ≡ o → P e (option_map_or f o (s, Err NoWatcher))
      by None none = c.on_still e (refused NoWatcher)
      by (Some r) some = go r some

  -- a command, the sending of a due post, and a take
  replies : (x : Command) → s.due ≡ [] → IsAllowedCommand s → (q : Result (WorldView × Reply) Fault) → P (Apply x) (replied s x q)
  replies x none can (Ok p) = c.on_apply x p none can
  replies x none can (Err f) = c.on_still (Apply x) (refused f)

  sends : (ds : List Due) → s.due ≡ ds → P PostNext (posted s ds)
  sends [] none = c.on_still PostNext put_off
  sends (d ∷ ds) some = by (row_at watcher_key d.key s.watchers) refl
    where
      to : (r : Watcher) (full : Bool) → row_at watcher_key d.key s.watchers ≡ Some r → P PostNext (sent_to s d ds full r)
      to r true at = c.on_lag d ds r some at
      to r false at = c.on_send d ds r some at

      by : (o : Option Watcher) → row_at watcher_key d.key s.watchers ≡ o → P PostNext (option_map_or (λ r. sent_to s d ds (is_full s.capacity r) r) o (s, Ok NotNow))
      by None none = c.on_still PostNext put_off
      by (Some r) at = to r (is_full s.capacity r) at

  takes : (q : ℕ) (r : Watcher) → row_at watcher_key q s.watchers ≡ Some r → P (Take q) (took s r)
  takes q r at = by (slice_get r.sent (length r.taken)) refl
    where
      left : (f : Phase) → P (Take q) (s, nothing_left f)
      left IsOpen = c.on_still (Take q) emptied
      left Lagged = c.on_still (Take q) (refused WasLagged)
      left Ended = c.on_still (Take q) (refused Stopped)

      by : (o : Option PostView) → slice_get r.sent (length r.taken) ≡ o → P (Take q) (option_map_or {U = Stepped} (λ p. (changed s (record r { taken = r.taken ++ p ∷ [] }), Ok (Took (Some p)))) o (s, nothing_left r.phase))
      by None e = left r.phase
      by (Some p) e = c.on_take q r p at e

  -- what is so in each case is so of each event
  pub each_event : (e : Event) → P e (floor_step s e)
  unfolding floor_step
  each_event (Apply x) = idle (Apply x) (applied s x) (λ none. allowed (Apply x) (command_refusal s) _ (λ can. replies x none (command_allowed s can) (step (after s.journal) x)))
  each_event PostNext = sends s.due refl
  each_event (Open sc) = idle (Open sc) (opened s sc) (λ none. allowed (Open sc) (opening_refusal s sc) _ (λ can. c.on_open sc none (opening_allowed s sc can)))
  each_event (Take q) = of_row (Take q) q (took s) (takes q)
  each_event (Meet q) = idle (Meet q) (at_row s q (met s)) (λ none. of_row (Meet q) q (met s) (λ r at. c.on_still (Meet q) (told _)))
  each_event (Close q) = idle (Close q) (at_row s q (closed s)) (λ none. of_row (Close q) q (closed s) (λ r at. c.on_close q r at none))
  each_event Stop = idle Stop (halted s) c.on_stop
