-- The forms of answers: each one refuses, or has the form of the verb that its line begins with.
-- A word with no source is this project's rule.
use Rattle.std.specs.Prelude.{◌≡◌, ◌⊎◌, ℕ, List, length, Ok}
use Rattle.mt_skel.specs.declared.fault.Fault.{Fault}
use Rattle.mt_protocol.specs.Verbs.{form_of}
use Rattle.mt_protocol.specs.declared.form.Form.{Form}
use Rattle.mt_protocol.specs.declared.form.Form.TheVariants.{Done, Number, Place, Table, Locks as LocksForm, Opening as OpeningForm, Posts, Commands, Followed, Never}
use Rattle.mt_info.specs.declared.row.Row.{Row}
use Rattle.mt_events.specs.Posts.{PostView}
use Rattle.mt_events.specs.declared.opening.Opening.{Opening}
use Rattle.mt_events.specs.Texts.{count_text, table_text, opening_text, posts_text, followed_text}
use Rattle.mt_book.specs.declared.command.Command.{Command}
use Rattle.mt_requests.specs.declared.request.Request.{Request}
use Rattle.mt_requests.specs.Requests.{request_of}
use Rattle.mt_locks.specs.declared.mount_locks.MountLocks.{MountLocks}
use Rattle.mt_session.specs.Answers.{refusal, done_text, place_text, listed_text, lock_lines_text}
use Rattle.mt_session.specs.Requests.{SessionState, answer_to}

-- a line that refuses
abbrev pub Refuses : List ℕ → Type 0
Refuses text = (fault : Fault) × (text ≡ refusal fault)

-- the text of an answer of this form
abbrev pub HasForm : Form → List ℕ → Type 0
HasForm Done text = text ≡ done_text
HasForm Number text = (n : ℕ) × (text ≡ count_text n)
HasForm Place text = (mount : ℕ) × (names : List (List ℕ)) × (text ≡ place_text mount names)
HasForm Table text = (number : ℕ) × (rows : List Row) × (text ≡ table_text number rows)
HasForm LocksForm text = (rows : List MountLocks) × (text ≡ lock_lines_text rows)
HasForm OpeningForm text = (opening : Opening) × (text ≡ opening_text opening)
HasForm Posts text = (posts : List PostView) × (text ≡ posts_text posts)
HasForm Commands text = (commands : List Command) × (text ≡ listed_text commands)
HasForm Followed text = (posts : List PostView) × (end : List ℕ) × ((end ≡ count_text (length posts)) ⊎ Refuses end) × (text ≡ followed_text posts end)
HasForm Never text = ⊥

-- an answer refuses, or has the form of the verb that its line begins with
abbrev pub AnswersHaveForms : Type 0
AnswersHaveForms = (line : List ℕ) (state : SessionState) (r : Request) → request_of line ≡ Ok r → Refuses (answer_to state r) ⊎ HasForm (form_of line) (answer_to state r)
