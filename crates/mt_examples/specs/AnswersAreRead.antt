-- What a session answers, as a client reads it.
-- A word with no source is this project's rule.
use Rattle.std.specs.Prelude.{◌≡◌, ◌⊎◌, ℕ, ◌<◌, ◌≤◌, ◌^◌, Bool, List, length, IsTrue}
use Rattle.std.specs.List.{AllByRecursion}
use Rattle.mt_protocol.specs.declared.form.Form.{Form}
use Rattle.mt_protocol.specs.declared.form.Form.TheVariants.{Done, Number, Place, Table, Locks, Opening, Posts, Commands, Followed, Never}
use Rattle.mt_skel.specs.Keyed.{rises}
use Rattle.mt_locks.specs.declared.mount_locks.MountLocks.{MountLocks}
use Rattle.mt_locks.specs.MountLocks.{locked_mount}
use Rattle.mt_info.specs.LockLine.{IsLockRow}
use Rattle.mt_events.specs.Mirrors.{MirrorView}
use Rattle.mt_events.specs.Posts.{PostView}
use Rattle.mt_events.specs.Texts.{count_text, table_text, opening_text, posts_text, followed_text, lines_of_posts}
use Rattle.mt_events.specs.declared.opening.Scope.{Scope}
use Rattle.mt_book.specs.declared.command.Command.{Command}
use Rattle.mt_session.specs.Answers.{done_text, place_text, lock_lines_text, listed_text}
use Rattle.mt_session.specs.Forms.{Refuses, HasForm}
use Rattle.mt_client.specs.Limits.{most_rows, most_opening_lines, most_waiting_lines, most_listed}
use Rattle.mt_client.specs.Reading.{printed}
use Rattle.mt_client.specs.Mirroring.{IsShown, IsSentPost}
use Rattle.mt_client.specs.Finding.{parts_lines, opening_found}
use Rattle.mt_client.specs.Replies.{most_posts, IsAnswer}

-- the text of an answer of this form, of numbers of 64 bits, and of no more rows, posts and commands than a server tells at once
abbrev pub IsOfServer : Form → List ℕ → Type 0
IsOfServer Done text = text ≡ done_text
IsOfServer Number text = (n : ℕ) × (n < 2 ^ 64) × (text ≡ count_text n)
IsOfServer Place text = (mount : ℕ) × (names : List (List ℕ)) × (mount < 2 ^ 64) × (text ≡ place_text mount names)
IsOfServer Table text = (m : MirrorView) × IsShown m × (text ≡ table_text m.number m.rows)
IsOfServer Locks text = (rows : List MountLocks) × AllByRecursion IsLockRow rows × IsTrue (rises locked_mount rows) × (length rows ≤ most_rows) × (text ≡ lock_lines_text rows)
IsOfServer Opening text = (scope : Scope) × (parts : List MirrorView) × AllByRecursion IsShown parts × (length (parts_lines parts) ≤ most_opening_lines) × (text ≡ opening_text (opening_found scope parts))
IsOfServer Posts text = (posts : List PostView) × AllByRecursion IsSentPost posts × (lines_of_posts posts ≤ most_waiting_lines) × (text ≡ posts_text posts)
IsOfServer Commands text = (commands : List Command) × (length commands ≤ most_listed) × (text ≡ listed_text commands)
IsOfServer Followed text =
    (posts : List PostView) × (end : List ℕ) × AllByRecursion IsSentPost posts × (length posts < most_posts) × ((end ≡ count_text (length posts)) ⊎ Refuses end) × (text ≡ followed_text posts end)
IsOfServer Never text = ⊥

-- a text is printed of whole lines that are an answer to a request of this form
abbrev pub IsRead : Form → List ℕ → Type 0
IsRead form text = (lines : List (List ℕ)) × (told : Bool) × IsAnswer form lines told × (text ≡ printed lines)

-- such a text has the form that a session gives its answers, and a client reads it as an answer; a refusal it reads in the place of each
abbrev pub AnswersAreRead : Type 0
AnswersAreRead = (form : Form) (text : List ℕ) → (IsOfServer form text → HasForm form text × IsRead form text) × (Refuses text → IsRead form text)
