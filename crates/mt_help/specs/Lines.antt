-- The page of each line of a session.
-- A word with no source is this project's rule.
use Rattle.std.specs.Prelude.{◌≡◌, ℕ, if◌then◌else◌, List, [], map, codes}
use Rattle.mt_skel.specs.declared.fault.Fault.{Fault}
use Rattle.mt_protocol.specs.Verbs.{verb_form, is_command, verb_refusals, verb_example}
use Rattle.mt_protocol.specs.declared.form.Form.{Form}
use Rattle.mt_protocol.specs.declared.form.Form.TheVariants.{Done, Number, Place, Table, Locks, Opening, Posts, Commands, Followed, Never}
use Rattle.mt_protocol.specs.declared.verb.Verb.{Verb}
use Rattle.mt_protocol.specs.declared.verb.Verb.TheVariants as verb
use Rattle.mt_help.specs.declared.page.RefusalSaid.{RefusalSaid}
use Rattle.mt_help.specs.declared.page.Usage.{Usage}
use Rattle.mt_help.specs.Pages.{page_text}

-- what lines are answered, in words
abbrev pub answer_said : Form → List ℕ
answer_said Done = codes "ok"
answer_said Number = codes "ok, and the number of what is made"
answer_said Place = codes "ok, the number of the mount, and the directory of its filesystem"
answer_said Table = codes "ok, the count of the rows and the number of the last change, and the rows"
answer_said Locks = codes "ok and a count of mounts, and of each its ID and what is locked of it"
answer_said Opening = codes "ok and a count of lines, and as many: of each namespace a heading and its rows"
answer_said Posts = codes "ok and a count of posts, and their lines"
answer_said Commands = codes "ok and a count of commands, and the line of each"
answer_said Followed = codes "the lines of posts as they come, and then ok and how many posts they are"
answer_said Never = []

-- what else lines may be refused as: those that end something, commands, and the others
abbrev pub note_of : Verb → List ℕ
note_of verb.Quit = codes "A line of a wrong form is refused as BadLine or TooLong."
note_of verb.Stop = codes "A line of a wrong form is refused as BadLine or TooLong."
note_of v =
    if is_command v then codes "A line of a wrong form is refused as BadLine, TooLong or BadPath, and any command may be as JournalFull, Stopped or NoMemory."
    else codes "A line of a wrong form is refused as BadLine, TooLong or BadPath, and any may be as NoMemory."

-- the refusal of which it is told what it says
abbrev pub said_refusal : RefusalSaid → Fault
said_refusal said = said.refusal

-- a page of lines with a verb that are written so: with the answer, the example and the refusals of that verb, each with what it says
abbrev pub IsVerbPage : Verb → List Usage → List ℕ → Type 0
IsVerbPage v usages text = (said : List RefusalSaid) × (map said_refusal said ≡ verb_refusals v)
    × (text ≡ page_text usages (answer_said (verb_form v)) (verb_example v) said (note_of v))
