-- The line of a command: what is read as that command.
-- A word with no source is this project's rule.
use Rattle.std.specs.Prelude.{◌≡◌, ℕ, Bool, ◌==◌, nat_eq, cond, if◌then◌else◌, List, [], ◌∷◌, ◌++◌, length, not, IsTrue, Option, Some, None, Ok, codes, decimal}
use Rattle.std.specs.List.{flat_map, list_all, join_with_byte}
use Rattle.mt_skel.specs.Escapes.{escaped_byte}
use Rattle.mt_skel.specs.Names.{names_text}
use Rattle.mt_info.specs.Building.{behind}
use Rattle.mt_info.specs.RowLine.{word_if}
use Rattle.mt_peers.specs.declared.state.Kind.{Kind}
use Rattle.mt_peers.specs.declared.state.Kind.TheVariants.{Shared, Private, Slave, Unbindable}
use Rattle.mt_setattr.specs.declared.change.Change.{Change}
use Rattle.mt_setattr.specs.declared.change.SetWords.{SetWords}
use Rattle.mt_setattr.specs.declared.change.ClrWords.{ClrWords}
use Rattle.mt_protocol.specs.Verbs.{verb_word}
use Rattle.mt_book.specs.declared.command.Command.{Command}
use Rattle.mt_book.specs.declared.command.Privilege.{Privilege}
use Rattle.mt_book.specs.declared.command.Privilege.TheVariants.{Same, Less, LessLocked}
use Rattle.mt_book.specs.declared.command.Command.TheVariants.{Room, MakeFs, MakeDir, NewSpace, CopySpace, DropSpace, Mount, MountWith, Bind, Move, Pivot, Unmount, Detach, SetAttr, OpenTree, NewTree, MoveTree}
use Rattle.mt_requests.specs.declared.request.Request.TheVariants.{Run}
use Rattle.mt_requests.specs.Requests.{command_verb, request_of}

-- a byte in a line that is sent: space, newline and backslash are written as escapes, and every other byte stands for itself, a tab too, so that no line is longer than one that says the same
abbrev pub sent_byte : ℕ → List ℕ
sent_byte b = if b == 9 then b ∷ [] else escaped_byte b

-- bytes in a line that is sent
abbrev pub sent : List ℕ → List ℕ
sent bytes = flat_map sent_byte bytes

-- a path is its names, each preceded by a slash, and the root is only a slash
abbrev pub bytes_of_path : List (List ℕ) → List ℕ
bytes_of_path names = cond (nat_eq (length names) 0) (codes "/") (names_text names)

abbrev pub sent_path : List (List ℕ) → List ℕ
sent_path names = sent (bytes_of_path names)

-- the words among these of which it is said that they are there
unfoldable pub words_there : List (Bool × List ℕ) → List (List ℕ)
words_there [] = []
words_there (r ∷ rs) = cond r.0 (r.1 ∷ words_there rs) (words_there rs)

-- the attributes that can be set, each with whether it is
abbrev pub set_rows : SetWords → List (Bool × List ℕ)
set_rows s =
    (s.ro, codes "ro") ∷ (s.nosuid, codes "nosuid") ∷ (s.nodev, codes "nodev") ∷ (s.noexec, codes "noexec") ∷ (s.nosymfollow, codes "nosymfollow")
    ∷ (s.nodiratime, codes "nodiratime") ∷ (s.relatime, codes "relatime") ∷ (s.noatime, codes "noatime") ∷ (s.strictatime, codes "strictatime") ∷ []

-- and those that can be cleared
abbrev pub clr_rows : ClrWords → List (Bool × List ℕ)
clr_rows s =
    (s.ro, codes "ro") ∷ (s.nosuid, codes "nosuid") ∷ (s.nodev, codes "nodev") ∷ (s.noexec, codes "noexec") ∷ (s.nosymfollow, codes "nosymfollow")
    ∷ (s.nodiratime, codes "nodiratime") ∷ (s.atime, codes "atime") ∷ []

-- an option: a key, and words joined by commas; none where there is no word
abbrev pub listed_option : List ℕ → List (List ℕ) → List (List ℕ)
listed_option key [] = []
listed_option key (w ∷ ws) = (key ++ join_with_byte 44 (w ∷ ws)) ∷ []

-- the same behind a space, of a list in which each word stands behind a comma
abbrev pub behind_comma : List ℕ → List ℕ → List ℕ
behind_comma key [] = []
behind_comma key (comma ∷ words) = 32 ∷ key ++ words

abbrev pub said_set : SetWords → List (List ℕ)
said_set set = listed_option (codes "set=") (words_there (set_rows set))

abbrev pub said_clr : ClrWords → List (List ℕ)
said_clr clr = listed_option (codes "clr=") (words_there (clr_rows clr))

abbrev pub kind_word : Kind → List ℕ
kind_word Shared = codes "shared"
kind_word Private = codes "private"
kind_word Slave = codes "slave"
kind_word Unbindable = codes "unbindable"

abbrev pub said_prop : Option Kind → List (List ℕ)
said_prop None = []
said_prop (Some kind) = (codes "prop=" ++ kind_word kind) ∷ []

-- the options of a change
abbrev pub change_options : Change → List (List ℕ)
change_options c = word_if c.recursive (codes "rec") ++ (said_set c.set ++ (said_clr c.clr ++ said_prop c.prop))

-- how a copy of a namespace stands to it
abbrev pub privilege_words : Privilege → List (List ℕ)
privilege_words Same = []
privilege_words Less = codes "less" ∷ []
privilege_words LessLocked = codes "less" ∷ codes "lock" ∷ []

-- the words of a command behind its verb; a room, for which no line asks, has none
abbrev pub command_words : Command → List (List ℕ)
command_words (Room k) = []
command_words (MakeFs name kind source) = sent name ∷ sent kind ∷ sent source ∷ []
command_words (MakeDir fs path) = sent fs ∷ sent_path path ∷ []
command_words (NewSpace fs) = sent fs ∷ []
command_words (CopySpace n privilege) = decimal n ∷ privilege_words privilege
command_words (DropSpace n) = decimal n ∷ []
command_words (Mount n fs path) = decimal n ∷ sent fs ∷ sent_path path ∷ []
command_words (MountWith n fs path set) = decimal n ∷ sent fs ∷ sent_path path ∷ said_set set
command_words (Bind n src dst recursive) = decimal n ∷ sent_path src ∷ sent_path dst ∷ []
command_words (Move n src dst) = decimal n ∷ sent_path src ∷ sent_path dst ∷ []
command_words (Pivot n new old) = decimal n ∷ sent_path new ∷ sent_path old ∷ []
command_words (Unmount n path) = decimal n ∷ sent_path path ∷ []
command_words (Detach n path) = decimal n ∷ sent_path path ∷ []
command_words (SetAttr n path change) = decimal n ∷ sent_path path ∷ change_options change
command_words (OpenTree n path recursive) = decimal n ∷ sent_path path ∷ word_if recursive (codes "rec")
command_words (NewTree fs) = sent fs ∷ []
command_words (MoveTree tree n path) = decimal tree ∷ decimal n ∷ sent_path path ∷ []

-- the line of a command, without its line end
unfoldable pub line_of_command : Command → List ℕ
line_of_command c = verb_word (command_verb c) ++ behind 32 (command_words c)

-- the lines of commands, each with its line end
abbrev pub commands_text : List Command → List ℕ
commands_text cs = flat_map (λ c. line_of_command c ++ 10 ∷ []) cs

-- the line of a command that a line has said is read as that command, and has no line end in it
abbrev pub CommandsAreReadBack : Type 0
CommandsAreReadBack =
    (line : List ℕ) (c : Command) → request_of line ≡ Ok (Run c) → (request_of (line_of_command c) ≡ Ok (Run c)) × IsTrue (list_all (λ b. not (b == 10)) (line_of_command c))
