-- The request that a line says, or why it is refused (the lines are this project's rule).
-- A word with no source is this project's rule.
use Rattle.std.specs.Prelude.{◌≡◌, ◌⊎◌, ℕ, ◌<◌, ◌≤◌, Bool, true, false, not, ◌&&◌, ◌||◌, ◌==◌, nat_eq, nat_lt, nat_le, if◌then◌else◌, List, [], ◌∷◌, length, drop, fold, Option, Some, None, unwrap_or, is_some, Result, Ok, Err, codes}
use Rattle.std.specs.List.{list_all, list_any, starts_with}
use Rattle.std.specs.Option.{option_map, option_map_or, option_or}
use Rattle.std.specs.Str.{bytes_eq}
use Rattle.mt_skel.specs.declared.fault.Fault.{Fault}
use Rattle.mt_skel.specs.declared.fault.Fault.TheVariants.{BadLine, TooLong, BadPath, NoMemory}
use Rattle.mt_skel.specs.Escapes.{unescaped}
use Rattle.mt_skel.specs.Names.{is_name}
use Rattle.mt_skel.specs.Outcome.{refuse_if, first_fault}
use Rattle.mt_lines.specs.Words.{pieces, words, number_in_text}
use Rattle.mt_protocol.specs.Verbs.{verb_of, verb_arguments, first_of, is_optional, most_taken, most_followed}
use Rattle.mt_protocol.specs.declared.argument.Argument.{Argument}
use Rattle.mt_protocol.specs.declared.argument.Argument.TheVariants.{Space, Scope as Scoped, Count, Label, Path, Less, Lock, Recursive, Attributes, Setting}
use Rattle.mt_protocol.specs.declared.verb.Verb.{Verb}
use Rattle.mt_protocol.specs.declared.verb.Verb.TheVariants as verb
use Rattle.mt_events.specs.declared.opening.Scope.{Scope}
use Rattle.mt_events.specs.declared.opening.Scope.TheVariants.{One, All}
use Rattle.mt_setattr.specs.declared.change.Change.{Change}
use Rattle.mt_setattr.specs.declared.change.SetWords.{SetWords}
use Rattle.mt_requests.specs.Options.{nothing_set, no_change, attributes_of, change_of}
use Rattle.mt_book.specs.declared.command.Command.{Command}
use Rattle.mt_book.specs.declared.command.Command.TheVariants as command
use Rattle.mt_book.specs.declared.command.Privilege.{Privilege}
use Rattle.mt_book.specs.declared.command.Privilege.TheVariants as privilege
use Rattle.mt_requests.specs.declared.request.Query.{Query}
use Rattle.mt_requests.specs.declared.request.Query.TheVariants as query
use Rattle.mt_requests.specs.declared.request.Request.{Request}
use Rattle.mt_requests.specs.declared.request.Request.TheVariants as request

-- how many bytes a word stands for; none where it is empty, has a zero byte, or has a backslash that begins no escape
abbrev pub text_length : List ℕ → Option ℕ
text_length word =
    if nat_eq (length word) 0 || list_any (λ b. b == 0) word then None else option_map (λ bytes. length bytes) (unescaped word)

-- a word that stands for no text is a bad line, and a label of more than 255 bytes is too long
abbrev pub label_fault : List ℕ → Option Fault
label_fault word = option_map_or (λ n. refuse_if (nat_lt 255 n) TooLong) (text_length word) (Some BadLine)

-- the bytes that a word stands for
abbrev pub label_bytes : List ℕ → List ℕ
label_bytes word = unwrap_or (unescaped word) []

-- the components of a path stand between its slashes, behind the first; `/` alone has none
abbrev pub components : List ℕ → List (List ℕ)
components path = if bytes_eq path (codes "/") then [] else drop 1 (pieces 47 path)

-- a path begins with a slash, and each of its components is a name
abbrev pub is_path : List ℕ → Bool
is_path path = starts_with nat_eq path (codes "/") && list_all is_name (components path)

-- whether a piece between slashes, in front of them or behind them has more than 255 bytes
abbrev pub has_long_piece : List ℕ → Bool
has_long_piece path = list_any (λ piece. nat_lt 255 (length piece)) (pieces 47 path)

-- a word that stands for no text is a bad line, one of more than 4,095 bytes or with a long piece is too long, and any other is to be a path
abbrev pub path_fault : List ℕ → Option Fault
path_fault word =
    option_map_or (λ n. first_fault (refuse_if (nat_lt 4095 n || has_long_piece (label_bytes word)) TooLong
    ∷ refuse_if (not (is_path (label_bytes word))) BadPath ∷ []))
    (text_length word) (Some BadLine)

-- the names that a path word says, from the root down
abbrev pub path_names : List ℕ → List (List ℕ)
path_names word = components (label_bytes word)

-- whether a word is a reason to refuse the line as bad, or as too long
abbrev pub is_bad_line : Option Fault → Bool
is_bad_line (Some BadLine) = true
is_bad_line _ = false

abbrev pub is_too_long : Option Fault → Bool
is_too_long (Some TooLong) = true
is_too_long _ = false

-- of two faults a BadLine comes first, then a TooLong, and then the first that is there
abbrev pub prior_of_two : Option Fault → Option Fault → Option Fault
prior_of_two a b = if is_bad_line a then a else (if is_bad_line b then b else (if is_too_long a then a else (if is_too_long b then b else option_or a b)))

-- the fault among those of a line's words that comes first
abbrev pub prior_fault : List (Option Fault) → Option Fault
prior_fault faults = fold prior_of_two None faults

-- a bad line, unless something is right
abbrev pub bad_unless : Bool → Option Fault
bad_unless right = refuse_if (not right) BadLine

-- the namespaces that a word names: all, or one by its number
abbrev pub scope_of : List ℕ → Option Scope
scope_of word = if bytes_eq word (codes "all") then Some All else option_map (λ n. One n) (number_in_text word)

-- how many posts a word asks for, of at most so many and at least one
abbrev pub count_of : ℕ → List ℕ → Option ℕ
count_of most word = option_map_or (λ n. if nat_lt 0 n && nat_le n most then Some n else None) (number_in_text word) None

-- why a word cannot stand as an argument; options have no fault of their own, since they are read together
abbrev pub word_fault : Argument → List ℕ → Option Fault
word_fault Space word = bad_unless (is_some (number_in_text word))
word_fault Scoped word = bad_unless (is_some (scope_of word))
word_fault (Count most) word = bad_unless (is_some (count_of most word))
word_fault Label word = label_fault word
word_fault Path word = path_fault word
word_fault Less word = bad_unless (bytes_eq word (codes "less"))
word_fault Lock word = bad_unless (bytes_eq word (codes "lock"))
word_fault Recursive word = bad_unless (bytes_eq word (codes "rec"))
word_fault Attributes word = bad_unless (is_some (attributes_of word))
word_fault Setting word = None

-- there is a word for each argument, but for those that may be left out, and none besides
abbrev pub are_counted : List Argument → List (List ℕ) → Bool
are_counted arguments [] = list_all is_optional arguments
are_counted [] (word ∷ words) = false
are_counted (argument ∷ arguments) (word ∷ words) = are_counted arguments words

-- the faults of words, each by its argument, and of the options, which are the last
abbrev pub word_faults : List Argument → List (List ℕ) → List (Option Fault)
word_faults (Setting ∷ arguments) options = bad_unless (is_some (change_of options)) ∷ []
word_faults (argument ∷ arguments) (word ∷ words) = word_fault argument word ∷ word_faults arguments words
word_faults arguments words = []

-- why the words behind a verb are refused
abbrev pub words_fault : List Argument → List (List ℕ) → Option Fault
words_fault arguments words = if are_counted arguments words then prior_fault (word_faults arguments words) else Some BadLine

-- what words say that are right
abbrev pub number_said : List ℕ → ℕ
number_said word = unwrap_or (number_in_text word) 0

abbrev pub scope_said : List ℕ → Scope
scope_said word = unwrap_or (scope_of word) All

abbrev pub attributes_said : List ℕ → SetWords
attributes_said word = unwrap_or (attributes_of word) nothing_set

abbrev pub change_said : List (List ℕ) → Change
change_said options = unwrap_or (change_of options) no_change

-- the words behind a verb, and the options behind two of them
abbrev pub second_of : List (List ℕ) → List ℕ
second_of words = first_of (drop 1 words)

abbrev pub options_behind : List (List ℕ) → List (List ℕ)
options_behind words = drop 1 (drop 1 words)

abbrev pub third_of : List (List ℕ) → List ℕ
third_of words = first_of (options_behind words)

-- how a copy of a namespace stands to it, by the words `less` and `lock` where they stand
abbrev pub privilege_said : List ℕ → List ℕ → Privilege
privilege_said less lock = if bytes_eq lock (codes "lock") then privilege.LessLocked else (if bytes_eq less (codes "less") then privilege.Less else privilege.Same)

-- a mount, with attributes where a word says them
abbrev pub mount_said : ℕ → List ℕ → List (List ℕ) → List (List ℕ) → Command
mount_said n fs path [] = command.Mount n fs path
mount_said n fs path (word ∷ words) = command.MountWith n fs path (attributes_said word)

-- the request of a verb and the words behind it, where each can stand there
abbrev pub request_with : Verb → List (List ℕ) → Request
request_with verb.Mkfs w = request.Run (command.MakeFs (label_bytes (first_of w)) (label_bytes (second_of w)) (label_bytes (third_of w)))
request_with verb.Mkdir w = request.Run (command.MakeDir (label_bytes (first_of w)) (path_names (second_of w)))
request_with verb.Newns w = request.Run (command.NewSpace (label_bytes (first_of w)))
request_with verb.Copyns w = request.Run (command.CopySpace (number_said (first_of w)) (privilege_said (second_of w) (third_of w)))
request_with verb.Dropns w = request.Run (command.DropSpace (number_said (first_of w)))
request_with verb.Mount w = request.Run (mount_said (number_said (first_of w)) (label_bytes (second_of w)) (path_names (third_of w)) (drop 1 (options_behind w)))
request_with verb.Bind w = request.Run (command.Bind (number_said (first_of w)) (path_names (second_of w)) (path_names (third_of w)) false)
request_with verb.Rbind w = request.Run (command.Bind (number_said (first_of w)) (path_names (second_of w)) (path_names (third_of w)) true)
request_with verb.Move w = request.Run (command.Move (number_said (first_of w)) (path_names (second_of w)) (path_names (third_of w)))
request_with verb.Pivot w = request.Run (command.Pivot (number_said (first_of w)) (path_names (second_of w)) (path_names (third_of w)))
request_with verb.Umount w = request.Run (command.Unmount (number_said (first_of w)) (path_names (second_of w)))
request_with verb.Detach w = request.Run (command.Detach (number_said (first_of w)) (path_names (second_of w)))
request_with verb.Setattr w = request.Run (command.SetAttr (number_said (first_of w)) (path_names (second_of w)) (change_said (options_behind w)))
request_with verb.Opentree w = request.Run (command.OpenTree (number_said (first_of w)) (path_names (second_of w)) (bytes_eq (third_of w) (codes "rec")))
request_with verb.Newtree w = request.Run (command.NewTree (label_bytes (first_of w)))
request_with verb.Movetree w = request.Run (command.MoveTree (number_said (first_of w)) (number_said (second_of w)) (path_names (third_of w)))
request_with verb.Show w = request.Ask (query.Show (number_said (first_of w)))
request_with verb.Locks w = request.Ask (query.Locks (number_said (first_of w)))
request_with verb.Find w = request.Ask (query.Find (number_said (first_of w)) (path_names (second_of w)))
request_with verb.Journal w = request.Ask (query.Journal (number_said (first_of w)) (number_said (second_of w)))
request_with verb.Watch w = request.Watch (scope_said (first_of w))
request_with verb.Take w = request.Take (number_said (first_of w))
request_with verb.Follow w = request.Follow (number_said (first_of w))
request_with verb.Close w = request.Close
request_with verb.Quit w = request.Quit
request_with verb.Stop w = request.Stop

-- what the words behind a verb ask for, or why they are refused
abbrev pub read_by : Verb → List (List ℕ) → Result Request Fault
read_by v words = option_map_or (λ f. Err f) (words_fault (verb_arguments v) words) (Ok (request_with v words))

-- a `take` asks for at least one post and for at most 1,024, and a `follow` for at least one and at most 1,048,576
abbrev pub HasRightCount : Request → Type 0
HasRightCount (request.Take k) = (0 < k) × (k ≤ most_taken)
HasRightCount (request.Follow k) = (0 < k) × (k ≤ most_followed)
HasRightCount r = Unit {0}

-- the labels and the paths among words have no fault
abbrev pub AreTexts : List Argument → List (List ℕ) → Type 0
AreTexts [] words = Unit {0}
AreTexts (Setting ∷ arguments) words = Unit {0}
AreTexts (Label ∷ arguments) words = (label_fault (first_of words) ≡ None) × AreTexts arguments (drop 1 words)
AreTexts (Path ∷ arguments) words = (path_fault (first_of words) ≡ None) × AreTexts arguments (drop 1 words)
AreTexts (argument ∷ arguments) words = AreTexts arguments (drop 1 words)

-- the verb of a line says how the words behind it are read; without one it is a bad line
abbrev pub by_words : List (List ℕ) → Result Request Fault
by_words [] = Err BadLine
by_words (word ∷ rest) = option_map_or (λ v. read_by v rest) (verb_of word) (Err BadLine)

-- what a line asks for, or why it is refused
unfoldable pub request_of : List ℕ → Result Request Fault
request_of line = by_words (words line)

-- every refusal of a line, `quit`, `stop` and the lines of watchers are read without memory; every other may fail for want of it
abbrev pub may_want_memory : Result Request Fault → Bool
may_want_memory (Ok (request.Run c)) = true
may_want_memory (Ok (request.Ask q)) = true
may_want_memory asked = false

-- the verb of a command, of a query, and of a request; no line asks for a room, and its verb is one with the same form of answer
abbrev pub command_verb : Command → Verb
command_verb (command.Room k) = verb.Mkdir
command_verb (command.MakeFs name kind source) = verb.Mkfs
command_verb (command.MakeDir fs path) = verb.Mkdir
command_verb (command.NewSpace fs) = verb.Newns
command_verb (command.CopySpace n privilege) = verb.Copyns
command_verb (command.DropSpace n) = verb.Dropns
command_verb (command.Mount n fs path) = verb.Mount
command_verb (command.MountWith n fs path set) = verb.Mount
command_verb (command.Bind n src dst recursive) = if recursive then verb.Rbind else verb.Bind
command_verb (command.Move n src dst) = verb.Move
command_verb (command.Pivot n new old) = verb.Pivot
command_verb (command.Unmount n path) = verb.Umount
command_verb (command.Detach n path) = verb.Detach
command_verb (command.SetAttr n path change) = verb.Setattr
command_verb (command.OpenTree n path recursive) = verb.Opentree
command_verb (command.NewTree fs) = verb.Newtree
command_verb (command.MoveTree tree n path) = verb.Movetree

abbrev pub query_verb : Query → Verb
query_verb (query.Show n) = verb.Show
query_verb (query.Locks n) = verb.Locks
query_verb (query.Find n path) = verb.Find
query_verb (query.Journal from most) = verb.Journal

abbrev pub request_verb : Request → Verb
request_verb (request.Run c) = command_verb c
request_verb (request.Ask q) = query_verb q
request_verb (request.Watch scope) = verb.Watch
request_verb (request.Take k) = verb.Take
request_verb (request.Follow k) = verb.Follow
request_verb request.Close = verb.Close
request_verb request.Quit = verb.Quit
request_verb request.Stop = verb.Stop

-- the verb of a line is that of its request
abbrev pub LinesTellVerbs : Type 0
LinesTellVerbs = (line : List ℕ) (r : Request) → request_of line ≡ Ok r → verb_of (first_of (words line)) ≡ Some (request_verb r)

-- what was read is what the line asks for, or want of memory where that may be
abbrev pub ReadsAs : Result Request Fault → Result Request Fault → Type 0
ReadsAs said read = (read ≡ said) ⊎ ((read ≡ Err NoMemory) × (may_want_memory said ≡ true))
