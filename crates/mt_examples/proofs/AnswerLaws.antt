-- What a session answers is read by a client: each form of an answer.
use Rattle.std.proofs.Common.{◌≡◌, ℕ, suc, ◌+◌, ◌<◌, ◌≤◌, ◌^◌, true, false, List, [], ◌∷◌, ◌++◌, map, length, nat_eq, fold, if◌then◌else◌, refl, sym, ap, ◌∙◌, arith, append_assoc, append-nil, length-append, codes, decimal, Some, None, ◌&&◌, ◌⊎◌, inl, inr, IsTrue}
use Rattle.std.proofs.lemmas.List.{length-map}
use Rattle.std.proofs.lemmas.Bool.Decides.{nat_tests}
use Rattle.std.specs.List.{flat_map, join_with_byte, starts_with, AllByRecursion}
use Rattle.std.specs.Str.{bytes_eq}
use Rattle.std.specs.Option.{option_and_then}
use Rattle.mt_skel.specs.Fault.{name_of}
use Rattle.mt_skel.specs.Keyed.{rises}
use Rattle.mt_skel.proofs.MiddleLaws.{and-true}
use Rattle.mt_lines.specs.Words.{words, number_in_text}
use Rattle.mt_lines.proofs.NumberLaws.{number_decimal}
use Rattle.mt_lines.proofs.PieceLaws.{pieces_joined}
use Rattle.mt_locks.specs.declared.mount_locks.MountLocks.{MountLocks}
use Rattle.mt_locks.specs.MountLocks.{locked_mount}
use Rattle.mt_info.specs.LockLine.{lock_line, whole_lock_line, IsLockRow}
use Rattle.mt_info.specs.RowLine.{line, path_text, whole_line}
use Rattle.mt_info.proofs.WordLaws.{lacks, lacks_space, decimal-lacks, path-bare}
use Rattle.mt_events.specs.Mirrors.{MirrorView}
use Rattle.mt_events.specs.Posts.{PostView, ended, post_lines, post_text}
use Rattle.mt_events.specs.Texts.{count_text, table_text, posts_text, followed_text, lines_of_posts}
use Rattle.mt_protocol.specs.Verbs.{first_of, verb_of, has_command_verb}
use Rattle.mt_protocol.specs.declared.form.Form.{Form}
use Rattle.mt_protocol.specs.declared.form.Form.TheVariants.{Done, Number, Place, Table, Locks, Opening, Posts, Commands, Followed, Never}
use Rattle.mt_book.specs.declared.command.Command.{Command}
use Rattle.mt_book.specs.declared.command.Command.TheVariants.{Room, MakeFs, MakeDir, NewSpace, CopySpace, DropSpace, Mount, MountWith, Bind, Move, Pivot, Unmount, Detach, SetAttr, OpenTree, NewTree, MoveTree}
use Rattle.mt_requests.specs.Printed.{line_of_command, commands_text}
use Rattle.mt_session.specs.Answers.{place_text, lock_lines_text, listed_text}
use Rattle.mt_session.specs.Forms.{Refuses, HasForm}
use Rattle.mt_client.specs.Limits.{most_rows, most_opening_lines, most_waiting_lines, most_listed, at_most}
use Rattle.mt_client.specs.Requests.{verdict, none_behind, behind_first, lines_said}
use Rattle.mt_client.specs.Reading.{printed}
use Rattle.mt_client.specs.Mirroring.{IsShown, IsSentPost, counted_line, part_lines}
use Rattle.mt_client.specs.Finding.{parts_lines, found_lines, opening_found}
use Rattle.mt_client.specs.Awaited.{AreRowLines}
use Rattle.mt_client.specs.Replies.{IsPartLines, IsPostLines, IsCommandLines, AreBehind, IsHeaded, most_posts}
use Rattle.mt_client.proofs.RelayLaws.{printed-append}
use Rattle.mt_client.proofs.OpeningLaws.{few, rows_text, found_is}
use Rattle.mt_client.proofs.FollowLaws.{event_line, behind_lines, post_counted, printed_post}
use Rattle.mt_client.proofs.EndingLaws.{refusal_answers, refusal_tells}
use Rattle.mt_client.proofs.RefusalLaws.{refusals_read}
use Rattle.mt_examples.specs.AnswersAreRead.{IsOfServer, IsRead, AnswersAreRead}

-- a number that is no greater than a limit
within : (most n : ℕ) → n ≤ most → at_most most (Some n) ≡ Some n
within most n le = grind (arith, nat_tests, le)

-- a line whose first word is `ok`
said_ok : (first : List ℕ) (rest : List (List ℕ)) → words first ≡ codes "ok" ∷ rest → verdict first ≡ Some true
said_ok first rest are = ap (λ ws. if bytes_eq (first_of ws) (codes "ok") then Some true else (if bytes_eq (first_of ws) (codes "no") then Some false else None)) are

-- an answer that is known by its first line, whose words after `ok` are these
headed : (form : Form) (first : List ℕ) (rest others : List (List ℕ)) (count : ℕ) → words first ≡ codes "ok" ∷ rest → lines_said form rest ≡ Some count → AreBehind form count others → IsHeaded form (first ∷ others) true
headed form first rest others count are said behind = record {
  first = first;
  others = others;
  count = count;
  all = refl;
  tells = said_ok first rest are;
  counted = ap (λ ws. lines_said form (behind_first ws)) are ∙ said;
  behind = behind;
}

counted_words : (n : ℕ) → n < 2 ^ 64 → words (counted_line n) ≡ codes "ok" ∷ decimal n ∷ []
counted_words n lt = pieces_joined 32 (codes "ok") (decimal n ∷ []) (and-true (lacks 32 (decimal n)) true (decimal-lacks n lt) refl)

-- two words after `ok`
two_words : (a b : List ℕ) → lacks 32 a ≡ true → lacks 32 b ≡ true → words (codes "ok " ++ a ++ codes " " ++ b) ≡ codes "ok" ∷ a ∷ b ∷ []
two_words a b h k = ap words (joined a b) ∙ pieces_joined 32 (codes "ok") (a ∷ b ∷ []) (and-true (lacks 32 a) (lacks 32 b && true) h (and-true (lacks 32 b) true k refl))
  where
    joined : (a b : List ℕ) → codes "ok " ++ a ++ codes " " ++ b ≡ join_with_byte 32 (codes "ok" ∷ a ∷ b ∷ [])
    joined a b = simp append_assoc refl

-- one line
one_line : (text first : List ℕ) → text ≡ ended first → text ≡ printed (first ∷ [])
one_line text first e = e ∙ sym (append-nil (ended first))

number_read : (n : ℕ) → n < 2 ^ 64 → IsHeaded Number (counted_line n ∷ []) true
number_read n lt = headed Number (counted_line n) (decimal n ∷ []) [] 0 (counted_words n lt) (ap none_behind (number_decimal n lt)) (refl, refl)

path_begins : (names : List (List ℕ)) → starts_with nat_eq (path_text names) (codes "/") ≡ true
path_begins [] = refl
path_begins (n ∷ names) = refl

place_whole : (mount path : List ℕ) → codes "ok " ++ mount ++ codes " " ++ path ++ 10 ∷ [] ≡ ended (codes "ok " ++ mount ++ codes " " ++ path)
place_whole mount path = simp append_assoc refl

place_read : (mount : ℕ) (names : List (List ℕ)) → mount < 2 ^ 64 → IsRead Place (place_text mount names)
place_read mount names lt = (
  (codes "ok " ++ decimal mount ++ codes " " ++ path_text names) ∷ [],
  true,
  headed Place (codes "ok " ++ decimal mount ++ codes " " ++ path_text names) (decimal mount ∷ path_text names ∷ []) [] 0
      (two_words (decimal mount) (path_text names) (decimal-lacks mount lt) (lacks_space (path_text names) (path-bare names)))
      (ap (λ b. none_behind (if b then number_in_text (decimal mount) else None)) (path_begins names) ∙ ap none_behind (number_decimal mount lt)) (refl, refl),
  one_line (place_text mount names) (codes "ok " ++ decimal mount ++ codes " " ++ path_text names) (place_whole (decimal mount) (path_text names)),
)

-- rows
rows_read : (m : MirrorView) → IsShown m → AreRowLines (length m.rows) (map line m.rows)
rows_read m s = record { rows = m.rows; valid = s.rows; rising = s.rising; many = refl; all = refl }

table_read : (m : MirrorView) → IsShown m → IsRead Table (table_text m.number m.rows)
table_read m s =
    let n : ℕ = length m.rows in
    let first : List ℕ = codes "ok " ++ decimal n ++ codes " " ++ decimal m.number in (
      first ∷ map line m.rows,
      true,
      headed Table first (decimal n ∷ decimal m.number ∷ []) (map line m.rows) n
          (two_words (decimal n) (decimal m.number) (decimal-lacks n (few n s.counted)) (decimal-lacks m.number s.number))
          (ap (option_and_then (λ number. at_most most_rows (number_in_text (decimal n)))) (number_decimal m.number s.number) ∙ ap (at_most most_rows) (number_decimal n (few n s.counted)) ∙ within most_rows n s.counted) (rows_read m s),
      table_lines (decimal n) (decimal m.number) (flat_map whole_line m.rows) ∙ ap (λ x. ended first ++ x) (sym (rows_text m.rows)),
    )
  where
    table_lines : (count number rest : List ℕ) → codes "ok " ++ count ++ codes " " ++ number ++ 10 ∷ [] ++ rest ≡ ended (codes "ok " ++ count ++ codes " " ++ number) ++ rest
    table_lines count number rest = simp append_assoc refl

-- what is locked
locks_printed : (rows : List MountLocks) → flat_map whole_lock_line rows ≡ printed (map lock_line rows)
locks_printed [] = refl
locks_printed (k ∷ rows) = ap (λ t. ended (lock_line k) ++ t) (locks_printed rows)

locks_read : (rows : List MountLocks) → AllByRecursion IsLockRow rows → IsTrue (rises locked_mount rows) → length rows ≤ most_rows → IsRead Locks (lock_lines_text rows)
locks_read rows valid rising le =
    let n : ℕ = length rows in
    let lt : n < 2 ^ 64 = omega (arith, le) in (
      counted_line n ∷ map lock_line rows,
      true,
      headed Locks (counted_line n) (decimal n ∷ []) (map lock_line rows) n (counted_words n lt) (ap (at_most most_rows) (number_decimal n lt) ∙ within most_rows n le)
          (record { rows = rows; valid = valid; rising = rising; many = refl; all = refl }),
      ap (λ t. count_text n ++ t) (locks_printed rows),
    )

-- namespaces
part_read : (m : MirrorView) → IsShown m → IsPartLines (part_lines m)
part_read m s = record { space = m.space; number = m.number; count = length m.rows; rows = map line m.rows; small = (s.space, s.number, s.counted); all = refl; valid = rows_read m s }

parts_read : (parts : List MirrorView) → AllByRecursion IsShown parts → AllByRecursion IsPartLines (map part_lines parts)
parts_read [] s = tt
parts_read (m ∷ parts) s = (part_read m s.0, parts_read parts s.1)

-- groups of lines, one after another
groups : {X : Type 0} (f : X → List (List ℕ)) (xs : List X) → flat_map f xs ≡ flat_map (λ group. group) (map f xs)
groups f [] = refl
groups f (x ∷ xs) = ap (λ ls. f x ++ ls) (groups f xs)

opening_read : (parts : List MirrorView) → AllByRecursion IsShown parts → length (parts_lines parts) ≤ most_opening_lines → IsHeaded Opening (found_lines parts) true
opening_read parts s le =
    let n : ℕ = length (parts_lines parts) in
    let lt : n < 2 ^ 64 = omega (arith, le) in
    headed Opening (counted_line n) (decimal n ∷ []) (parts_lines parts) n (counted_words n lt) (ap (at_most most_opening_lines) (number_decimal n lt) ∙ within most_opening_lines n le)
    (record { blocks = map part_lines parts; each = parts_read parts s; all = groups part_lines parts }, refl)

-- posts
post_read : (p : PostView) → IsSentPost p → IsPostLines (post_lines p)
post_read p s = record { first = event_line p; others = behind_lines p; post = p; all = refl; counted = post_counted (event_line p) (behind_lines p) p s refl; valid = s; text = printed_post (post_lines p) p refl }

posts_read : (posts : List PostView) → AllByRecursion IsSentPost posts → AllByRecursion IsPostLines (map post_lines posts)
posts_read [] s = tt
posts_read (p ∷ posts) s = (post_read p s.0, posts_read posts s.1)

posts_printed : (posts : List PostView) → printed (flat_map post_lines posts) ≡ flat_map post_text posts
posts_printed [] = refl
posts_printed (p ∷ posts) = printed-append (post_lines p) (flat_map post_lines posts) ∙ (λ i. printed_post (post_lines p) p refl i ++ posts_printed posts i)

lines_from : {X : Type 0} (f : X → List (List ℕ)) (n : ℕ) (xs : List X) → fold (λ k x. k + length (f x)) n xs ≡ n + length (flat_map f xs)
lines_from f n [] = omega arith
lines_from f n (x ∷ xs) =
    let ih = lines_from f (n + length (f x)) xs in
    let l = length-append (f x) (flat_map f xs) in
    omega (arith, ih, l)

taken_read : (posts : List PostView) → AllByRecursion IsSentPost posts → lines_of_posts posts ≤ most_waiting_lines → IsRead Posts (posts_text posts)
taken_read posts s le =
    let n : ℕ = length (flat_map post_lines posts) in
    let f = lines_from post_lines 0 posts in
    let same : lines_of_posts posts ≡ n = omega (arith, f) in
    let small : n ≤ most_waiting_lines = omega (arith, same, le) in
    let lt : n < 2 ^ 64 = omega (arith, small) in (
      counted_line n ∷ flat_map post_lines posts,
      true,
      headed Posts (counted_line n) (decimal n ∷ []) (flat_map post_lines posts) n (counted_words n lt) (ap (at_most most_waiting_lines) (number_decimal n lt) ∙ within most_waiting_lines n small)
          (record { blocks = map post_lines posts; each = posts_read posts s; all = groups post_lines posts }, refl),
      ap (λ k. count_text k ++ flat_map post_text posts) same ∙ ap (λ x. ended (counted_line n) ++ x) (sym (posts_printed posts)),
    )

-- commands
command_begins : (c : Command) → has_command_verb (line_of_command c) ≡ true
unfolding line_of_command verb_of
command_begins (Bind n src dst true) = refl
command_begins (Bind n src dst false) = refl
command_begins (Room k) = refl
command_begins (MakeFs name kind source) = refl
command_begins (MakeDir fs path) = refl
command_begins (NewSpace fs) = refl
command_begins (CopySpace n privilege) = refl
command_begins (DropSpace n) = refl
command_begins (Mount n fs path) = refl
command_begins (MountWith n fs path set) = refl
command_begins (Move n src dst) = refl
command_begins (Pivot n new old) = refl
command_begins (Unmount n path) = refl
command_begins (Detach n path) = refl
command_begins (SetAttr n path change) = refl
command_begins (OpenTree n path recursive) = refl
command_begins (NewTree fs) = refl
command_begins (MoveTree tree n path) = refl

abbrev alone : Command → List (List ℕ)
alone c = line_of_command c ∷ []

each_command : (cs : List Command) → AllByRecursion IsCommandLines (map alone cs)
each_command [] = tt
each_command (c ∷ cs) = ((line_of_command c, command_begins c, refl), each_command cs)

commands_printed : (cs : List Command) → commands_text cs ≡ printed (flat_map alone cs)
commands_printed [] = refl
commands_printed (c ∷ cs) = ap (λ t. ended (line_of_command c) ++ t) (commands_printed cs)

commands_many : (cs : List Command) → length (flat_map alone cs) ≡ length cs
commands_many [] = refl
commands_many (c ∷ cs) = ap (λ n. suc n) (commands_many cs)

commands_read : (cs : List Command) → length cs ≤ most_listed → IsRead Commands (listed_text cs)
commands_read cs le =
    let n : ℕ = length cs in
    let lt : n < 2 ^ 64 = omega (arith, le) in (
      counted_line n ∷ flat_map alone cs,
      true,
      headed Commands (counted_line n) (decimal n ∷ []) (flat_map alone cs) n (counted_words n lt) (ap (at_most most_listed) (number_decimal n lt) ∙ within most_listed n le)
          (record { blocks = map alone cs; each = each_command cs; all = groups alone cs }, commands_many cs),
      ap (λ t. count_text n ++ t) (commands_printed cs),
    )

-- posts that are followed, and the line that ends them
ended_by : (posts : List PostView) (last end : List ℕ) → end ≡ ended last → followed_text posts end ≡ printed (flat_map post_lines posts ++ last ∷ [])
ended_by posts last end e = (λ i. sym (posts_printed posts) i ++ one_line end last e i) ∙ sym (printed-append (flat_map post_lines posts) (last ∷ []))

followed_read : (posts : List PostView) (end : List ℕ) → AllByRecursion IsSentPost posts → length posts < most_posts → (end ≡ count_text (length posts)) ⊎ Refuses end → IsRead Followed (followed_text posts end)
followed_read posts end s lt (inl e) =
    let n : ℕ = length posts in
    let m = length-map posts post_lines in
    let small : n < 2 ^ 64 = omega (arith, lt) in (
      flat_map post_lines posts ++ counted_line n ∷ [],
      true,
      record {
        posts = map post_lines posts;
        last = counted_line n;
        each = posts_read posts s;
        all = ap (λ ls. ls ++ counted_line n ∷ []) (groups post_lines posts);
        tells = said_ok (counted_line n) (decimal n ∷ []) (counted_words n small);
        ends = ap counted_line (sym m);
        bounded = omega (arith, m, lt);
      },
      ended_by posts (counted_line n) end e,
    )
followed_read posts end s lt (inr r) =
    let last : List ℕ = codes "no " ++ name_of r.0 in
    let m = length-map posts post_lines in (
      flat_map post_lines posts ++ last ∷ [],
      false,
      record {
        posts = map post_lines posts;
        last = last;
        each = posts_read posts s;
        all = ap (λ ls. ls ++ last ∷ []) (groups post_lines posts);
        tells = refusal_tells last (refusals_read r.0);
        ends = refusals_read r.0;
        bounded = omega (arith, m, lt);
      },
      ended_by posts last end r.1,
    )

-- a refusal, in the place of each answer
refusal_read : (form : Form) (text : List ℕ) → Refuses text → IsRead form text
refusal_read form text r = ((codes "no " ++ name_of r.0) ∷ [], false, refusal_answers form (codes "no " ++ name_of r.0) (refusals_read r.0), one_line text (codes "no " ++ name_of r.0) r.1)

-- each form
read_as : {text printed_text : List ℕ} (form : Form) → text ≡ printed_text → IsRead form printed_text → IsRead form text
read_as form e r = (r.0, r.1, r.2, e ∙ r.3)

form_read : (form : Form) (text : List ℕ) → IsOfServer form text → HasForm form text × IsRead form text
form_read Done text e = (e, (codes "ok" ∷ [], true, headed Done (codes "ok") [] [] 0 refl refl (refl, refl), e))
form_read Number text k = ((k.0, k.2), (counted_line k.0 ∷ [], true, number_read k.0 k.1, one_line text (counted_line k.0) k.2))
form_read Place text k = ((k.0, k.1, k.3), read_as Place k.3 (place_read k.0 k.1 k.2))
form_read Table text k = ((k.0.number, k.0.rows, k.2), read_as Table k.2 (table_read k.0 k.1))
form_read Locks text k = ((k.0, k.4), read_as Locks k.4 (locks_read k.0 k.1 k.2 k.3))
form_read Opening text k = ((opening_found k.0 k.1, k.4), (found_lines k.1, true, opening_read k.1 k.2 k.3, k.4 ∙ sym (found_is k.0 k.1)))
form_read Posts text k = ((k.0, k.3), read_as Posts k.3 (taken_read k.0 k.1 k.2))
form_read Commands text k = ((k.0, k.2), read_as Commands k.2 (commands_read k.0 k.1))
form_read Followed text k = ((k.0, k.1, k.4, k.5), read_as Followed k.5 (followed_read k.0 k.1 k.2 k.3 k.4))
form_read Never text k = absurd k

pub answers_are_read : AnswersAreRead
answers_are_read form text = (form_read form text, refusal_read form text)
