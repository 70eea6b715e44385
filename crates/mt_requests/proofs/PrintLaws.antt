-- The line of a command is read as that command.
use Rattle.std.proofs.Common.{◌≡◌, ◌≢◌, ℕ, ◌<◌, ◌^◌, Bool, true, false, cond, List, [], ◌∷◌, ◌++◌, fold, codes, decimal, Option, Some, None, is_some, unwrap_or, Result, Ok, Err, refl, sym, ap, subst, ◌∙◌, arith}
use Rattle.std.specs.List.{list_all, join_with_byte}
use Rattle.std.specs.Option.{option_map_or}
use Rattle.mt_skel.specs.declared.fault.Fault.{Fault}
use Rattle.mt_skel.specs.declared.fault.Fault.TheVariants.{BadLine}
use Rattle.mt_skel.specs.Names.{is_label}
use Rattle.mt_skel.proofs.MiddleLaws.{and-true}
use Rattle.mt_lines.specs.Words.{words}
use Rattle.mt_lines.proofs.PieceLaws.{pieces_joined}
use Rattle.mt_info.specs.Building.{behind}
use Rattle.mt_setattr.specs.declared.change.Change.{Change}
use Rattle.mt_setattr.specs.declared.change.SetWords.{SetWords}
use Rattle.mt_protocol.specs.Verbs.{verb_of, verb_word, verb_arguments, first_of}
use Rattle.mt_protocol.specs.declared.verb.Verb.{Verb}
use Rattle.mt_protocol.specs.declared.verb.Verb.TheVariants as verb
use Rattle.mt_book.specs.declared.command.Command.{Command}
use Rattle.mt_book.specs.declared.command.Command.TheVariants as command
use Rattle.mt_book.specs.declared.command.Privilege.TheVariants as privilege
use Rattle.mt_requests.specs.declared.request.Request.{Request}
use Rattle.mt_requests.specs.declared.request.Request.TheVariants.{Run}
use Rattle.mt_requests.specs.Requests.{command_verb, label_bytes, label_fault, path_names, path_fault, prior_of_two, prior_fault, bad_unless, number_said, attributes_said, change_said, second_of, third_of, options_behind, are_counted, word_faults, words_fault, request_with, read_by, by_words, request_of}
use Rattle.mt_requests.specs.Options.{nothing_set, no_change}
use Rattle.mt_requests.specs.Printed.{sent, bytes_of_path, sent_path, words_there, set_rows, listed_option, said_set, change_options, command_words, line_of_command, CommandsAreReadBack}
use Rattle.mt_requests.proofs.FaultLaws.{HasNoFault, no_faults, fine_texts}
use Rattle.mt_requests.proofs.SentLaws.{inner, sent_inner, decimal_inner, all_lack_space, line_whole}
use Rattle.mt_requests.proofs.SentWordLaws.{IsGoodPath, label_fine, bytes_back, path_fine, path_back, number_fine, number_back}
use Rattle.mt_requests.proofs.ListingLaws.{spaced, set_back, set_read, change_read, change_counted, set_inner, change_inner}
use Rattle.mt_requests.proofs.SaidLaws.{label_said, path_said, number_small, attributes_some}

-- a command that a line can say
abbrev IsSaid : Command → Type 0
IsSaid (command.Room k) = ⊥
IsSaid (command.MakeFs name kind source) = (is_label name ≡ true) × (is_label kind ≡ true) × (is_label source ≡ true)
IsSaid (command.MakeDir fs path) = (is_label fs ≡ true) × IsGoodPath path
IsSaid (command.NewSpace fs) = is_label fs ≡ true
IsSaid (command.CopySpace n privilege) = n < 2 ^ 64
IsSaid (command.DropSpace n) = n < 2 ^ 64
IsSaid (command.Mount n fs path) = (n < 2 ^ 64) × (is_label fs ≡ true) × IsGoodPath path
IsSaid (command.MountWith n fs path set) = (n < 2 ^ 64) × (is_label fs ≡ true) × IsGoodPath path × (words_there (set_rows set) ≢ [])
IsSaid (command.Bind n src dst recursive) = (n < 2 ^ 64) × IsGoodPath src × IsGoodPath dst
IsSaid (command.Move n src dst) = (n < 2 ^ 64) × IsGoodPath src × IsGoodPath dst
IsSaid (command.Pivot n new old) = (n < 2 ^ 64) × IsGoodPath new × IsGoodPath old
IsSaid (command.Unmount n path) = (n < 2 ^ 64) × IsGoodPath path
IsSaid (command.Detach n path) = (n < 2 ^ 64) × IsGoodPath path
IsSaid (command.SetAttr n path change) = (n < 2 ^ 64) × IsGoodPath path
IsSaid (command.OpenTree n path recursive) = (n < 2 ^ 64) × IsGoodPath path
IsSaid (command.NewTree fs) = is_label fs ≡ true
IsSaid (command.MoveTree tree n path) = (tree < 2 ^ 64) × (n < 2 ^ 64) × IsGoodPath path

-- ---- a line is read

none_prior : (faults : List (Option Fault)) → HasNoFault faults → fold prior_of_two None faults ≡ None
none_prior [] h = refl
none_prior (f ∷ faults) h = ap (λ x. fold prior_of_two (prior_of_two None x) faults) h.0 ∙ none_prior faults h.1

-- words that have no space and no line end
pub record AreInner (ws : List (List ℕ)) : Type 0 where
  pub all : list_all inner ws ≡ true

-- words that each can stand behind a verb
pub record IsReadAs (v : Verb) (ws : List (List ℕ)) (c : Command) : Type 0 where
  pub known : verb_of (verb_word v) ≡ Some v
  pub bare : AreInner (verb_word v ∷ ws)
  pub counted : are_counted (verb_arguments v) ws ≡ true
  pub fine : HasNoFault (word_faults (verb_arguments v) ws)
  pub made : request_with v ws ≡ Run c

read_words : (v : Verb) (ws : List (List ℕ)) (c : Command) → IsReadAs v ws c → request_of (verb_word v ++ behind 32 ws) ≡ Ok (Run c)
unfolding request_of
read_words v ws c r =
    let pieces : words (verb_word v ++ behind 32 ws) ≡ verb_word v ∷ ws = ap words (spaced (verb_word v) ws) ∙ pieces_joined 32 (verb_word v) ws (all_lack_space (verb_word v ∷ ws) r.bare.all) in
    let none : words_fault (verb_arguments v) ws ≡ None = ap (λ b. cond {A = Option Fault} b (prior_fault (word_faults (verb_arguments v) ws)) (Some BadLine)) r.counted ∙ none_prior (word_faults (verb_arguments v) ws) r.fine in
    ap by_words pieces ∙ ap (λ o. option_map_or (λ v. read_by v ws) o (Err BadLine)) r.known
    ∙ ap (λ o. option_map_or (λ f. Err f) o (Ok (request_with v ws))) none ∙ ap (λ x. Ok x) r.made

those : (ws : List (List ℕ)) → list_all inner ws ≡ true → AreInner ws
those ws h = record { all = h }

none_left : AreInner []
none_left = those [] refl

with_word : {ws : List (List ℕ)} (w : List ℕ) → inner w ≡ true → AreInner ws → AreInner (w ∷ ws)
with_word {ws} w h rest = those (w ∷ ws) (and-true (inner w) (list_all inner ws) h rest.all)

with_label : {ws : List (List ℕ)} (l : List ℕ) → AreInner ws → AreInner (sent l ∷ ws)
with_label l rest = with_word (sent l) (sent_inner l) rest

with_path : {ws : List (List ℕ)} (p : List (List ℕ)) → AreInner ws → AreInner (sent_path p ∷ ws)
with_path p rest = with_word (sent_path p) (sent_inner (bytes_of_path p)) rest

with_number : {ws : List (List ℕ)} (n : ℕ) → n < 2 ^ 64 → AreInner ws → AreInner (decimal n ∷ ws)
with_number n low rest = with_word (decimal n) (decimal_inner n low) rest

-- ---- each command

two_paths : (n : ℕ) (a b : List (List ℕ)) → n < 2 ^ 64 → AreInner (decimal n ∷ sent_path a ∷ sent_path b ∷ [])
two_paths n a b low = with_number n low (with_path a (with_path b none_left))

mount_known : verb_of (verb_word verb.Mount) ≡ Some verb.Mount
unfolding verb_of
mount_known = refl

mounted_back : (n : ℕ) (fs : List ℕ) (path : List (List ℕ)) (set : SetWords) → IsSaid (command.MountWith n fs path set) → IsReadAs verb.Mount (decimal n ∷ sent fs ∷ sent_path path ∷ said_set set) (command.MountWith n fs path set)
mounted_back n fs path set h = go (words_there (set_rows set)) refl (set_read set)
  where
    go : (ws : List (List ℕ)) → words_there (set_rows set) ≡ ws → set_back (words_there (set_rows set)) ≡ Some set → IsReadAs verb.Mount (decimal n ∷ sent fs ∷ sent_path path ∷ said_set set) (command.MountWith n fs path set)
    go [] is back = absurd (h.3 is)
    go (w ∷ ws) is back =
        let said : said_set set ≡ (codes "set=" ++ join_with_byte 44 (w ∷ ws)) ∷ [] = ap (listed_option (codes "set=")) is in
        let read : set_back (w ∷ ws) ≡ Some set = sym (ap set_back is) ∙ back in
        let all : list_all inner ((codes "set=" ++ join_with_byte 44 (w ∷ ws)) ∷ []) ≡ true = subst (λ options. list_all inner options ≡ true) said (set_inner set) in
        subst (λ options. IsReadAs verb.Mount (decimal n ∷ sent fs ∷ sent_path path ∷ options) (command.MountWith n fs path set)) (sym said)
        (record {
          known = mount_known;
          bare = with_word (codes "mount") refl (with_number n h.0 (with_label fs (with_path path (those ((codes "set=" ++ join_with_byte 44 (w ∷ ws)) ∷ []) all))));
          counted = refl;
          fine = (number_fine n h.0, (label_fine fs h.1, (path_fine path h.2, (ap (λ o. bad_unless (is_some o)) read, tt))));
          made = λ i. Run (command.MountWith (number_back n h.0 i) (bytes_back fs i) (path_back path h.2 i) (unwrap_or (read i) nothing_set));
        })

said_back : (c : Command) → IsSaid c → IsReadAs (command_verb c) (command_words c) c
unfolding verb_of
said_back (command.Room k) h = absurd h
said_back (command.MakeFs name kind source) h = record {
  known = refl;
  bare = with_word (codes "mkfs") refl (with_label name (with_label kind (with_label source none_left)));
  counted = refl;
  fine = (label_fine name h.0, (label_fine kind h.1, (label_fine source h.2, tt)));
  made = λ i. Run (command.MakeFs (bytes_back name i) (bytes_back kind i) (bytes_back source i));
}
said_back (command.MakeDir fs path) h = record {
  known = refl;
  bare = with_word (codes "mkdir") refl (with_label fs (with_path path none_left));
  counted = refl;
  fine = (label_fine fs h.0, (path_fine path h.1, tt));
  made = λ i. Run (command.MakeDir (bytes_back fs i) (path_back path h.1 i));
}
said_back (command.NewSpace fs) h = record {
  known = refl;
  bare = with_word (codes "newns") refl (with_label fs none_left);
  counted = refl;
  fine = (label_fine fs h, tt);
  made = λ i. Run (command.NewSpace (bytes_back fs i));
}
said_back (command.CopySpace n privilege.Same) h = record {
  known = refl;
  bare = with_word (codes "copyns") refl (with_number n h none_left);
  counted = refl;
  fine = (number_fine n h, tt);
  made = λ i. Run (command.CopySpace (number_back n h i) privilege.Same);
}
said_back (command.CopySpace n privilege.Less) h = record {
  known = refl;
  bare = with_word (codes "copyns") refl (with_number n h (with_word (codes "less") refl none_left));
  counted = refl;
  fine = (number_fine n h, (refl, tt));
  made = λ i. Run (command.CopySpace (number_back n h i) privilege.Less);
}
said_back (command.CopySpace n privilege.LessLocked) h = record {
  known = refl;
  bare = with_word (codes "copyns") refl (with_number n h (with_word (codes "less") refl (with_word (codes "lock") refl none_left)));
  counted = refl;
  fine = (number_fine n h, (refl, (refl, tt)));
  made = λ i. Run (command.CopySpace (number_back n h i) privilege.LessLocked);
}
said_back (command.DropSpace n) h = record {
  known = refl;
  bare = with_word (codes "dropns") refl (with_number n h none_left);
  counted = refl;
  fine = (number_fine n h, tt);
  made = λ i. Run (command.DropSpace (number_back n h i));
}
said_back (command.Mount n fs path) h = record {
  known = refl;
  bare = with_word (codes "mount") refl (with_number n h.0 (with_label fs (with_path path none_left)));
  counted = refl;
  fine = (number_fine n h.0, (label_fine fs h.1, (path_fine path h.2, tt)));
  made = λ i. Run (command.Mount (number_back n h.0 i) (bytes_back fs i) (path_back path h.2 i));
}
said_back (command.MountWith n fs path set) h = mounted_back n fs path set h
said_back (command.Bind n src dst true) h = record {
  known = refl;
  bare = with_word (codes "rbind") refl (two_paths n src dst h.0);
  counted = refl;
  fine = (number_fine n h.0, (path_fine src h.1, (path_fine dst h.2, tt)));
  made = λ i. Run (command.Bind (number_back n h.0 i) (path_back src h.1 i) (path_back dst h.2 i) true);
}
said_back (command.Bind n src dst false) h = record {
  known = refl;
  bare = with_word (codes "bind") refl (two_paths n src dst h.0);
  counted = refl;
  fine = (number_fine n h.0, (path_fine src h.1, (path_fine dst h.2, tt)));
  made = λ i. Run (command.Bind (number_back n h.0 i) (path_back src h.1 i) (path_back dst h.2 i) false);
}
said_back (command.Move n src dst) h = record {
  known = refl;
  bare = with_word (codes "move") refl (two_paths n src dst h.0);
  counted = refl;
  fine = (number_fine n h.0, (path_fine src h.1, (path_fine dst h.2, tt)));
  made = λ i. Run (command.Move (number_back n h.0 i) (path_back src h.1 i) (path_back dst h.2 i));
}
said_back (command.Pivot n new old) h = record {
  known = refl;
  bare = with_word (codes "pivot") refl (two_paths n new old h.0);
  counted = refl;
  fine = (number_fine n h.0, (path_fine new h.1, (path_fine old h.2, tt)));
  made = λ i. Run (command.Pivot (number_back n h.0 i) (path_back new h.1 i) (path_back old h.2 i));
}
said_back (command.Unmount n path) h = record {
  known = refl;
  bare = with_word (codes "umount") refl (with_number n h.0 (with_path path none_left));
  counted = refl;
  fine = (number_fine n h.0, (path_fine path h.1, tt));
  made = λ i. Run (command.Unmount (number_back n h.0 i) (path_back path h.1 i));
}
said_back (command.Detach n path) h = record {
  known = refl;
  bare = with_word (codes "detach") refl (with_number n h.0 (with_path path none_left));
  counted = refl;
  fine = (number_fine n h.0, (path_fine path h.1, tt));
  made = λ i. Run (command.Detach (number_back n h.0 i) (path_back path h.1 i));
}
said_back (command.SetAttr n path change) h = record {
  known = refl;
  bare = with_word (codes "setattr") refl (with_number n h.0 (with_path path (those (change_options change) (change_inner change))));
  counted = change_counted change;
  fine = (number_fine n h.0, (path_fine path h.1, (ap (λ o. bad_unless (is_some o)) (change_read change), tt)));
  made = λ i. Run (command.SetAttr (number_back n h.0 i) (path_back path h.1 i) (unwrap_or (change_read change i) no_change));
}
said_back (command.OpenTree n path true) h = record {
  known = refl;
  bare = with_word (codes "opentree") refl (with_number n h.0 (with_path path (with_word (codes "rec") refl none_left)));
  counted = refl;
  fine = (number_fine n h.0, (path_fine path h.1, (refl, tt)));
  made = λ i. Run (command.OpenTree (number_back n h.0 i) (path_back path h.1 i) true);
}
said_back (command.OpenTree n path false) h = record {
  known = refl;
  bare = with_word (codes "opentree") refl (with_number n h.0 (with_path path none_left));
  counted = refl;
  fine = (number_fine n h.0, (path_fine path h.1, tt));
  made = λ i. Run (command.OpenTree (number_back n h.0 i) (path_back path h.1 i) false);
}
said_back (command.NewTree fs) h = record {
  known = refl;
  bare = with_word (codes "newtree") refl (with_label fs none_left);
  counted = refl;
  fine = (label_fine fs h, tt);
  made = λ i. Run (command.NewTree (bytes_back fs i));
}
said_back (command.MoveTree tree n path) h = record {
  known = refl;
  bare = with_word (codes "movetree") refl (with_number tree h.0 (with_number n h.1 (with_path path none_left)));
  counted = refl;
  fine = (number_fine tree h.0, (number_fine n h.1, (path_fine path h.2, tt)));
  made = λ i. Run (command.MoveTree (number_back tree h.0 i) (number_back n h.1 i) (path_back path h.2 i));
}

-- ---- what a line says can be said

abbrev SaysRight : Request → Type 0
SaysRight (Run c) = IsSaid c
SaysRight r = Unit {0}

request_said : (v : Verb) (w : List (List ℕ)) → words_fault (verb_arguments v) w ≡ None → SaysRight (request_with v w)
request_said verb.Mkfs w e = let t = fine_texts (verb_arguments verb.Mkfs) w e in (label_said (first_of w) t.0, label_said (second_of w) t.1.0, label_said (third_of w) t.1.1.0)
request_said verb.Mkdir w e = let t = fine_texts (verb_arguments verb.Mkdir) w e in (label_said (first_of w) t.0, path_said (second_of w) t.1.0)
request_said verb.Newns w e = let t = fine_texts (verb_arguments verb.Newns) w e in label_said (first_of w) t.0
request_said verb.Copyns w e = number_small (first_of w)
request_said verb.Dropns w e = number_small (first_of w)
request_said verb.Mount [] e = cc
request_said verb.Mount (a ∷ []) e = cc
request_said verb.Mount (a ∷ b ∷ []) e = cc
request_said verb.Mount (a ∷ b ∷ d ∷ []) e =
    let t = fine_texts (verb_arguments verb.Mount) (a ∷ b ∷ d ∷ []) e in (number_small a, label_said b t.0, path_said d t.1.0)
request_said verb.Mount (a ∷ b ∷ d ∷ x ∷ []) e =
    let t = fine_texts (verb_arguments verb.Mount) (a ∷ b ∷ d ∷ x ∷ []) e in
    let f = (no_faults (verb_arguments verb.Mount) (a ∷ b ∷ d ∷ x ∷ []) e).1 in (number_small a, label_said b t.0, path_said d t.1.0, attributes_some x f.1.1.1.0)
request_said verb.Mount (a ∷ b ∷ d ∷ x ∷ y ∷ w) e = cc
request_said verb.Bind w e = let t = fine_texts (verb_arguments verb.Bind) w e in (number_small (first_of w), path_said (second_of w) t.0, path_said (third_of w) t.1.0)
request_said verb.Rbind w e = let t = fine_texts (verb_arguments verb.Rbind) w e in (number_small (first_of w), path_said (second_of w) t.0, path_said (third_of w) t.1.0)
request_said verb.Move w e = let t = fine_texts (verb_arguments verb.Move) w e in (number_small (first_of w), path_said (second_of w) t.0, path_said (third_of w) t.1.0)
request_said verb.Pivot w e = let t = fine_texts (verb_arguments verb.Pivot) w e in (number_small (first_of w), path_said (second_of w) t.0, path_said (third_of w) t.1.0)
request_said verb.Umount w e = let t = fine_texts (verb_arguments verb.Umount) w e in (number_small (first_of w), path_said (second_of w) t.0)
request_said verb.Detach w e = let t = fine_texts (verb_arguments verb.Detach) w e in (number_small (first_of w), path_said (second_of w) t.0)
request_said verb.Setattr w e = let t = fine_texts (verb_arguments verb.Setattr) w e in (number_small (first_of w), path_said (second_of w) t.0)
request_said verb.Opentree w e = let t = fine_texts (verb_arguments verb.Opentree) w e in (number_small (first_of w), path_said (second_of w) t.0)
request_said verb.Newtree w e = let t = fine_texts (verb_arguments verb.Newtree) w e in label_said (first_of w) t.0
request_said verb.Movetree w e =
    let t = fine_texts (verb_arguments verb.Movetree) w e in (number_small (first_of w), number_small (second_of w), path_said (third_of w) t.0)
request_said v w e = tt

verb_said : (v : Verb) (w : List (List ℕ)) (c : Command) → read_by v w ≡ Ok (Run c) → IsSaid c
verb_said v w c e = go (words_fault (verb_arguments v) w) refl e
  where
    go : (fault : Option Fault) → words_fault (verb_arguments v) w ≡ fault → ◌≡◌ {A = Result Request Fault} (option_map_or (λ f. Err f) fault (Ok (request_with v w))) (Ok (Run c)) → IsSaid c
    go None is f = let same : request_with v w ≡ Run c = cc in subst SaysRight same (request_said v w is)
    go (Some x) is f = cc

words_said : (ws : List (List ℕ)) (c : Command) → by_words ws ≡ Ok (Run c) → IsSaid c
words_said [] c e = cc
words_said (word ∷ rest) c e = go (verb_of word) e
  where
    go : (found : Option Verb) → option_map_or (λ v. read_by v rest) found (Err BadLine) ≡ Ok (Run c) → IsSaid c
    go None f = cc
    go (Some v) f = verb_said v rest c f

line_said : (line : List ℕ) (c : Command) → request_of line ≡ Ok (Run c) → IsSaid c
unfolding request_of
line_said line c e = words_said (words line) c e

-- the line of a command that a line has said is one line, and is read as that command
pub read_back : CommandsAreReadBack
unfolding line_of_command
read_back line c e =
    let back = said_back c (line_said line c e) in (read_words (command_verb c) (command_words c) c back, line_whole (verb_word (command_verb c)) (command_words c) back.bare.all)
