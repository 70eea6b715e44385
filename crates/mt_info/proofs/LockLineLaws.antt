-- The line of what is locked of a mount: its words tell what is.
use Rattle.std.proofs.Common.{◌≡◌, ℕ, Bool, true, false, cond, ◌||◌, List, [], ◌∷◌, ◌++◌, drop, get_or, Option, Some, refl, sym, ap, subst, ◌∙◌, append-nil, append_assoc, codes, decimal}
use Rattle.std.specs.List.{list_all, join_with_byte}
use Rattle.std.proofs.lemmas.Bool.{true≢false}
use Rattle.std.proofs.lemmas.Option.{same_Some}
use Rattle.mt_skel.proofs.MiddleLaws.{and-true}
use Rattle.mt_lines.specs.Words.{pieces, words, number_in_text}
use Rattle.mt_lines.proofs.NumberLaws.{number_decimal}
use Rattle.mt_lines.proofs.PieceLaws.{pieces_joined, joined_pieces}
use Rattle.mt_locks.specs.declared.mount_locks.MountLocks.{MountLocks}
use Rattle.mt_locks.specs.MountLocks.{locks_some}
use Rattle.mt_info.specs.Building.{behind}
use Rattle.mt_info.specs.Reading.{is_bare}
use Rattle.mt_info.specs.LockLine.{lock_words, lock_line, IsLockRow}
use Rattle.mt_info.proofs.WordLaws.{lacks, bare, lacks_space, all-joined, decimal-lacks}
use Rattle.mt_info.proofs.OptionLaws.{set_words, set_pass, Took, took_set, set_took, own_took}
use Rattle.mt_info.proofs.PrintLaws.{behind_first, behind_set}

-- all words, with whether each is there
abbrev pub lock_flag_words : List (List ℕ)
lock_flag_words = codes "place" ∷ codes "ro" ∷ codes "nosuid" ∷ codes "nodev" ∷ codes "noexec" ∷ codes "atime" ∷ []

abbrev pub lock_flags : MountLocks → List Bool
lock_flags k = k.place ∷ k.ro ∷ k.nosuid ∷ k.nodev ∷ k.noexec ∷ k.atime ∷ []

locks_grouped : (k : MountLocks) → lock_words k ≡ set_words lock_flag_words (lock_flags k)
locks_grouped k = simp (append_assoc, append-nil)

-- where something is locked there is a word
some_set : (a b c d e f : Bool) → (a || b || c || d || e || f) ≡ true → (x : List ℕ) × (xs : List (List ℕ)) × (set_words lock_flag_words (a ∷ b ∷ c ∷ d ∷ e ∷ f ∷ []) ≡ x ∷ xs)
some_set true b c d e f h = (_, _, refl)
some_set false true c d e f h = (_, _, refl)
some_set false false true d e f h = (_, _, refl)
some_set false false false true e f h = (_, _, refl)
some_set false false false false true f h = (_, _, refl)
some_set false false false false false true h = (_, _, refl)
some_set false false false false false false h = absurd (true≢false (sym h))

locks_pass : (p : List ℕ → Bool) (k : MountLocks) → list_all p lock_flag_words ≡ true → list_all p (lock_words k) ≡ true
locks_pass p k all = ap (list_all p) (locks_grouped k) ∙ set_pass p lock_flag_words (lock_flags k) all

-- the text of what is locked has its words
locks_parsed : (text : List ℕ) (k : MountLocks) → locks_some k ≡ true → text ≡ join_with_byte 44 (lock_words k) → pieces 44 text ≡ lock_words k
locks_parsed text k some e =
    let x = some_set k.place k.ro k.nosuid k.nodev k.noexec k.atime some in
    let there : lock_words k ≡ x.0 ∷ x.1 = locks_grouped k ∙ x.2 in
    ap (pieces 44) (e ∙ ap (join_with_byte 44) there) ∙ pieces_joined 44 x.0 x.1 (ap (list_all (lacks 44)) (sym there) ∙ locks_pass (lacks 44) k refl) ∙ sym there

-- what was taken of a text, word by word
pub record LocksTaken (text : List ℕ) (cs : List Bool) (new : List (List ℕ)) : Type 0 where
  pub rest : List (List ℕ)
  pub begin : pieces 44 text ≡ rest
  pub taken : Took lock_flag_words cs rest new

-- where the text is that of what is locked, these words were taken, and nothing is left
pub locks_taken : {text : List ℕ} {cs : List Bool} {new : List (List ℕ)} → LocksTaken text cs new → (k : MountLocks) → locks_some k ≡ true → text ≡ join_with_byte 44 (lock_words k) → (cs ≡ lock_flags k) × (new ≡ [])
locks_taken {text} {cs} {new} t k some e = took_set lock_flag_words (lock_flags k) cs t.rest new refl refl (sym t.begin ∙ locks_parsed text k some e ∙ locks_grouped k) t.taken

-- and where nothing is left, the text is that of what was taken
pub locks_are : {text : List ℕ} {cs : List Bool} {new : List (List ℕ)} → LocksTaken text cs new → (k : MountLocks) → cs ≡ lock_flags k → new ≡ [] → text ≡ join_with_byte 44 (lock_words k)
locks_are {text} {cs} {new} t k f end =
    let rest = set_took lock_flag_words cs t.rest (subst (Took lock_flag_words cs t.rest) end t.taken) ∙ ap (set_words lock_flag_words) f in
    sym (joined_pieces 44 text) ∙ ap (join_with_byte 44) (t.begin ∙ rest ∙ sym (locks_grouped k))

-- the words of the line are the mount and what is locked
pub line_split : (text : List ℕ) (k : MountLocks) → IsLockRow k → text ≡ lock_line k → words text ≡ decimal k.mount ∷ join_with_byte 44 (lock_words k) ∷ []
line_split text k valid e =
    ap words e
    ∙ pieces_joined 32 (decimal k.mount) (join_with_byte 44 (lock_words k) ∷ [])
    (and-true (lacks 32 (decimal k.mount)) _ (decimal-lacks k.mount valid.small)
    (and-true (lacks 32 (join_with_byte 44 (lock_words k))) true (lacks_space (join_with_byte 44 (lock_words k)) (all-joined is_bare 44 (lock_words k) refl (locks_pass bare k refl))) refl))

pub line_is : (text first second : List ℕ) (k : MountLocks) → words text ≡ first ∷ second ∷ [] → first ≡ decimal k.mount → second ≡ join_with_byte 44 (lock_words k) → text ≡ lock_line k
line_is text first second k e f g = sym (joined_pieces 32 text) ∙ ap (join_with_byte 32) e ∙ (λ i. f i ++ 32 ∷ g i)

-- the text of what is locked tells it
flags_told : (a b : MountLocks) → locks_some a ≡ true → locks_some b ≡ true → join_with_byte 44 (lock_words a) ≡ join_with_byte 44 (lock_words b) → lock_flags a ≡ lock_flags b
flags_told a b p q e =
    let own : LocksTaken (join_with_byte 44 (lock_words a)) (lock_flags a) [] = record {
      rest = set_words lock_flag_words (lock_flags a);
      begin = locks_parsed _ a p refl ∙ locks_grouped a;
      taken = own_took lock_flag_words (lock_flags a) refl refl;
    } in
    (locks_taken own b q e).0

abbrev locks_of : ℕ → List Bool → MountLocks
locks_of mount bs = record { mount = mount; place = get_or bs 0 false; ro = get_or bs 1 false; nosuid = get_or bs 2 false; nodev = get_or bs 3 false; noexec = get_or bs 4 false; atime = get_or bs 5 false }

-- a line tells one mount, and what is locked of it
pub lock_line-injective : (a b : MountLocks) → IsLockRow a → IsLockRow b → lock_line a ≡ lock_line b → a ≡ b
lock_line-injective a b p q e =
    let heads : decimal a.mount ∷ join_with_byte 44 (lock_words a) ∷ [] ≡ decimal b.mount ∷ join_with_byte 44 (lock_words b) ∷ [] = sym (line_split (lock_line a) a p refl) ∙ line_split (lock_line a) b q e in
    let mounts : ◌≡◌ {A = Option ℕ} (Some a.mount) (Some b.mount) = sym (number_decimal a.mount p.small) ∙ ap (λ ws. number_in_text (get_or ws 0 [])) heads ∙ number_decimal b.mount q.small in
    let told = flags_told a b p.some q.some (ap (λ ws. get_or ws 1 []) heads) in
    let same = same_Some a.mount b.mount mounts in
    λ i. locks_of (same i) (told i)

-- six appends in a row
six_appended : (t0 t1 t2 t3 t4 t5 t6 a b c d e f : List ℕ) → t0 ≡ [] → t1 ≡ t0 ++ a → t2 ≡ t1 ++ b → t3 ≡ t2 ++ c → t4 ≡ t3 ++ d → t5 ≡ t4 ++ e → t6 ≡ t5 ++ f → t6 ≡ a ++ (b ++ (c ++ (d ++ (e ++ (f ++ [])))))
six_appended t0 t1 t2 t3 t4 t5 t6 a b c d e f e0 e1 e2 e3 e4 e5 e6 = rw (e6, e5, e4, e3, e2, e1, e0) (simp (append_assoc, append-nil))

-- the words after their commas, without the first comma
abbrev pub option_if : Bool → List ℕ → List ℕ
option_if b word = cond b (44 ∷ word) []

pub locks_listed : (k : MountLocks) (t0 t1 t2 t3 t4 t5 t6 : List ℕ) → t0 ≡ [] → t1 ≡ t0 ++ option_if k.place (codes "place") → t2 ≡ t1 ++ option_if k.ro (codes "ro") → t3 ≡ t2 ++ option_if k.nosuid (codes "nosuid")
    → t4 ≡ t3 ++ option_if k.nodev (codes "nodev") → t5 ≡ t4 ++ option_if k.noexec (codes "noexec") → t6 ≡ t5 ++ option_if k.atime (codes "atime") → drop 1 t6 ≡ join_with_byte 44 (lock_words k)
locks_listed k t0 t1 t2 t3 t4 t5 t6 e0 e1 e2 e3 e4 e5 e6 =
    ap (drop 1)
    (six_appended t0 t1 t2 t3 t4 t5 t6 (option_if k.place (codes "place")) (option_if k.ro (codes "ro")) (option_if k.nosuid (codes "nosuid")) (option_if k.nodev (codes "nodev")) (option_if k.noexec (codes "noexec"))
    (option_if k.atime (codes "atime")) e0 e1 e2 e3 e4 e5 e6
    ∙ sym (behind_set lock_flag_words (lock_flags k)) ∙ ap (behind 44) (sym (locks_grouped k)))
    ∙ behind_first 44 (lock_words k)
