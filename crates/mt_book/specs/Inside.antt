-- What is done in a family of namespaces, and what brings mounts over its border. A family is given by a test on the numbers of
-- namespaces.
-- A word with no source is this project's rule.
use Rattle.std.specs.Prelude.{◌≡◌, ℕ, Bool, true, false, ◌&&◌, ◌||◌, ◌==◌, List, [], ◌∷◌, ◌++◌, Result, Ok, IsTrue}
use Rattle.mt_skel.specs.declared.fault.Fault.{Fault}
use Rattle.mt_propagate.specs.World.{WorldView}
use Rattle.mt_propagate.specs.Contained.{only}
use Rattle.mt_bind.specs.Attaching.{has_linked}
use Rattle.mt_info.specs.Table.{table_of}
use Rattle.mt_book.specs.declared.command.Command.{Command}
use Rattle.mt_book.specs.declared.command.Command.TheVariants.{CopySpace, DropSpace, Mount, MountWith, Bind, Move, Pivot, Unmount, Detach, SetAttr, OpenTree, MoveTree}
use Rattle.mt_book.specs.declared.command.Reply.{Reply}
use Rattle.mt_book.specs.declared.command.Reply.TheVariants.{Number}
use Rattle.mt_book.specs.declared.command.Privilege.{Privilege}
use Rattle.mt_book.specs.Step.{is_less, step, next_world, after}
use Rattle.mt_book.specs.History.{space_number}
use Rattle.mt_book.specs.Book.{answer}

-- the command names namespaces of the family, and no other
abbrev pub is_issued_in : (ℕ → Bool) → Command → Bool
is_issued_in family (CopySpace k privilege) = family k
is_issued_in family (DropSpace k) = family k
is_issued_in family (Mount k fs path) = family k
is_issued_in family (MountWith k fs path set) = family k
is_issued_in family (Bind k src dst recursive) = family k
is_issued_in family (Move k src dst) = family k
is_issued_in family (Pivot k new old) = family k
is_issued_in family (Unmount k path) = family k
is_issued_in family (Detach k path) = family k
is_issued_in family (SetAttr k path change) = family k
is_issued_in family (OpenTree k path recursive) = family k
is_issued_in family (MoveTree tree k path) = family tree && family k
is_issued_in family c = false

-- the command copies a namespace of the family, or opens a tree in one
abbrev pub is_taken_from : (ℕ → Bool) → Command → Bool
is_taken_from family (CopySpace k privilege) = family k
is_taken_from family (OpenTree k path recursive) = family k
is_taken_from family c = false

-- this number was answered
abbrev pub is_answer : ℕ → Result (WorldView × Reply) Fault → Bool
is_answer k (Ok (v, Number i)) = k == i
is_answer k q = false

-- the family once a command was tried in a world: the copy of a namespace of the family joins it, and so does a tree that is opened in one
abbrev pub enlarged : (ℕ → Bool) → WorldView → Command → ℕ → Bool
enlarged family w c k = family k || (is_taken_from family c && is_answer k (step w c))

-- and once these commands were
abbrev pub family_after : (ℕ → Bool) → WorldView → List Command → ℕ → Bool
family_after family w [] = family
family_after family w (c ∷ later) = family_after (enlarged family w c) (next_world w c) later

-- the command brings no group and no master over the border of the family: a tree that it attaches, and that has one, comes from the side
-- on which the place is (`sharedsubtree`; a descriptor that is passed over the border of a sandbox)
abbrev pub StaysOnItsSide : (ℕ → Bool) → WorldView → Command → Type 0
StaysOnItsSide family w (MoveTree tree k path) = IsTrue (has_linked w tree) → family tree ≡ family k
StaysOnItsSide family w c = Unit {0}

-- so it is of each command that is accepted, from a world on
abbrev pub IsNotCrossed : (ℕ → Bool) → WorldView → List Command → Type 0
IsNotCrossed family w [] = Unit {0}
IsNotCrossed family w (c ∷ later) =
    ((v : WorldView) (r : Reply) → step w c ≡ Ok (v, r) → StaysOnItsSide family w c) × IsNotCrossed (enlarged family w c) (next_world w c) later

-- one of these commands made the namespace n as a less privileged copy, and no later one brings a group or a master over the border of its
-- family: of the namespace, of what is copied from one of the family, and of what is opened in one
pub record IsLessCopy (n : ℕ) (cs : List Command) : Type 0 where
  pub before : List Command
  pub copied : ℕ
  pub privilege : Privilege
  pub later : List Command
  pub less : is_less privilege ≡ true
  pub commands : cs ≡ before ++ CopySpace copied privilege ∷ later
  pub made : answer before (CopySpace copied privilege) ≡ Ok (Number n)
  pub not_crossed : IsNotCrossed (only n) (next_world (after before) (CopySpace copied privilege)) later

-- the family of such a copy
abbrev pub family_of : (n : ℕ) (cs : List Command) → IsLessCopy n cs → ℕ → Bool
family_of n cs h = family_after (only n) (next_world (after h.before) (CopySpace h.copied h.privilege)) h.later

-- a command came after others, and these are there now: if it was issued in the family of a less privileged copy, it has left the table and
-- the number of every namespace outside as they were (mount_namespaces(7), restrictions on mount namespaces)
abbrev pub StaysInCopy : List Command → Command → List Command → Type 0
StaysInCopy cs c now =
    (n : ℕ) (h : IsLessCopy n cs) → is_issued_in (family_of n cs h) c ≡ true
    → (k : ℕ) → enlarged (family_of n cs h) (after cs) c k ≡ false → (table_of (after now) k ≡ table_of (after cs) k) × (space_number k now ≡ space_number k cs)

-- and so does each of these commands, where it stands
abbrev pub AllStayInCopies : List Command → Type 0
AllStayInCopies cs = (before : List Command) (c : Command) (later : List Command) → cs ≡ before ++ c ∷ later → StaysInCopy before c (before ++ c ∷ [])
