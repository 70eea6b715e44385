-- The journal of a book, and what is answered from it.
-- A word with no source is this project's rule.
use Rattle.std.specs.Prelude.{◌≡◌, ◌≢◌, ℕ, ◌+◌, ◌-◌, ◌==◌, ◌<◌, ◌≤◌, nat_le, if◌then◌else◌, cond, Bool, true, List, [], ◌∷◌, ◌++◌, map, length, slice_index_or, Option, Result, Ok, Err}
use Rattle.std.specs.List.{range_with_len, filter}
use Rattle.std.specs.Option.{option_to_list}
use Rattle.std.specs.Result.{is_ok}
use Rattle.std.specs.Prelude.{◌&&◌}
use Rattle.mt_skel.specs.declared.fault.Fault.{Fault}
use Rattle.mt_skel.specs.Keyed.{rises}
use Rattle.mt_skel.specs.declared.fault.Fault.TheVariants.{JournalFull, NoMemory}
use Rattle.mt_skel.specs.Skeleton.{Skeleton, directory}
use Rattle.mt_mounts.specs.declared.mount.Place.{Place}
use Rattle.mt_mounts.specs.Walk.{walk}
use Rattle.mt_locks.specs.declared.mount_locks.MountLocks.{MountLocks}
use Rattle.mt_propagate.specs.World.{WorldView, is_space, space_of}
use Rattle.mt_info.specs.Table.{table_of}
use Rattle.mt_events.specs.Posts.{PostView}
use Rattle.mt_events.specs.Difference.{difference, is_empty, post_of}
use Rattle.mt_book.specs.declared.command.Command.{Command}
use Rattle.mt_book.specs.declared.command.Reply.{Reply}
use Rattle.mt_book.specs.Step.{step, next_world, after}
use Rattle.mt_book.specs.History.{space_number, posts_of}

-- what contracts see of a book: the commands that were accepted, and how many more it can take without more memory
pub record BookView : Type 0 where
  pub journal : List Command
  pub room : ℕ

-- the most commands that are accepted
abbrev pub command_limit : ℕ
command_limit = 1048576

-- only the answer
abbrev pub reply_of : Result (WorldView × Reply) Fault → Result Reply Fault
reply_of (Ok p) = Ok p.1
reply_of (Err f) = Err f

-- what a command is answered after these: a full journal takes no other
unfoldable pub answer : List Command → Command → Result Reply Fault
answer cs c = if nat_le command_limit (length cs) then Err JournalFull else reply_of (step (after cs) c)

-- each command is accepted where it stands
abbrev pub accepts : WorldView → List Command → Bool
accepts w [] = true
accepts w (c ∷ cs) = is_ok (step w c) && accepts (next_world w c) cs

-- the number of a namespace, which is one more if its table is not as it was
abbrev pub next_number : WorldView → WorldView → ℕ → ℕ → ℕ
next_number w v n k = cond (is_empty (difference (table_of w n) (table_of v n))) k (k + 1)

-- the post of a namespace that had this number, if its table is not as it was
abbrev pub next_post : WorldView → WorldView → ℕ → ℕ → Option PostView
next_post w v n k = post_of n (k + 1) (difference (table_of w n) (table_of v n))

-- a namespace of which the number is kept, and its number
abbrev pub space_in : ℕ × ℕ → ℕ
space_in r = r.0

abbrev pub number_in : ℕ × ℕ → ℕ
number_in r = r.1

-- the numbers of namespaces after a change
abbrev pub counted : WorldView → WorldView → List (ℕ × ℕ) → List (ℕ × ℕ)
counted w v [] = []
counted w v (r ∷ rs) = (space_in r, next_number w v (space_in r) (number_in r)) ∷ counted w v rs

-- the posts of namespaces at a change
abbrev pub posts_at_change : WorldView → WorldView → List (ℕ × ℕ) → List PostView
posts_at_change w v [] = []
posts_at_change w v (r ∷ rs) = option_to_list (next_post w v (space_in r) (number_in r)) ++ posts_at_change w v rs

-- a namespace that is made has number 0 before
abbrev pub with_newborn : List (ℕ × ℕ) → ℕ → Bool → List (ℕ × ℕ)
with_newborn rs n more = rs ++ cond more ((n, 0) ∷ []) []

-- the numbers of those that are there
abbrev pub still_there : WorldView → List (ℕ × ℕ) → List (ℕ × ℕ)
still_there v rs = filter (λ (r : ℕ × ℕ). is_space v (space_in r)) rs

-- namespaces by rising number, each with a number that can go up
pub record AreNumbers (rs : List (ℕ × ℕ)) : Type 0 where
  pub rising : rises space_in rs ≡ true
  pub few : (i : ℕ) (r : ℕ × ℕ) → i < length rs → r ≡ slice_index_or rs i r → number_in r ≤ command_limit

-- the mount where a walk has ended, and the names from its filesystem's root down to the directory
abbrev pub found_by : Skeleton → Result Place Fault → Result (ℕ × List (List ℕ)) Fault
found_by s (Ok p) = Ok (p.mount, (directory s p.dir).path)
found_by s (Err f) = Err f

-- where a path ends in the namespace n, or why it does not (path_resolution(7), in this project's profile)
abbrev pub found_at : WorldView → ℕ → List (List ℕ) → Result (ℕ × List (List ℕ)) Fault
found_at w n path = found_by w.skel (walk w.skel w.forest n path)

-- what is locked of the mounts of the namespace n, of each of which something is (mount_namespaces(7), restrictions on mount namespaces)
abbrev pub locks_in : WorldView → ℕ → List MountLocks
locks_in w n = filter (λ k. space_of w k.mount == n) w.locks.mounts

-- the namespaces that are there, by rising number
abbrev pub spaces_of : WorldView → List ℕ
spaces_of w = filter (is_space w) (range_with_len 1 (w.next_space - 1))

-- each of them with its number
unfoldable pub space_numbers : List Command → List (ℕ × ℕ)
space_numbers cs = map (λ n. (n, space_number n cs)) (spaces_of (after cs))

-- commands were done one after another, and each was answered like this, with its posts
abbrev pub AreAnswered : List Command → List Command → List (Result (Reply × List PostView) Fault) → List Command → Type 0
AreAnswered cs [] [] end = end ≡ cs
AreAnswered cs (c ∷ more) (Ok p ∷ answers) end = (answer cs c ≡ Ok p.0) × (p.1 ≡ posts_of cs c) × AreAnswered (cs ++ c ∷ []) more answers end
AreAnswered cs (c ∷ more) (Err f ∷ answers) end = (f ≢ NoMemory → answer cs c ≡ Err f) × AreAnswered cs more answers end
AreAnswered cs _ _ end = ⊥
