-- The lines that say what would change a refusal. A path is said only where a walk of it ends on the mount that is meant.
-- A word with no source is this project's rule.
use Rattle.std.specs.Prelude.{ℕ, Bool, false, ◌==◌, cond, not, ◌&&◌, ◌||◌, List, [], ◌∷◌, ◌++◌, Option, Some, None, is_none, codes, decimal}
use Rattle.std.specs.Option.{option_map_or}
use Rattle.mt_book.specs.declared.command.Command.{Command}
use Rattle.mt_book.specs.declared.command.Command.TheVariants as command
use Rattle.mt_reach.specs.declared.row.SeenRow.{SeenRow}
use Rattle.mt_reach.specs.Rows.{seen_at}
use Rattle.mt_reach.specs.Tree.{seen_parent_row}
use Rattle.mt_reach.specs.Walking.{mount_in_front}
use Rattle.mt_reach.specs.Refusals as refusals
use Rattle.mt_refused.specs.declared.asked.Which.TheVariants.{First, Second}
use Rattle.mt_refused.specs.declared.hindrance.Hindrance.{Hindrance}
use Rattle.mt_refused.specs.declared.hindrance.Hindrance.TheVariants as hindrance
use Rattle.mt_refused.specs.Asked.{takes_mounts, is_set, is_of_tree}
use Rattle.mt_refused.specs.Pages.{PageView}
use Rattle.mt_refused.specs.Parts.{all_texts, point_text, mount_told, asked_text}

-- where a mount is locked on its place: what one mounts oneself is not (mount_namespaces(7), restrictions on mount namespaces)
abbrev pub leave_help : List ℕ
leave_help = codes "  to change that: leave it, or mount over it; what is mounted in this namespace itself can go\n"

-- where its attributes are locked
abbrev pub keep_help : List ℕ
keep_help = codes "  to change that: keep ro, nosuid, nodev and noexec where they are set, and the access times\n"

-- the mount of a list of one
abbrev pub only_of : List ℕ → Option ℕ
only_of (i ∷ []) = Some i
only_of ids = None

module _ (v : PageView) where
  -- the path that is a mount's mount point leads to it (path_resolution(7))
  abbrev pub is_front : SeenRow → Bool
  is_front r = option_map_or (λ (f : SeenRow). f.id == r.id) (mount_in_front v.rows r) false

  -- what is said of a mount, if there is a row of it
  abbrev pub said_of_row : (SeenRow → List ℕ) → ℕ → List ℕ
  said_of_row said i = option_map_or said (seen_at v.rows i) []

  -- a private mount is in no peer group, and may be bound (`sharedsubtree`, mount states)
  abbrev pub setattr_remedy : List ℕ → SeenRow → List ℕ
  setattr_remedy note r =
      all_texts (codes "  to change that: setattr " ∷ decimal r.space ∷ codes " " ∷ point_text v r.id ∷ codes " prop=private" ∷ note ∷ codes "\n" ∷ [])

  abbrev pub unnamed_remedy : ℕ → List ℕ
  unnamed_remedy i = all_texts (codes "  to change that: take away first what hides " ∷ mount_told v i ∷ codes "\n" ∷ [])

  abbrev pub private_help : List ℕ → ℕ → List ℕ
  private_help note i = said_of_row (λ r. cond (is_front r) (setattr_remedy note r) (unnamed_remedy i)) i

  -- a directory that is bound on itself is the root of a mount (mount(8), --bind), unless its mount is unbindable
  abbrev pub bind_remedy : ℕ → List ℕ
  bind_remedy n = all_texts (codes "  to change that: bind " ∷ decimal n ∷ codes " " ∷ asked_text v First ∷ codes " " ∷ asked_text v First ∷ codes " makes it one\n" ∷ [])

  abbrev pub bind_help : SeenRow → List ℕ
  bind_help r = cond (takes_mounts v.command || r.unbindable) [] (bind_remedy r.space)

  -- the mount itself, unless it is a root mount and is not to be named
  abbrev pub name_remedy : ℕ → List ℕ
  name_remedy i = all_texts (codes "  to change that: name " ∷ point_text v i ∷ codes ", which is its mount\n" ∷ [])

  abbrev pub name_help : SeenRow → List ℕ
  name_help r = cond (not (is_set v.command) && is_none (seen_parent_row v.rows r)) [] (cond (is_front r) (name_remedy r.id) [])

  abbrev pub off_root_help : ℕ → List ℕ
  off_root_help on = said_of_row (λ r. bind_help r ++ name_help r) on

  -- a root mount stays until another one takes its place (pivot_root(2))
  abbrev pub root_place_help : List ℕ
  root_place_help =
      cond (takes_mounts v.command) (codes "  to change that: pivot to another root, and then detach this one\n")
      (codes "  to change that: another path; only a pivot changes the root\n")

  abbrev pub elsewhere_help : ℕ → List ℕ
  elsewhere_help tree = all_texts (codes "  to change that: a place that is neither on " ∷ mount_told v tree ∷ codes " nor on what stands on it\n" ∷ [])

  abbrev pub inside_help : ℕ → List ℕ
  inside_help new = all_texts (codes "  to change that: a directory of " ∷ mount_told v new ∷ codes ", or of what stands on it\n" ∷ [])

  -- the only unbindable mount, or each of them, is to be made another kind
  abbrev pub bindable_help : List ℕ → List ℕ
  bindable_help ids = option_map_or (private_help []) (only_of ids) (codes "  to change that: setattr prop=private of each unbindable one\n")

  abbrev pub unbindable_inside_help : ℕ → ℕ → List ℕ
  unbindable_inside_help tree onto = bindable_help (refusals.unbindable_inside v.rows tree onto) ++ private_help (codes ", where it would stand") onto

  -- what stands on a mount goes first (umount(2), EBUSY)
  abbrev pub umount_remedy : SeenRow → List ℕ
  umount_remedy r = all_texts (codes "  to change that: umount " ∷ decimal r.space ∷ codes " " ∷ point_text v r.id ∷ codes " first\n" ∷ [])

  abbrev pub umount_help : ℕ → List ℕ
  umount_help i = said_of_row (λ r. cond (is_front r) (umount_remedy r) []) i

  abbrev pub umounts_help : List ℕ → List ℕ
  umounts_help ids = option_map_or umount_help (only_of ids) (codes "  to change that: umount what stands on it first, from the top down\n")

  -- or goes along (umount2(2), MNT_DETACH)
  abbrev pub detach_remedy : SeenRow → List ℕ
  detach_remedy r = all_texts (codes "  to change that: detach " ∷ decimal r.space ∷ codes " " ∷ point_text v r.id ∷ codes " takes all of them\n" ∷ [])

  abbrev pub detach_help : ℕ → List ℕ
  detach_help i = said_of_row (λ r. cond (is_front r) (detach_remedy r) []) i

  abbrev pub busy_help : ℕ → List ℕ
  busy_help on = umounts_help (refusals.tree_below v.rows on) ++ detach_help on

  -- a slave is in no peer group either (`sharedsubtree`, mount states)
  abbrev pub unshared_help : ℕ → List ℕ
  unshared_help on = private_help (codes " (or prop=slave, which still gets what the others mount)") on

  -- a copy with all below it leaves out no mount but unbindable ones (`sharedsubtree`, rbind semantics)
  abbrev pub whole_remedy : Command → List ℕ
  whole_remedy (command.Bind n src dst recursive) =
      all_texts (codes "  to change that: rbind " ∷ decimal n ∷ codes " " ∷ asked_text v First ∷ codes " " ∷ asked_text v Second ∷ codes " has all below it too\n" ∷ [])
  whole_remedy (command.OpenTree n path recursive) = all_texts (codes "  to change that: opentree " ∷ decimal n ∷ codes " " ∷ asked_text v First ∷ codes " rec has all below it too\n" ∷ [])
  whole_remedy c = []

  abbrev pub whole_help : List ℕ
  whole_help = cond (not (is_of_tree v.command)) (whole_remedy v.command) (codes "  to change that: setattr prop=private of each unbindable one below it\n")

  -- what would change a refusal
  abbrev pub remedies : Hindrance → List ℕ
  remedies (hindrance.NoNamespace n) = []
  remedies (hindrance.OffRoot on) = off_root_help on
  remedies (hindrance.RootPlace which root) = root_place_help
  remedies (hindrance.Unbindable on) = private_help [] on
  remedies (hindrance.SharedParent on) = unshared_help on
  remedies (hindrance.SharedPlace on) = unshared_help on
  remedies (hindrance.IntoItself tree onto) = elsewhere_help tree
  remedies (hindrance.LeftOutside new onto) = inside_help new
  remedies (hindrance.UnbindableInside tree onto) = unbindable_inside_help tree onto
  remedies (hindrance.Busy on) = busy_help on
  remedies hindrance.TwoTimes = codes "  to change that: one access time\n"
  remedies hindrance.Clash = codes "  to change that: one access time, with clr=atime\n"
  remedies (hindrance.Locked i) = leave_help
  remedies (hindrance.LockedInside on) = whole_help
  remedies (hindrance.LockedAttr i) = keep_help
