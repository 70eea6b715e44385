-- Why a command is refused, by the rows of the tables alone: for each refusal the first condition that holds, with the mounts of it.
-- A word with no source is this project's rule.
use Rattle.std.specs.Prelude.{ℕ, cond, nat_eq, List, length, Option, Some, None, is_none}
use Rattle.std.specs.Option.{option_and_then, option_map, option_or}
use Rattle.mt_skel.specs.declared.fault.Fault.{Fault}
use Rattle.mt_skel.specs.declared.fault.Fault.TheVariants as fault
use Rattle.mt_book.specs.declared.command.Command.{Command}
use Rattle.mt_book.specs.declared.command.Command.TheVariants as command
use Rattle.mt_setattr.specs.Change.{clashes}
use Rattle.mt_setattr.specs.Words.{sets_two_times}
use Rattle.mt_reach.specs.declared.row.SeenRow.{SeenRow}
use Rattle.mt_reach.specs.Rows.{seen_at, seen_group}
use Rattle.mt_reach.specs.Tree.{seen_children}
use Rattle.mt_reach.specs.Walking.{root_row}
use Rattle.mt_reach.specs.Refusals as refusals
use Rattle.mt_refused.specs.declared.asked.Which.{Which}
use Rattle.mt_refused.specs.declared.asked.Which.TheVariants.{First, Second}
use Rattle.mt_refused.specs.declared.ending.Ending.{Ending}
use Rattle.mt_refused.specs.declared.hindrance.Hindrance.{Hindrance}
use Rattle.mt_refused.specs.declared.hindrance.Hindrance.TheVariants as hindrance
use Rattle.mt_refused.specs.Asked.{asked_space, asked_tree, copies_mounts, is_pivot}
use Rattle.mt_refused.specs.Endings.{place_ended, end_at, moved_top}

-- a hindrance, where it has mounts
abbrev pub if_any : List ℕ → Hindrance → Option Hindrance
if_any ids why = cond (nat_eq (length ids) 0) None (Some why)

-- `NoNamespace`: a namespace has no root mount (setns(2), ESRCH)
abbrev pub lacks_root : List SeenRow → ℕ → Option Hindrance
lacks_root rows n = cond (is_none (root_row rows n)) (Some (hindrance.NoNamespace n)) None

module _ (rows : List SeenRow) (c : Command) where
  -- it is that of a tree that would be attached, or of the paths
  abbrev pub no_namespace : Option Hindrance
  no_namespace = option_or (option_and_then (lacks_root rows) (asked_tree c)) (option_and_then (lacks_root rows) (asked_space c))

  -- `NotMountRoot`: the first path ends in a directory of a mount that is not the one at its root (umount2(2), EINVAL)
  abbrev pub off_root_met : Option Hindrance
  off_root_met = option_and_then (λ (e : Ending). option_map (λ on. hindrance.OffRoot on) (refusals.off_root rows e.mount e.directory)) (place_ended rows c First)

  -- `RootPlace`: a path ends at the root of a namespace's root mount, what is copied excepted (pivot_root(2), EBUSY)
  abbrev pub root_place_met_at : Which → Option Hindrance
  root_place_met_at which = option_and_then (λ (e : Ending). option_map (λ root. hindrance.RootPlace which root) (refusals.at_root_place rows e.mount e.directory)) (place_ended rows c which)

  abbrev pub first_root_place : Option Hindrance
  first_root_place = cond (copies_mounts c) None (root_place_met_at First)

  abbrev pub root_place_met : Option Hindrance
  root_place_met = option_or first_root_place (root_place_met_at Second)

  -- `Unbindable`: the source is on an unbindable mount (`sharedsubtree`, bind semantics)
  abbrev pub unbindable : Option Hindrance
  unbindable = option_and_then (λ on. option_and_then (λ (r : SeenRow). cond r.unbindable (Some (hindrance.Unbindable on)) None) (seen_at rows on)) (end_at rows c First)

  -- `SharedParent`: a mount that would be moved, or become the root, stands on a shared one, or the old root would stand on one
  -- (`sharedsubtree`, move semantics; pivot_root(2), EINVAL)
  abbrev pub parent_of_first : Option Hindrance
  parent_of_first = option_and_then (λ i. option_map (λ k. hindrance.SharedParent k) (refusals.shared_parent rows i)) (end_at rows c First)

  abbrev pub place_of_second : Option Hindrance
  place_of_second = cond (is_pivot c) (option_and_then (λ on. option_map (λ g. hindrance.SharedPlace on) (seen_group rows on)) (end_at rows c Second)) None

  abbrev pub shared : Option Hindrance
  shared = option_or parent_of_first place_of_second

  -- `UnbindableInside`: a tree with unbindable mounts would stand on a shared one (`sharedsubtree`, move semantics)
  abbrev pub unbindable_inside_met : Option Hindrance
  unbindable_inside_met =
      option_and_then (λ tree. option_and_then (λ onto. if_any (refusals.unbindable_inside rows tree onto) (hindrance.UnbindableInside tree onto)) (end_at rows c Second)) (moved_top rows c)

  -- `Busy`: mounts stand on the mount (umount(2), EBUSY)
  abbrev pub busy : Option Hindrance
  busy = option_and_then (λ on. if_any (seen_children rows on) (hindrance.Busy on)) (end_at rows c First)

  -- `Locked`, `LockedInside`, `LockedAttr`: what came with a copy into another user namespace is locked, of which no row tells
  -- (mount_namespaces(7), restrictions on mount namespaces)
  abbrev pub locked : Option Hindrance
  locked = option_map (λ i. hindrance.Locked i) (end_at rows c First)

  abbrev pub locked_inside : Option Hindrance
  locked_inside = option_map (λ on. hindrance.LockedInside on) (end_at rows c First)

  abbrev pub locked_attr : Option Hindrance
  locked_attr = option_map (λ i. hindrance.LockedAttr i) (end_at rows c First)

-- `IntoItself` of a move: it would stand on itself, or on a mount below it (mount(2), MS_MOVE; move_mount(2))
abbrev pub into_itself_met : List SeenRow → ℕ → ℕ → Option Hindrance
into_itself_met rows tree onto = if_any (refusals.into_itself rows tree onto) (hindrance.IntoItself tree onto)

-- and of a pivot: the old root would stand on a mount that is not in the tree of the new one (pivot_root(2), EINVAL)
abbrev pub left_outside_met : List SeenRow → ℕ → ℕ → Option Hindrance
left_outside_met rows new onto = if_any (refusals.left_outside rows new onto) (hindrance.LeftOutside new onto)

abbrev pub tree_onto : List SeenRow → Command → Option Hindrance
tree_onto rows c =
    option_and_then (λ tree. option_and_then (λ onto. cond (is_pivot c) (left_outside_met rows tree onto) (into_itself_met rows tree onto)) (end_at rows c Second)) (moved_top rows c)

-- `BadAttr`: the access times of a new mount, or those of a change, contradict one another (mount_setattr(2), EINVAL)
abbrev pub clash : Command → Option Hindrance
clash (command.MountWith n fs path set) = cond (sets_two_times set) (Some hindrance.TwoTimes) None
clash (command.SetAttr n path change) = cond (clashes change) (Some hindrance.Clash) None
clash c = None

-- why a command is refused so; nothing where the rows say no such thing of it
abbrev pub hindrance_of : List SeenRow → Command → Fault → Option Hindrance
hindrance_of rows c fault.NoNamespace = no_namespace rows c
hindrance_of rows c fault.NotMountRoot = off_root_met rows c
hindrance_of rows c fault.RootPlace = root_place_met rows c
hindrance_of rows c fault.Unbindable = unbindable rows c
hindrance_of rows c fault.SharedParent = shared rows c
hindrance_of rows c fault.IntoItself = tree_onto rows c
hindrance_of rows c fault.UnbindableInside = unbindable_inside_met rows c
hindrance_of rows c fault.Busy = busy rows c
hindrance_of rows c fault.BadAttr = clash c
hindrance_of rows c fault.Locked = locked rows c
hindrance_of rows c fault.LockedInside = locked_inside rows c
hindrance_of rows c fault.LockedAttr = locked_attr rows c
hindrance_of rows c refusal = None
