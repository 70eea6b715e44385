-- The first line of a hindrance: what is in the way.
-- A word with no source is this project's rule.
use Rattle.std.specs.Prelude.{ℕ, ◌==◌, cond, List, [], ◌∷◌, ◌++◌, length, codes, decimal}
use Rattle.mt_reach.specs.Tree.{seen_children}
use Rattle.mt_reach.specs.Refusals as refusals
use Rattle.mt_refused.specs.declared.asked.Which.{Which}
use Rattle.mt_refused.specs.declared.asked.Which.TheVariants.{First, Second}
use Rattle.mt_refused.specs.declared.hindrance.Hindrance.{Hindrance}
use Rattle.mt_refused.specs.declared.hindrance.Hindrance.TheVariants as hindrance
use Rattle.mt_refused.specs.Asked.{is_of_tree}
use Rattle.mt_refused.specs.Pages.{PageView}
use Rattle.mt_refused.specs.Parts.{all_texts, counted_text, mount_told, group_text, called_text}

abbrev pub no_namespace_words : ℕ → List ℕ
no_namespace_words n = all_texts (codes "namespace " ∷ decimal n ∷ codes " is not there" ∷ [])

abbrev pub with_below_words : ℕ → ℕ → List ℕ
with_below_words n m = cond (n == m) [] (all_texts (codes ", " ∷ decimal m ∷ codes " with those below" ∷ []))

abbrev pub two_times_words : List ℕ
two_times_words = codes "set= has two access times"

abbrev pub clash_words : List ℕ
clash_words = codes "set= has two access times, or one without clr=atime"

module _ (v : PageView) where
  abbrev pub off_root_words : ℕ → List ℕ
  off_root_words on = all_texts (called_text v First ∷ codes " is a directory of " ∷ mount_told v on ∷ codes ", and no mount" ∷ [])

  abbrev pub root_place_words : Which → ℕ → List ℕ
  root_place_words which root = all_texts (called_text v which ∷ codes " is the root of the root mount, " ∷ mount_told v root ∷ [])

  abbrev pub unbindable_words : ℕ → List ℕ
  unbindable_words on = all_texts (called_text v First ∷ codes " is on " ∷ mount_told v on ∷ codes ", which is unbindable" ∷ [])

  -- a path leads to a mount that stands on a shared one
  abbrev pub shared_parent_words : ℕ → List ℕ
  shared_parent_words on = all_texts (called_text v First ∷ codes " stands on " ∷ mount_told v on ∷ codes ", which is shared, in group " ∷ group_text v on ∷ [])

  -- or to the shared one itself
  abbrev pub shared_place_words : ℕ → List ℕ
  shared_place_words on = all_texts (called_text v Second ∷ codes " is on " ∷ mount_told v on ∷ codes ", which is shared, in group " ∷ group_text v on ∷ [])

  abbrev pub onto_itself_words : ℕ → List ℕ
  onto_itself_words tree = all_texts (called_text v Second ∷ codes " is on " ∷ mount_told v tree ∷ codes ", which would be moved" ∷ [])

  abbrev pub below_itself_words : ℕ → ℕ → List ℕ
  below_itself_words tree onto =
      all_texts (called_text v Second ∷ codes " is on " ∷ mount_told v onto ∷ codes ", which stands on " ∷ mount_told v tree ∷ codes ", which would be moved" ∷ [])

  abbrev pub into_words : ℕ → ℕ → List ℕ
  into_words tree onto = cond (tree == onto) (onto_itself_words tree) (below_itself_words tree onto)

  abbrev pub outside_words : ℕ → ℕ → List ℕ
  outside_words new onto = all_texts (called_text v Second ∷ codes " is on " ∷ mount_told v onto ∷ codes ", which does not stand on the new root, " ∷ mount_told v new ∷ [])

  -- so many mounts of a tree are unbindable
  abbrev pub inside_words_of : ℕ → ℕ → ℕ → List ℕ
  inside_words_of tree onto n =
      all_texts (called_text v Second ∷ codes " is on " ∷ mount_told v onto ∷ codes ", which is shared, in group " ∷ group_text v onto
      ∷ codes ", and " ∷ counted_text n (codes " mount is unbindable") (codes " mounts are unbindable") ∷ codes " in the tree of " ∷ mount_told v tree ∷ [])

  abbrev pub inside_words : ℕ → ℕ → List ℕ
  inside_words tree onto = inside_words_of tree onto (length (refusals.unbindable_inside v.rows tree onto))

  -- so many mounts stand on one
  abbrev pub standing_on_words : ℕ → ℕ → List ℕ
  standing_on_words on n = all_texts (counted_text n (codes " mount stands on ") (codes " mounts stand on ") ∷ mount_told v on ∷ [])

  -- and with those on them so many
  abbrev pub busy_words_of : ℕ → ℕ → ℕ → List ℕ
  busy_words_of on n m = standing_on_words on n ++ with_below_words n m

  abbrev pub busy_words : ℕ → List ℕ
  busy_words on = busy_words_of on (length (seen_children v.rows on)) (length (refusals.tree_below v.rows on))

  -- a mount came with a copy into another user namespace (mount_namespaces(7), restrictions on mount namespaces): it is locked on its place
  abbrev pub locked_words : ℕ → List ℕ
  locked_words i = all_texts (called_text v First ∷ codes " is " ∷ mount_told v i ∷ codes ", which is locked on its place" ∷ [])

  -- or one below it is, which would be left out
  abbrev pub locked_inside_words : ℕ → List ℕ
  locked_inside_words on = all_texts (called_text v First ∷ codes " is on " ∷ mount_told v on ∷ codes ", and a mount below that is locked on its place would be left out" ∷ [])

  -- what a path leads to, and what is said of that
  abbrev pub led_words : ℕ → List ℕ → List ℕ
  led_words i said = all_texts (called_text v First ∷ codes " is " ∷ mount_told v i ∷ said ∷ [])

  -- or its attributes are, or those of a mount of its tree
  abbrev pub locked_attr_words : ℕ → List ℕ
  locked_attr_words i =
      cond (is_of_tree v.command) (led_words i (codes ", in the tree of which an attribute is locked that would change"))
      (led_words i (codes ", of which an attribute is locked that would change"))

  -- what is in the way
  abbrev pub sentence : Hindrance → List ℕ
  sentence (hindrance.NoNamespace n) = no_namespace_words n
  sentence (hindrance.OffRoot on) = off_root_words on
  sentence (hindrance.RootPlace which root) = root_place_words which root
  sentence (hindrance.Unbindable on) = unbindable_words on
  sentence (hindrance.SharedParent on) = shared_parent_words on
  sentence (hindrance.SharedPlace on) = shared_place_words on
  sentence (hindrance.IntoItself tree onto) = into_words tree onto
  sentence (hindrance.LeftOutside new onto) = outside_words new onto
  sentence (hindrance.UnbindableInside tree onto) = inside_words tree onto
  sentence (hindrance.Busy on) = busy_words on
  sentence hindrance.TwoTimes = two_times_words
  sentence hindrance.Clash = clash_words
  sentence (hindrance.Locked i) = locked_words i
  sentence (hindrance.LockedInside on) = locked_inside_words on
  sentence (hindrance.LockedAttr i) = locked_attr_words i
