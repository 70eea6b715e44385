-- setattr: the attributes of the chosen mounts and their propagation, all at once.
-- A word with no source is this project's rule.
use Rattle.std.specs.Prelude.{ℕ, Bool, cond, not, ◌&&◌, ◌||◌, ◌==◌, List, [], ◌∷◌, map, Option, Result}
use Rattle.std.specs.Option.{option_map_or}
use Rattle.mt_skel.specs.declared.fault.Fault.{Fault}
use Rattle.mt_skel.specs.declared.fault.Fault.TheVariants.{NotMountRoot, BadAttr, Detached}
use Rattle.mt_skel.specs.Outcome.{refuse_if, refusal_of, outcome}
use Rattle.mt_mounts.specs.declared.mount.Mount.{Mount}
use Rattle.mt_mounts.specs.declared.mount.Place.{Place}
use Rattle.mt_mounts.specs.declared.mount.Attrs.{Attrs}
use Rattle.mt_mounts.specs.declared.mount.Atime.{Atime}
use Rattle.mt_mounts.specs.declared.mount.Atime.TheVariants.{Relatime, Noatime, Strictatime}
use Rattle.mt_mounts.specs.Forest.{is_below}
use Rattle.mt_mounts.specs.Walk.{walk}
use Rattle.mt_peers.specs.Making.{made}
use Rattle.mt_propagate.specs.World.{WorldView, is_tree}
use Rattle.mt_propagate.specs.Named.{place_or_nowhere, is_mount_root, is_root_mount}
use Rattle.mt_setattr.specs.declared.change.Change.{Change}
use Rattle.mt_setattr.specs.Words.{sets_two_times, sets_some, clears_some}

-- two access times are set, or one for which clr makes no room (mount_setattr(2), MOUNT_ATTR__ATIME and EINVAL; that this holds for
-- relatime too is this project's rule)
abbrev pub clashes : Change → Bool
clashes c = sets_two_times c.set || ((c.set.relatime || c.set.noatime || c.set.strictatime) && not c.clr.atime)

-- the access time that is set, or relatime if it was only taken away (mount_setattr(2), MOUNT_ATTR__ATIME; the second half: this
-- project's rule)
abbrev pub changed_atime : Change → Atime → Atime
changed_atime c a = cond c.set.noatime Noatime (cond c.set.strictatime Strictatime (cond (c.set.relatime || c.clr.atime) Relatime a))

-- what clr names is removed, and then what set names is added (mount_setattr(2), attr_clr and
-- attr_set)
abbrev pub changed_attrs : Change → Attrs → Attrs
changed_attrs c a = record {
  ro = (a.ro && not c.clr.ro) || c.set.ro;
  nosuid = (a.nosuid && not c.clr.nosuid) || c.set.nosuid;
  nodev = (a.nodev && not c.clr.nodev) || c.set.nodev;
  noexec = (a.noexec && not c.clr.noexec) || c.set.noexec;
  nosymfollow = (a.nosymfollow && not c.clr.nosymfollow) || c.set.nosymfollow;
  nodiratime = (a.nodiratime && not c.clr.nodiratime) || c.set.nodiratime;
  atime = changed_atime c a.atime;
}

-- a chosen mount gets the change's attributes, any other stays as it is (mount_setattr(2))
abbrev pub changed_mount : Change → (ℕ → Bool) → Mount → Mount
changed_mount c chosen m = record m { attrs = cond (chosen m.id) (changed_attrs c m.attrs) m.attrs }

-- a change applies to the named mount i, and if it is recursive to all mounts below it (mount_setattr(2), AT_RECURSIVE)
abbrev pub is_chosen : WorldView → Change → ℕ → ℕ → Bool
is_chosen w c i j = (i == j) || (c.recursive && is_below w.forest i j)

-- the world once the chosen mounts are changed; attributes do not propagate (mount_setattr(2); mount_namespaces(7): attributes
-- are of one mount)
unfoldable pub with_change : WorldView → Change → ℕ → WorldView
with_change w c i = record w {
  forest = map (changed_mount c (is_chosen w c i)) w.forest;
  peering = option_map_or (λ k. made k (is_chosen w c i) w.peering) c.prop w.peering;
}

-- attributes are changed in a detached tree below its root mount; another propagation alone may be given there (mount_setattr(2), EINVAL)
abbrev pub changes_inside : WorldView → ℕ → Place → Change → Bool
changes_inside w n p c = is_tree w n && (sets_some c.set || clears_some c.clr) && not (is_root_mount w p)

-- the refusals of a change, where its path was found to lead there (mount_setattr(2); their order: this project's rule)
abbrev pub attributed_refusals : WorldView → ℕ → Change → Result Place Fault → List (Option Fault)
attributed_refusals w n c at =
    refusal_of at
    ∷ refuse_if (not (is_mount_root w (place_or_nowhere at))) NotMountRoot
    ∷ refuse_if (clashes c) BadAttr
    ∷ refuse_if (changes_inside w n (place_or_nowhere at) c) Detached ∷ []

-- what it makes of the world
abbrev pub attributed_effect : WorldView → Change → Result Place Fault → WorldView
attributed_effect w c at = with_change w c (place_or_nowhere at).mount

-- the mount that a path names is changed; it may be a root mount, and an empty change does nothing (mount_setattr(2))
abbrev pub attributed : WorldView → ℕ → List (List ℕ) → Change → Result WorldView Fault
attributed w n path c =
    let at = walk w.skel w.forest n path in
    outcome (attributed_refusals w n c at) (attributed_effect w c at)
