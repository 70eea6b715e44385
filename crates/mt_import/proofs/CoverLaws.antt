-- Mounts at the root of a namespace.
use Rattle.std.proofs.Common.{◌≡◌, ℕ, List, [], ◌∷◌, ◌++◌, slice_get, Some, None, is_some, codes, sym, ap, ◌∙◌}
use Rattle.std.specs.BTreeMap.{BTreeMap}
use Rattle.std.specs.Option.{option_map_or}
use Rattle.mt_import.specs.declared.groups.Group.{Group}
use Rattle.mt_import.specs.declared.mount.Mount.{Mount}
use Rattle.mt_import.specs.Commands.{pivot_text, umount_text}
use Rattle.mt_import.specs.Covers.{raise_text, lower_in, lower_text, covered}
use Rattle.mt_import.specs.Groups.{receiving}
use Rattle.mt_import.specs.Slots.{stage, slot}
use Rattle.mt_import.proofs.CommandLaws.{two_pushed, three_pushed}

-- one without group is put back
pub plain_lowered : (groups : BTreeMap ℕ Group) (space at : List ℕ) (mount : Mount) (old new : List ℕ) → receiving groups mount.row.now.shared ≡ None → mount.row.now.shared ≡ None
    → new ≡ old ++ pivot_text space stage stage → new ≡ old ++ lower_text groups space at mount
unfolding lower_text
plain_lowered groups space at mount old new e f is =
    is ∙ sym (ap (λ g. old ++ lower_in g (is_some mount.row.now.shared) groups space at mount) e ∙ ap (λ s. old ++ lower_in None (is_some s) groups space at mount) f)

-- one that is a member of a group with others is put back, and what isolates its place is taken away
pub member_lowered : (groups : BTreeMap ℕ Group) (space at : List ℕ) (mount : Mount) (group : ℕ) (place hook s0 s1 s2 : List ℕ) → receiving groups mount.row.now.shared ≡ Some group
    → place ≡ mount.root.now ++ stage → hook ≡ slot at (codes "/") group place → s1 ≡ s0 ++ pivot_text space stage stage → s2 ≡ s1 ++ umount_text space hook
    → s2 ≡ s0 ++ lower_text groups space at mount
unfolding lower_text
member_lowered groups space at mount group place hook s0 s1 s2 e there is e1 e2 =
    two_pushed s0 s1 s2 (pivot_text space stage stage) (umount_text space hook) e1 e2
    ∙ ap (λ h. s0 ++ (pivot_text space stage stage ++ umount_text space h)) (is ∙ ap (slot at (codes "/") group) there)
    ∙ sym (ap (λ g. s0 ++ lower_in g (is_some mount.row.now.shared) groups space at mount) e)

-- one becomes the root of the namespace, and is put back when those above it are
pub covered_more : (groups : BTreeMap ℕ Group) (space at : List ℕ) (mounts : List Mount) (mount : Mount) (number : ℕ) (others covers s0 s1 s2 s3 : List ℕ) → covers ≡ number ∷ others
    → slice_get mounts number ≡ Some mount → s1 ≡ s0 ++ raise_text groups space at mount → s2 ≡ s1 ++ covered groups space (stage ++ at) mounts others
    → s3 ≡ s2 ++ lower_text groups space at mount → s3 ≡ s0 ++ covered groups space at mounts covers
covered_more groups space at mounts mount number others covers s0 s1 s2 s3 is got e1 e2 e3 =
    three_pushed s0 s1 s2 s3 (raise_text groups space at mount) (covered groups space (stage ++ at) mounts others) (lower_text groups space at mount) e1 e2 e3
    ∙ sym (ap (λ c. s0 ++ covered groups space at mounts c) is
    ∙ ap (λ o. s0 ++ option_map_or (λ (m : Mount). (raise_text groups space at m ++ covered groups space (stage ++ at) mounts others) ++ lower_text groups space at m) o []) got)
