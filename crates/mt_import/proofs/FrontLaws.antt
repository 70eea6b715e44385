-- What stands in front of the namespaces, appended part by part.
use Rattle.std.proofs.Common.{◌≡◌, inl, inr, ℕ, false, List, [], ◌∷◌, ◌++◌, Some, None, codes, sym, ap, ◌∙◌, subst}
use Rattle.std.proofs.lemmas.List.{append-nil}
use Rattle.std.specs.BTreeMap.{BTreeMap, get}
use Rattle.std.specs.List.{flat_map, list_any}
use Rattle.std.specs.Option.{option_map_or}
use Rattle.std.specs.Ordering.{nat_cmp}
use Rattle.mt_import.specs.declared.groups.Group.{Group}
use Rattle.mt_import.specs.declared.space.Space.{Space}
use Rattle.mt_import.specs.Commands.{bind_text, kind_text}
use Rattle.mt_import.specs.Front.{plain_text, member_path, stage_below_text, member_text, stage_text, front_text, IsFronted, StandsInFront}
use Rattle.mt_import.specs.Script.{command_text, group_comment}
use Rattle.mt_import.specs.Telling.{is_shown}
use Rattle.mt_import.proofs.CommandLaws.{two_pushed, three_pushed}

-- the staged member of a group that has a master
pub below_pushed : (group : Group) (master : ℕ) (path source s0 s1 s2 : List ℕ) → group.master ≡ Some master → source ≡ member_path master
    → s1 ≡ s0 ++ bind_text (codes "1") source path → s2 ≡ s1 ++ kind_text (codes "1") path (codes "prop=slave")
    → s2 ≡ s0 ++ stage_below_text group.master group.device.now path
below_pushed group master path source s0 s1 s2 e is e1 e2 =
    two_pushed s0 s1 s2 (bind_text (codes "1") source path) (kind_text (codes "1") path (codes "prop=slave")) e1 e2
    ∙ ap (λ s. s0 ++ (bind_text (codes "1") s path ++ kind_text (codes "1") path (codes "prop=slave"))) is
    ∙ sym (ap (λ m. s0 ++ stage_below_text m group.device.now path) e)

-- it is made shared
pub member_pushed : (number : ℕ) (group : Group) (path s0 s1 s2 s3 : List ℕ) → path ≡ member_path number → s1 ≡ s0 ++ group_comment number group.here
    → s2 ≡ s1 ++ stage_below_text group.master group.device.now path → s3 ≡ s2 ++ kind_text (codes "1") path (codes "prop=shared") → s3 ≡ s0 ++ member_text number group
unfolding member_text
member_pushed number group path s0 s1 s2 s3 is e1 e2 e3 =
    three_pushed s0 s1 s2 s3 (group_comment number group.here) (stage_below_text group.master group.device.now path) (kind_text (codes "1") path (codes "prop=shared")) e1 e2 e3
    ∙ ap (λ p. s0 ++ ((group_comment number group.here ++ stage_below_text group.master group.device.now p) ++ kind_text (codes "1") p (codes "prop=shared"))) is

-- a group that is known, and one that is not
pub group_staged : (groups : BTreeMap ℕ Group) (number : ℕ) (group : Group) (s0 s1 : List ℕ) → get nat_cmp groups number ≡ Some group → s1 ≡ s0 ++ member_text number group
    → s1 ≡ s0 ++ stage_text groups number
unfolding stage_text
group_staged groups number group s0 s1 is e = e ∙ sym (ap (λ g. s0 ++ option_map_or (member_text number) g []) is)

pub none_staged : (groups : BTreeMap ℕ Group) (number : ℕ) (s0 : List ℕ) → get nat_cmp groups number ≡ None → s0 ≡ s0 ++ stage_text groups number
unfolding stage_text
none_staged groups number s0 is = sym (ap (λ g. s0 ++ option_map_or (member_text number) g []) is ∙ append-nil s0)

-- all that stands in front
pub fronted : (groups : BTreeMap ℕ Group) (filesystems directories : List ℕ) (devices : List (List ℕ)) (staged s0 s1 s2 s3 s4 s5 s6 : List ℕ) → s1 ≡ s0 ++ filesystems
    → s2 ≡ s1 ++ command_text (codes "mkfs" ∷ codes "import" ∷ codes "import" ∷ codes "none" ∷ []) → s3 ≡ s2 ++ directories
    → s4 ≡ s3 ++ command_text (codes "newns" ∷ codes "import" ∷ []) → s5 ≡ s4 ++ flat_map plain_text devices → s6 ≡ s5 ++ flat_map (stage_text groups) staged
    → IsFronted groups s0 s6
unfolding front_text
fronted groups filesystems directories devices staged s0 s1 s2 s3 s4 s5 s6 e1 e2 e3 e4 e5 e6 =
    let mkfs = command_text (codes "mkfs" ∷ codes "import" ∷ codes "import" ∷ codes "none" ∷ []) in
    let newns = command_text (codes "newns" ∷ codes "import" ∷ []) in
    let p2 = two_pushed s0 s1 s2 filesystems mkfs e1 e2 in
    let p3 = two_pushed s0 s2 s3 (filesystems ++ mkfs) directories p2 e3 in
    let p4 = two_pushed s0 s3 s4 ((filesystems ++ mkfs) ++ directories) newns p3 e4 in
    let p5 = two_pushed s0 s4 s5 (((filesystems ++ mkfs) ++ directories) ++ newns) (flat_map plain_text devices) p4 e5 in
    (filesystems, directories, devices, staged, two_pushed s0 s5 s6 ((((filesystems ++ mkfs) ++ directories) ++ newns) ++ flat_map plain_text devices) (flat_map (stage_text groups) staged) p5 e6)

-- where no namespace is made nothing stands in front, and where one is this does
pub none_in_front : (groups : BTreeMap ℕ Group) (spaces : List Space) (front : List ℕ) → list_any is_shown spaces ≡ false → front ≡ [] → StandsInFront groups spaces front
none_in_front groups spaces front e is = inl (e, is)

pub some_in_front : (groups : BTreeMap ℕ Group) (spaces : List Space) (old front : List ℕ) → old ≡ [] → IsFronted groups old front → StandsInFront groups spaces front
some_in_front groups spaces old front is there = inr (subst (λ x. IsFronted groups x front) is there)
