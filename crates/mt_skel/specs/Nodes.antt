-- How a `Skel` lies in its nodes. No public clause cites this module.
-- A word with no source is this project's rule.
use Rattle.std.specs.Prelude.{◌≡◌, ℕ, ◌+◌, ◌<◌, List, [], ◌∷◌, ◌++◌, length, map, Option, Some, None, slice_get}
use Rattle.mt_skel.specs.Children.{child_in}
use Rattle.mt_skel.specs.Skeleton.{Skeleton, Directory, Filesystem, IsSkeleton}
use Rattle.mt_skel.specs.declared.skel.Filesystem.{Filesystem as FilesystemNode}
use Rattle.mt_skel.specs.declared.skel.Link.{Link}
use Rattle.mt_skel.specs.declared.skel.Node.{Node}
use Rattle.std.specs.List.{slice_index_or}

-- the names from the root down to a node, where the earlier nodes have these directories
abbrev pub names_at : List Directory → ℕ → List (List ℕ)
names_at done d = (slice_index_or done d (record { fs = 0; path = [] })).path

abbrev pub names_up : List Directory → Option Link → List (List ℕ)
names_up done None = []
names_up done (Some up) = names_at done up.dir ++ up.name ∷ []

-- the directory of a node, where the earlier nodes have these
abbrev pub dir_of : List Directory → Node → Directory
dir_of done n = record { fs = n.fs; path = names_up done n.up }

abbrev pub dirs_from : List Directory → List Node → List Directory
dirs_from done [] = done
dirs_from done (n ∷ ns) = dirs_from (done ++ dir_of done n ∷ []) ns

-- the directories of all nodes
unfoldable pub dirs_of : List Node → List Directory
dirs_of ns = dirs_from [] ns

abbrev pub shown_fs : FilesystemNode → Filesystem
shown_fs f = record { name = f.name; kind = f.kind; source = f.source }

abbrev pub skeleton_of : List FilesystemNode → List Node → Skeleton
skeleton_of fs ns = record { filesystems = map shown_fs fs; directories = dirs_of ns; room = 1 }

-- the same with its room
abbrev pub skeleton_with : List FilesystemNode → List Node → ℕ → Skeleton
skeleton_with fs ns k = record (skeleton_of fs ns) { room = k }

-- the node is the child of this directory with this name
abbrev pub IsUp : Node → ℕ → List ℕ → Type 0
IsUp n dir name = (up : Link) × (n.up ≡ Some up) × (up.dir ≡ dir) × (up.name ≡ name)

-- how the nodes lie: the skeleton's own facts, each parent before its children and of their filesystem, and each filesystem's root at its place
pub record IsLaidOut (fs : List FilesystemNode) (ns : List Node) : Type 0 where
  pub skeleton : IsSkeleton (skeleton_of fs ns)
  pub before : (d : ℕ) (n : Node) (up : Link) → slice_get ns d ≡ Some n → n.up ≡ Some up → up.dir < d
  pub one_fs : (d : ℕ) (n p : Node) (up : Link) → slice_get ns d ≡ Some n → n.up ≡ Some up → slice_get ns up.dir ≡ Some p → p.fs ≡ n.fs
  pub roots : (i : ℕ) (f : FilesystemNode) → slice_get fs i ≡ Some f → slice_get (dirs_of ns) f.root ≡ Some (record { fs = i + 1; path = [] })

-- the directories that are found by their names are those of the nodes
pub record AreFoundByName (ns : List Node) (children : List (List (List ℕ × ℕ))) : Type 0 where
  pub sized : length children ≡ length ns
  pub found : (dir d : ℕ) (name : List ℕ) → child_in children dir name ≡ Some d → (n : Node) × (slice_get ns d ≡ Some n) × IsUp n dir name
  pub all : (dir d : ℕ) (name : List ℕ) (n : Node) → slice_get ns d ≡ Some n → IsUp n dir name → child_in children dir name ≡ Some d

-- what the type keeps
pub record IsKeptSkeleton (fs : List FilesystemNode) (ns : List Node) (children : List (List (List ℕ × ℕ))) : Type 0 where
  pub laid_out : IsLaidOut fs ns
  pub indexed : AreFoundByName ns children
