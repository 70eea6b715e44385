-- The hook: a mount that isolates one place of a mount of a peer group.
--
-- A mount on the staged member of the group comes to each mount that receives from it and shows the place, below what is there
-- (sharedsubtree). The one at the place is made private: what is mounted on its root comes to no other. The unmount of the first
-- takes all others away, and what stands on the root of the one at the place slides back to that.
use Rattle.std.specs.Prelude.{ℕ, List, ◌++◌, codes}
use Rattle.std.specs.List.{flat_map}
use Rattle.mt_import.specs.Commands.{mount_text, umount_text, kind_text}

-- a hook is taken away at one path and spared at all others, where in the meantime a mount stands
-- on it
unfoldable pub release_text : List ℕ → List ℕ → List ℕ → List ℕ
release_text space hook path = ((kind_text space path (codes "prop=private")
    ++ mount_text space (codes "import") (hook ++ codes "/spared"))
    ++ umount_text space path)
    ++ umount_text space (hook ++ codes "/spared")

-- a place is isolated, once the hook is taken away at other paths
unfoldable pub isolate_text : List ℕ → List ℕ → List (List ℕ) → List ℕ → List ℕ
isolate_text space hook others place = (mount_text space (codes "import") hook
    ++ flat_map (release_text space hook) others)
    ++ kind_text space place (codes "prop=private")

-- what is done at a place while it is isolated
abbrev pub hooked_text : List ℕ → List ℕ → List (List ℕ) → List ℕ → List ℕ → List ℕ
hooked_text space hook others place text = (isolate_text space hook others place ++ text) ++ umount_text space hook
