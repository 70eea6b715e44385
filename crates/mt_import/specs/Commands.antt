-- The commands that the script is made of.
-- A word with no source is this project's rule.
use Rattle.std.specs.Prelude.{ℕ, List, [], ◌∷◌, codes}
use Rattle.mt_import.specs.Script.{command_text}

-- a filesystem is mounted in a namespace
abbrev pub mount_text : List ℕ → List ℕ → List ℕ → List ℕ
mount_text space filesystem path = command_text (codes "mount" ∷ space ∷ filesystem ∷ path ∷ [])

-- what a path leads to is bound at another one
abbrev pub bind_text : List ℕ → List ℕ → List ℕ → List ℕ
bind_text space source path = command_text (codes "bind" ∷ space ∷ source ∷ path ∷ [])

-- a mount is moved, with all that stands on it
abbrev pub move_text : List ℕ → List ℕ → List ℕ → List ℕ
move_text space source path = command_text (codes "move" ∷ space ∷ source ∷ path ∷ [])

-- a mount becomes the root of its namespace, and the old one is put at a path
abbrev pub pivot_text : List ℕ → List ℕ → List ℕ → List ℕ
pivot_text space new old = command_text (codes "pivot" ∷ space ∷ new ∷ old ∷ [])

-- a mount is unmounted
abbrev pub umount_text : List ℕ → List ℕ → List ℕ
umount_text space path = command_text (codes "umount" ∷ space ∷ path ∷ [])

-- a mount is taken away with all that stands on it
abbrev pub detach_text : List ℕ → List ℕ → List ℕ
detach_text space path = command_text (codes "detach" ∷ space ∷ path ∷ [])

-- the propagation of a mount is set
abbrev pub kind_text : List ℕ → List ℕ → List ℕ → List ℕ
kind_text space path kind = command_text (codes "setattr" ∷ space ∷ path ∷ kind ∷ [])

-- a namespace is a copy of another one
abbrev pub copy_text : List ℕ → List ℕ
copy_text space = command_text (codes "copyns" ∷ space ∷ [])

-- one is a less privileged copy in which all is locked
abbrev pub locked_copy_text : List ℕ → List ℕ
locked_copy_text space = command_text (codes "copyns" ∷ space ∷ codes "less" ∷ codes "lock" ∷ [])

-- a namespace ends
abbrev pub drop_text : List ℕ → List ℕ
drop_text space = command_text (codes "dropns" ∷ space ∷ [])
