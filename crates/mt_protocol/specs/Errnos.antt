-- Errors of Linux, by their names and numbers (errno(3); the numbers are those of x86-64 and arm64).
-- A word with no source is this project's rule.
use Rattle.std.specs.Prelude.{ℕ, Bool, ◌||◌, List, [], ◌∷◌, map, Option, codes}
use Rattle.std.specs.Char.{to_ascii_lowercase}
use Rattle.std.specs.List.{find}
use Rattle.std.specs.Str.{bytes_eq}
use Rattle.mt_protocol.specs.declared.errno.Errno.{Errno}
use Rattle.mt_protocol.specs.declared.errno.Errno.TheVariants.{Eperm, Enoent, Enxio, Enomem, Eacces, Enotblk, Ebusy, Eexist, Enodev, Enotdir, Einval, Enospc, Erofs, Enametoolong, Eloop}

-- every error of a call about mounts
abbrev pub errnos : List Errno
errnos = Eperm ∷ Enoent ∷ Enxio ∷ Enomem ∷ Eacces ∷ Enotblk ∷ Ebusy ∷ Eexist ∷ Enodev ∷ Enotdir ∷ Einval ∷ Enospc ∷ Erofs ∷ Enametoolong ∷ Eloop ∷ []

-- its name
abbrev pub errno_name : Errno → List ℕ
errno_name Eperm = codes "EPERM"
errno_name Enoent = codes "ENOENT"
errno_name Enxio = codes "ENXIO"
errno_name Enomem = codes "ENOMEM"
errno_name Eacces = codes "EACCES"
errno_name Enotblk = codes "ENOTBLK"
errno_name Ebusy = codes "EBUSY"
errno_name Eexist = codes "EEXIST"
errno_name Enodev = codes "ENODEV"
errno_name Enotdir = codes "ENOTDIR"
errno_name Einval = codes "EINVAL"
errno_name Enospc = codes "ENOSPC"
errno_name Erofs = codes "EROFS"
errno_name Enametoolong = codes "ENAMETOOLONG"
errno_name Eloop = codes "ELOOP"

-- and its number
abbrev pub errno_number : Errno → List ℕ
errno_number Eperm = codes "1"
errno_number Enoent = codes "2"
errno_number Enxio = codes "6"
errno_number Enomem = codes "12"
errno_number Eacces = codes "13"
errno_number Enotblk = codes "15"
errno_number Ebusy = codes "16"
errno_number Eexist = codes "17"
errno_number Enodev = codes "19"
errno_number Enotdir = codes "20"
errno_number Einval = codes "22"
errno_number Enospc = codes "28"
errno_number Erofs = codes "30"
errno_number Enametoolong = codes "36"
errno_number Eloop = codes "40"

-- a word is its name, in letters of any case, or its number
abbrev pub is_named : List ℕ → Errno → Bool
is_named word errno = bytes_eq (map to_ascii_lowercase word) (map to_ascii_lowercase (errno_name errno)) || bytes_eq word (errno_number errno)

-- the error that a word names
unfoldable pub errno_of : List ℕ → Option Errno
errno_of word = find (λ errno. is_named word errno) errnos
