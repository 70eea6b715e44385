-- What the system tells of a socket's path (connect(2), bind(2), inode(7)).
-- A word with no source is this project's rule.
use Rattle.std.specs.Prelude.{ℕ, Bool, false, not, ◌==◌, bit_and, Result, Ok, Err}
use Rattle.std.specs.Fs.{metadata_mode}
use Rattle.std.specs.declared.fs.attrs.Metadata.{Metadata}

-- the file type S_IFSOCK of a mode (inode(7))
abbrev pub is_socket_mode : ℕ → Bool
is_socket_mode mode = bit_and mode 0o170000 == 0o140000

-- a look has found a file that is no socket
abbrev pub is_another : {E : Type 0} → Result Metadata E → Bool
is_another (Ok file) = not (is_socket_mode (metadata_mode file))
is_another (Err error) = false
