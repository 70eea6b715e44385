-- The strings among the arguments of a call (strace(1), -s).
-- A word with no source is this project's rule.
use Rattle.std.specs.Prelude.{ℕ, if◌then◌else◌, List, Option, None, Some, Result, Ok, Err, codes}
use Rattle.std.specs.Str.{bytes_eq}
use Rattle.mt_strace.specs.Strings.{ToldString, string_of}
use Rattle.mt_trace.specs.declared.string_argument.StringFault.{StringFault}
use Rattle.mt_trace.specs.declared.string_argument.StringFault.TheVariants as fault

-- the bytes of a string that strace tells whole, or why they are not known: it was cut off, or strace has an address in its place
abbrev pub string_bytes : Option ToldString → Result (List ℕ) StringFault
string_bytes None = Err fault.Address
string_bytes (Some s) = if s.is_whole then Ok s.bytes else Err fault.Cut

abbrev pub string_argument : List ℕ → Result (List ℕ) StringFault
string_argument argument = if bytes_eq argument (codes "NULL") then Err fault.Missing else string_bytes (string_of argument)
