-- The normal forms of strings, descriptors and calls: those that strace writes with -f and -y (strace(1)).
-- A word with no source is this project's rule.
use Rattle.std.specs.Prelude.{◌≡◌, ℕ, nat_le, ◌+◌, ◌/◌, ◌%◌, ◌^◌, ◌<◌, Bool, true, false, not, ◌==◌, ◌&&◌, ◌||◌, if◌then◌else◌, List, [], ◌∷◌, ◌++◌, Option, None, Some, codes, decimal}
use Rattle.std.specs.List.{flat_map, list_all}
use Rattle.mt_strace.specs.declared.call.TracedCall.{TracedCall}
use Rattle.mt_strace.specs.declared.descriptor.Descriptor.{Descriptor}
use Rattle.mt_strace.specs.declared.descriptor.DescriptorNumber.{DescriptorNumber}
use Rattle.mt_strace.specs.declared.descriptor.DescriptorNumber.TheVariants as number
use Rattle.mt_strace.specs.declared.result.CallResult.{CallResult}
use Rattle.mt_strace.specs.declared.result.CallResult.TheVariants as outcome
use Rattle.mt_strace.specs.declared.scan.Scan.{Scan}
use Rattle.mt_strace.specs.Cuts.{until_byte}
use Rattle.mt_strace.specs.Outside.{scan_start, scan_after, is_outside}
use Rattle.mt_strace.specs.Results.{is_note_closed, are_notes}

-- no byte of a text is this one
abbrev pub lacks : ℕ → List ℕ → Bool
lacks c text = list_all (λ b. not (b == c)) text

-- a byte in a string: a quote and a backslash have a backslash in front, and what is no sign of ASCII has three octal digits
abbrev pub octal_digits : ℕ → List ℕ
octal_digits b = (48 + b / 64) ∷ (48 + (b / 8) % 8) ∷ (48 + b % 8) ∷ []

abbrev pub is_sign : ℕ → Bool
is_sign b = nat_le 32 b && nat_le b 126

abbrev pub byte_text : ℕ → List ℕ
byte_text b = if b == 34 || b == 92 then 92 ∷ b ∷ [] else (if is_sign b then b ∷ [] else 92 ∷ octal_digits b)

abbrev pub c_string_text : List ℕ → List ℕ
c_string_text bytes = 34 ∷ flat_map byte_text bytes ++ 34 ∷ []

-- a descriptor, with its path if that is told
abbrev pub descriptor_number_text : DescriptorNumber → List ℕ
descriptor_number_text number.CurrentDirectory = codes "AT_FDCWD"
descriptor_number_text (number.Open n) = decimal n
descriptor_number_text number.Negative = codes "-1"

abbrev pub deleted_text : Bool → List ℕ
deleted_text true = codes "(deleted)"
deleted_text false = []

abbrev pub descriptor_path_text : Option (List ℕ) → Bool → List ℕ
descriptor_path_text None is_deleted = []
descriptor_path_text (Some path) is_deleted = 60 ∷ path ++ 62 ∷ deleted_text is_deleted

abbrev pub descriptor_text : Descriptor → List ℕ
descriptor_text d = descriptor_number_text d.number ++ descriptor_path_text d.path d.is_deleted

-- the arguments of a call have a comma and a space between them
abbrev pub arguments_text : List (List ℕ) → List ℕ
arguments_text [] = []
arguments_text (argument ∷ []) = argument
arguments_text (argument ∷ next ∷ arguments) = argument ++ 44 ∷ 32 ∷ arguments_text (next ∷ arguments)

-- the result of a call
abbrev pub value_text : Option ℕ → List ℕ
value_text None = codes "0x0"
value_text (Some n) = decimal n

abbrev pub result_text : CallResult → List ℕ
result_text (outcome.Returned value path is_deleted notes) = value_text value ++ (descriptor_path_text path is_deleted ++ notes)
result_text (outcome.Failed error notes) = codes "-1 " ++ notes
result_text outcome.Unknown = codes "?"

-- a call, and a line with it, which has its process in front
abbrev pub body_text : TracedCall → List ℕ
body_text c = c.name ++ 40 ∷ (arguments_text c.arguments ++ (codes ") = " ++ result_text c.result))

abbrev pub call_text : ℕ → TracedCall → List ℕ
call_text process c = decimal process ++ 32 ∷ body_text c

-- an argument: not empty, no space in front, and no comma and no bracket that closes it outside; it ends outside
abbrev pub passes : Scan → List ℕ → Bool
passes s [] = is_outside s
passes s (b ∷ text) = not (is_outside s && (b == 44 || b == 41)) && passes (scan_after s b) text

abbrev pub is_argument : List ℕ → Bool
is_argument [] = false
is_argument (b ∷ text) = not (b == 32) && passes scan_start (b ∷ text)

-- a path has no `<` and no `>`, since strace has escapes for both; a file without a path was not deleted
abbrev pub IsPath : Option (List ℕ) → Bool → Type 0
IsPath None is_deleted = is_deleted ≡ false
IsPath (Some path) is_deleted = (lacks 60 path ≡ true) × (lacks 62 path ≡ true)

-- a descriptor that has a normal form
abbrev pub IsNumber : DescriptorNumber → Type 0
IsNumber number.CurrentDirectory = Unit {0}
IsNumber (number.Open n) = n < 2 ^ 64
IsNumber number.Negative = Unit {0}

abbrev pub IsDescriptor : Descriptor → Type 0
IsDescriptor d = IsNumber d.number × IsPath d.path d.is_deleted

-- a result that has one
abbrev pub IsResult : CallResult → Type 0
IsResult (outcome.Returned None path is_deleted notes) = ⊥
IsResult (outcome.Returned (Some n) path is_deleted notes) = (n < 2 ^ 64) × IsPath path is_deleted × (are_notes notes ≡ true)
IsResult (outcome.Failed error notes) = (is_note_closed notes ≡ true) × (error ≡ until_byte 32 notes)
IsResult outcome.Unknown = Unit {0}
