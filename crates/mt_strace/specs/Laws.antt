-- What is read of a normal form is what it is of.
-- A word with no source is this project's rule.
use Rattle.std.specs.Prelude.{◌≡◌, ℕ, nat_lt, ◌<◌, ◌≤◌, ◌^◌, true, List, length, None, Some, codes}
use Rattle.std.specs.List.{list_all}
use Rattle.mt_strace.specs.declared.call.TracedCall.{TracedCall}
use Rattle.mt_strace.specs.declared.descriptor.Descriptor.{Descriptor}
use Rattle.mt_strace.specs.declared.line.StraceLine.TheVariants as line
use Rattle.mt_strace.specs.Descriptors.{descriptor_of}
use Rattle.mt_strace.specs.Lines.{strace_line_of, is_call_name}
use Rattle.mt_strace.specs.Printed.{lacks, c_string_text, descriptor_text, body_text, call_text, is_argument, IsDescriptor, IsResult}
use Rattle.mt_strace.specs.Strings.{string_of, stripped_end}

-- the string of bytes is read as these bytes, all of them, and is an argument
abbrev pub StringsAreRead : Type 0
StringsAreRead =
    (bytes : List ℕ) → list_all (λ b. nat_lt b 256) bytes ≡ true → (string_of (c_string_text bytes) ≡ Some (record { bytes = bytes; is_whole = true })) × (is_argument (c_string_text bytes) ≡ true)

-- the text of a descriptor is read as that descriptor, and is an argument
abbrev pub DescriptorsAreRead : Type 0
DescriptorsAreRead = (d : Descriptor) → IsDescriptor d → (descriptor_of (descriptor_text d) ≡ Some d) × (is_argument (descriptor_text d) ≡ true)

-- a call of a process that a line can say: no argument ends in the middle, and the line does not end as one that another
-- process's line interrupts
pub record IsCall (process : ℕ) (c : TracedCall) : Type 0 where
  pub number : process < 2 ^ 64
  pub named : c.process ≡ Some process
  pub name : is_call_name c.name ≡ true
  pub arguments : list_all is_argument c.arguments ≡ true
  pub result : IsResult c.result
  pub bytes : lacks 0 (call_text process c) ≡ true
  pub short : length (call_text process c) ≤ 65536
  pub whole : stripped_end (codes " <unfinished ...>") (body_text c) ≡ None
  pub kept : stripped_end (codes " <detached ...>") (body_text c) ≡ None

-- the line of such a call is read as that call
abbrev pub CallsAreRead : Type 0
CallsAreRead = (process : ℕ) (c : TracedCall) → IsCall process c → strace_line_of (call_text process c) ≡ line.Call c
