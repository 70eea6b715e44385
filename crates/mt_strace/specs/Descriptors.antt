-- Descriptors of files, as strace has them with the paths that they lead to (strace(1), -y).
-- A word with no source is this project's rule.
use Rattle.std.specs.Prelude.{ℕ, Bool, true, false, if◌then◌else◌, List, Option, None, Some, codes}
use Rattle.std.specs.Option.{option_and_then, option_map}
use Rattle.std.specs.Str.{bytes_eq}
use Rattle.mt_lines.specs.Words.{number_in_text}
use Rattle.mt_strace.specs.declared.descriptor.Descriptor.{Descriptor}
use Rattle.mt_strace.specs.declared.descriptor.DescriptorNumber.{DescriptorNumber}
use Rattle.mt_strace.specs.declared.descriptor.DescriptorNumber.TheVariants as number
use Rattle.mt_strace.specs.Cuts.{stripped, cut_at}
use Rattle.mt_strace.specs.Strings.{stripped_end}

-- the number of a descriptor, the word for the current directory, or a number below 0
abbrev pub negative_or_open : Option (List ℕ) → List ℕ → Option DescriptorNumber
negative_or_open (Some digits) text = option_map (λ n. number.Negative) (number_in_text digits)
negative_or_open None text = option_map (λ n. number.Open n) (number_in_text text)

abbrev pub number_of : List ℕ → Option DescriptorNumber
number_of text = if bytes_eq text (codes "AT_FDCWD") then Some number.CurrentDirectory else negative_or_open (stripped (codes "-") text) text

-- the path behind `<`, and whether its file was deleted
abbrev pub deleted_or_there : Option (List ℕ) → Option (List ℕ) → Option (List ℕ × Bool)
deleted_or_there (Some path) there = Some (path, true)
deleted_or_there None there = option_map (λ path. (path, false)) there

abbrev pub path_behind_angle : List ℕ → Option (List ℕ × Bool)
path_behind_angle behind = deleted_or_there (stripped_end (codes ">(deleted)") behind) (stripped_end (codes ">") behind)

-- a descriptor of which the path is told, or not
abbrev pub descriptor_at : Option (List ℕ × List ℕ) → List ℕ → Option Descriptor
descriptor_at None argument = option_map (λ n. record { number = n; path = None; is_deleted = false }) (number_of argument)
descriptor_at (Some (front, behind)) argument =
    option_and_then (λ n. option_map (λ (path, is_deleted). record { number = n; path = Some path; is_deleted = is_deleted }) (path_behind_angle behind)) (number_of front)

-- the descriptor that an argument is
abbrev pub descriptor_of : List ℕ → Option Descriptor
descriptor_of argument = descriptor_at (cut_at 60 argument) argument
