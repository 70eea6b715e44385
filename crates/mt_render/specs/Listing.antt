-- A namespace in a list of namespaces: in words, or as JSON, an object a line (RFC 8259).
-- A word with no source is this project's rule.
use Rattle.std.specs.Prelude.{ℕ, ◌==◌, cond, List, ◌++◌, codes, decimal}
use Rattle.serde_json.specs.Data.{object, Members, no_members, put}
use Rattle.mt_terminal.specs.Terminal.{terminal_text}
use Rattle.mt_render.specs.Named.{name_words}
use Rattle.mt_render.specs.Members.{number_data, with_name}
use Rattle.mt_render.specs.Objects.{value_line}
use Rattle.mt_render.specs.declared.telling.Telling.{Telling}
use Rattle.mt_render.specs.declared.telling.Telling.TheVariants.{Words, Json}

-- its number, its name, if it has one, and how many mounts it has
abbrev pub counted_words : ℕ → List ℕ → ℕ → List ℕ
counted_words space name mounts =
    codes "namespace " ++ (decimal space ++ (terminal_text (name_words name) ++ (codes ": " ++ (decimal mounts ++ cond (mounts == 1) (codes " mount\n") (codes " mounts\n")))))

abbrev pub space_members : ℕ → List ℕ → ℕ → Members
space_members space name mounts = put (codes "mounts") (number_data mounts) (with_name name (put (codes "namespace") (number_data space) no_members))

unfoldable pub space_line : Telling → ℕ → List ℕ → ℕ → List ℕ
space_line Words space name mounts = counted_words space name mounts
space_line Json space name mounts = value_line (object (space_members space name mounts))
