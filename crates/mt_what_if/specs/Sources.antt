-- Which filesystem a source is of.
-- A word with no source is this project's rule.
use Rattle.std.specs.Prelude.{ℕ, Bool, nat_eq, if◌then◌else◌, List, [], ◌∷◌, Option, None, unwrap_or}
use Rattle.std.specs.List.{find, list_any}
use Rattle.std.specs.Option.{option_map, option_or}
use Rattle.std.specs.Str.{bytes_eq}
use Rattle.mt_import.specs.Reading.{ToldMount}
use Rattle.mt_questions.specs.Seeing.{text_in}
use Rattle.mt_questions.specs.Tables.{ToldTable}

-- a row tells this source
abbrev pub has_source : List ℕ → ToldMount → Bool
has_source source m = bytes_eq (text_in m.source) source

-- the device of the first row that tells it
abbrev pub device_told : List ℕ → List ToldMount → Option (List ℕ)
device_told source rows = option_map (λ (m : ToldMount). m.device) (find (has_source source) rows)

abbrev pub device_of : List ℕ → List ToldTable → Option (List ℕ)
device_of source [] = None
device_of source (t ∷ tables) = option_or (device_told source t.rows) (device_of source tables)

-- a source with a slash is that of one filesystem alone, which goes by its device where a table has it; any other one is its own name
abbrev pub has_slash : List ℕ → Bool
has_slash source = list_any (nat_eq 47) source

abbrev pub filesystem_of : List ℕ → List ToldTable → List ℕ
filesystem_of source tables = if has_slash source then unwrap_or (device_of source tables) source else source
