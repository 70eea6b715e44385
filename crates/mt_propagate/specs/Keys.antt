-- Keys as they lie in memory. No public clause cites this module.
-- A word with no source is this project's rule.
use Rattle.std.specs.Prelude.{List, map}
use Rattle.mt_propagate.specs.Groups.{GroupKey}
use Rattle.mt_propagate.specs.declared.keys.Key.{Key}

-- a key as it lies in memory
abbrev pub key_view : Key → GroupKey
key_view k = record { group = k.group; source = k.source }

abbrev pub keys_of : List Key → List GroupKey
keys_of ks = map key_view ks
