-- The bytes of an answer. No public clause cites this module.
-- A word with no source is this project's rule.
use Rattle.std.specs.Prelude.{ℕ, List}
use Rattle.mt_session.specs.declared.text.Body.{Body}
use Rattle.mt_session.specs.declared.text.Body.TheVariants.{Short, Long}

abbrev pub body_bytes : Body → List ℕ
body_bytes (Short bytes) = bytes.items
body_bytes (Long bytes) = bytes.items
