-- What the table of lines says of a verb.
-- A word with no source is this project's rule.
use Rattle.std.specs.Prelude.{ℕ, Bool, List}
use Rattle.mt_skel.specs.declared.fault.Fault.{Fault}
use Rattle.mt_protocol.specs.declared.argument.Argument.{Argument}
use Rattle.mt_protocol.specs.declared.form.Form.{Form}

-- the word of a verb, what the words behind it are, which lines answer it, whether it changes tables, what it may be refused as, and an example
pub record VerbRow : Type 0 where
  pub word : List ℕ
  pub arguments : List Argument
  pub form : Form
  pub command : Bool
  pub refusals : List Fault
  pub example : List ℕ
