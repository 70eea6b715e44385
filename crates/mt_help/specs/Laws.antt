-- What the law of this crate says.
-- A word with no source is this project's rule.
use Rattle.std.specs.Prelude.{◌≡◌, drop, Ok}
use Rattle.mt_lines.specs.Words.{words}
use Rattle.mt_protocol.specs.Verbs.{verb_example}
use Rattle.mt_protocol.specs.declared.verb.Verb.{Verb}
use Rattle.mt_requests.specs.Requests.{request_of, request_with}

-- the example of each verb is read as what its words ask for
abbrev pub ExamplesAreRead : Type 0
ExamplesAreRead = (verb : Verb) → request_of (verb_example verb) ≡ Ok (request_with verb (drop 1 (words (verb_example verb))))
