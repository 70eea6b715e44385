-- The example of each verb is read as a request of it.
use Rattle.std.proofs.Common.{refl}
use Rattle.mt_skel.specs.Escapes.{unescaped}
use Rattle.mt_lines.specs.Words.{number_in_text}
use Rattle.mt_protocol.specs.Verbs.{verb_of}
use Rattle.mt_protocol.specs.declared.verb.Verb.TheVariants.{Mkfs}
use Rattle.mt_requests.specs.Requests.{request_of}
use Rattle.mt_help.specs.Laws.{ExamplesAreRead}

-- the second line stands for all other verbs, one by one
pub example_read : ExamplesAreRead
unfolding request_of verb_of number_in_text unescaped
example_read Mkfs = refl
example_read verb = refl
