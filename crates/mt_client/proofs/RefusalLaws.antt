-- The line of each refusal is read as one.
use Rattle.std.proofs.Common.{◌≡◌, ◌∷◌, [], ◌++◌, codes, is_some, refl, ap, ◌∙◌}
use Rattle.mt_lines.specs.Words.{words}
use Rattle.mt_skel.specs.Fault.{name_of}
use Rattle.mt_skel.specs.declared.fault.Fault.{Fault}
use Rattle.mt_skel.specs.declared.fault.Fault.TheVariants.{BadLine}
use Rattle.mt_protocol.proofs.NameLaws.{refusal_read}
use Rattle.mt_client.specs.Requests.{refuses}
use Rattle.mt_client.specs.Laws.{RefusalsAreRead}

-- the words of the line of a refusal: `no` and its name; the last line stands for all others, one by one
words_are : (fault : Fault) → words (codes "no " ++ name_of fault) ≡ codes "no" ∷ name_of fault ∷ []
words_are BadLine = refl
words_are fault = refl

pub refusals_read : RefusalsAreRead
refusals_read fault = ap refuses (words_are fault) ∙ ap is_some (refusal_read fault)
