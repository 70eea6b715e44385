-- What one call of a reader of lines takes of known bytes, and lines one after another.
use Rattle.std.proofs.Common.{◌≡◌, ℕ, List, [], ◌∷◌, ◌++◌, ap, sym, ◌∙◌, Ok, Err, Option, Some, None, append_assoc}
use Rattle.std.specs.Io.KnownBytes.{Appends, Keeps}
use Rattle.std.proofs.KnownBytes.{Appends-nil}
use Rattle.mt_lines.specs.declared.line.ReadFault.TheVariants.{Endless as NeverEnds}
use Rattle.mt_lines.specs.Lines.{Item, Unended, Endless, lines_of}
use Rattle.mt_lines.specs.declared.line.Line.{Line}
use Rattle.mt_lines.specs.declared.line.Line.TheVariants.{Unended as BrokenLine, End as NoLine}
use Rattle.mt_lines.specs.Reading.{IsNextKnown, PassLines}
use Rattle.mt_lines.proofs.PassLaws.{lines_of-nil}
use Rattle.mt_lines.proofs.StreamLaws.{kept_appended}
use Rattle.mt_session.specs.declared.serving.End.{End}
use Rattle.mt_session.specs.declared.serving.End.TheVariants.{Input, Read}
use Rattle.mt_session.specs.Session.{EndsInput, line_limit}

pub pass_broken : (before after : Option (List ℕ)) (bytes : List ℕ) → IsNextKnown line_limit before (Ok BrokenLine) bytes after → PassLines line_limit before (Unended ∷ []) after × EndsInput Input before (Unended ∷ [])
pass_broken None after bytes n = (tt, tt)
pass_broken (Some xs) None bytes n = absurd n
pass_broken (Some xs) (Some ys) bytes n = (n.0 ∙ ap (λ (l : List Item). Unended ∷ l) (sym (ap (lines_of line_limit) n.1 ∙ lines_of-nil line_limit)), n.0)

pub pass_end : (before after : Option (List ℕ)) (bytes : List ℕ) → IsNextKnown line_limit before (Ok NoLine) bytes after → PassLines line_limit before [] after × EndsInput Input before []
pass_end None after bytes n = (tt, tt)
pass_end (Some xs) None bytes n = absurd n
pass_end (Some xs) (Some ys) bytes n = (n.0 ∙ sym (ap (lines_of line_limit) n.1 ∙ lines_of-nil line_limit), n.0)

-- the reader failed
pub pass_endless : (before after : Option (List ℕ)) (kept : List ℕ) → IsNextKnown line_limit before (Err NeverEnds) kept after → EndsInput (Read NeverEnds) before []
pass_endless None after kept n = tt
pass_endless (Some xs) None kept n = absurd n
pass_endless (Some xs) (Some ys) kept n = n

-- how the input ends after these lines is how it ends after more of them
pub input_more : (by : End) (a b : Option (List ℕ)) (xs ys : List Item) → PassLines line_limit a xs b → EndsInput by b ys → EndsInput by a (xs ++ ys)
input_more Input None b xs ys first second = tt
input_more Input (Some ps) None xs ys first second = absurd first
input_more Input (Some ps) (Some qs) xs ys first second = first ∙ ap (λ (l : List Item). xs ++ l) second
input_more (Read NeverEnds) None b xs ys first second = tt
input_more (Read NeverEnds) (Some ps) None xs ys first second = absurd first
input_more (Read NeverEnds) (Some ps) (Some qs) xs ys first second =
    (second.0, first ∙ ap (λ (l : List Item). xs ++ l) second.1 ∙ sym (append_assoc xs ys (Endless ∷ second.0)))
input_more by a b xs ys first second = tt

-- bytes that were kept grew by none
pub kept_nothing : (a b : Option (List ℕ)) → Keeps a b → Appends a b []
kept_nothing a b kept = kept_appended a b b [] kept (Appends-nil b)
