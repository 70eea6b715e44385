-- Lines of known bytes, one after another, and the line that one call of a reader takes.
use Rattle.std.proofs.Common.{◌≡◌, ◌∙◌, ap, sym, refl, ℕ, List, [], ◌∷◌, ◌++◌, append_assoc, Ok, Option, None, Some}
use Rattle.mt_lines.specs.Lines.{Item, Text, TooLong, lines_of}
use Rattle.mt_lines.specs.Reading.{IsNextKnown, PassLines}
use Rattle.mt_lines.specs.declared.line.Line.TheVariants.{Text as TextLine, TooLong as LongLine}

-- no bytes are no lines
pub lines_of-nil : (limit : ℕ) → lines_of limit [] ≡ []
unfolding lines_of
lines_of-nil limit = refl

-- before a line is read
pub pass_none : (limit : ℕ) (a : Option (List ℕ)) → PassLines limit a [] a
pass_none limit None = tt
pass_none limit (Some xs) = refl

-- lines, and then more
pub pass_more : (limit : ℕ) (a b c : Option (List ℕ)) (xs ys : List Item) → PassLines limit a xs b → PassLines limit b ys c → PassLines limit a (xs ++ ys) c
pass_more limit None b c xs ys first second = tt
pass_more limit (Some ps) None c xs ys first second = absurd first
pass_more limit (Some ps) (Some qs) None xs ys first second = absurd second
pass_more limit (Some ps) (Some qs) (Some rs) xs ys first second = first ∙ ap (λ (l : List Item). xs ++ l) second ∙ sym (append_assoc xs ys (lines_of limit rs))

-- a call that answered a text took it
pub pass_text : (limit : ℕ) (a b : Option (List ℕ)) (text : List ℕ) → IsNextKnown limit a (Ok TextLine) text b → PassLines limit a (Text text ∷ []) b
pass_text limit None b text n = tt
pass_text limit (Some xs) None text n = absurd n
pass_text limit (Some xs) (Some ys) text n = n

-- a call that answered an overlong line took it
pub pass_long : (limit : ℕ) (a b : Option (List ℕ)) (text : List ℕ) → IsNextKnown limit a (Ok LongLine) text b → PassLines limit a (TooLong ∷ []) b
pass_long limit None b text n = tt
pass_long limit (Some xs) None text n = absurd n
pass_long limit (Some xs) (Some ys) text n = n
