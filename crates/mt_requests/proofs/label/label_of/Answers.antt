use Rattle.std.proofs.Common.{◌≡◌, ◌∙◌, List, [], ℕ, Option, IfOk, sym, ap, subst}
use Rattle.std.specs.Prelude.{unwrap_or}
use Rattle.std.proofs.lemmas.Bool.{false≢true}
use Rattle.mt_skel.proofs.EscapeLaws.{bare_unescaped}
use Rattle.mt_requests.proofs.TextLaws.{good_label}
use Rattle.mt_requests.proofs.label.label_of.Goals as goal

pub of-requires : goal.of-requires
of-requires c = good_label c.args.word.now c.args.word.now c.requires (bare_unescaped c.args.word.now (sym c.has_byte.ensures ∙ c.if-not-has_byte.true))

pub returns-then-not-has_byte-clause-label : goal.returns-then-not-has_byte-clause-label
returns-then-not-has_byte-clause-label c =
    let word = c.args.word.now in
    let same = ap (λ (o : Option (List ℕ)). unwrap_or o []) (bare_unescaped word (sym c.has_byte.ensures ∙ c.if-not-has_byte.true)) in
    subst (λ (bytes : List ℕ). IfOk c.of.result (λ label. label ≡ bytes)) (sym same) c.of.ensures.label

pub unreachable-requires : goal.unreachable-requires
unreachable-requires c =
    false≢true (c.in-Err.ensures.valid.1 (good_label c.args.word.now c.in_ok-bytes.bytes.items c.requires c.in_ok-bytes.ensures.bytes))
