use Rattle.std.proofs.Common.{◌≡◌, ◌∙◌, List, ℕ, IfOk, sym, subst}
use Rattle.mt_requests.proofs.PathLaws.{bare_valid, bare_names}
use Rattle.mt_requests.proofs.path.names_between.Goals as goal

pub between-requires : goal.between-requires
between-requires c =
    record { names = sym (bare_valid c.args.text.now (sym c.has_byte.ensures ∙ c.if-not-has_byte.true)) ∙ c.requires }

pub returns-then-not-has_byte-clause-names : goal.returns-then-not-has_byte-clause-names
returns-then-not-has_byte-clause-names c =
    subst (λ (names : List (List ℕ)). IfOk c.between.result (λ made. made ≡ names)) (sym (bare_names c.args.text.now (sym c.has_byte.ensures ∙ c.if-not-has_byte.true)))
    c.between.ensures.names
