use Rattle.std.proofs.Common.{sym, ◌∙◌}
use Rattle.mt_requests.proofs.PathLaws.{no_names, good_names, made_names}
use Rattle.mt_requests.proofs.path.path_of.Goals as goal

pub returns-then-word-eq1-clause-names : goal.returns-then-word-eq1-clause-names
returns-then-word-eq1-clause-names c =
    c.root.ensures ∙ sym (no_names c.args.word.now c.requires c.if-word-eq1.true)

pub names_between-requires : goal.names_between-requires
names_between-requires c = good_names c.args.word.now c.requires c.if-word-eq1.false

pub returns-clause-names : goal.returns-clause-names
returns-clause-names c =
    c.in_ok-names.ensures.names ∙ made_names c.args.word.now c.requires c.if-word-eq1.false
