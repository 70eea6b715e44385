use Rattle.std.proofs.Common.{sym, ap, ◌∙◌}
use Rattle.mt_requests.specs.Requests.{is_path}
use Rattle.mt_requests.proofs.PathLaws.{unrooted, root_is, rooted_word, rooted}
use Rattle.mt_requests.proofs.path.is_path.Goals as goal

pub returns-then-word-ne47 : goal.returns-then-word-ne47
returns-then-word-ne47 c = sym (unrooted c.args.word.now c.requires.text c.if-word-ne47.true)

pub returns-then-word-eq1 : goal.returns-then-word-eq1
returns-then-word-eq1 c = sym (ap is_path (root_is c.args.word.now c.requires.text c.if-word-ne47.false c.if-word-eq1.true))

pub returns : goal.returns
returns c =
    let w = c.args.word.now in
    c.has_only_components.ensures ∙ rooted w (rooted_word w c.requires.text c.if-word-ne47.false c.if-word-eq1.false) c.requires.short
