use Rattle.std.proofs.Common.{◌≡◌, ◌≤◌, [], length, get_or, sym, ap, subst, ◌∙◌}
use Rattle.mt_strace.specs.Cuts.{until_byte}
use Rattle.mt_strace.proofs.CutLaws.{until_shorter}
use Rattle.mt_strace.proofs.cut.until_byte.Goals as goal

pub returns-in-Some-clause-bound : goal.returns-in-Some-clause-bound
returns-in-Some-clause-bound c =
    let is : until_byte c.args.separator c.args.text.now ≡ c.in-Some.piece.now = ap (λ ps. get_or ps 0 []) (sym c.new.ensures ∙ c.in-Some.ensures.steps) in
    subst (λ w. length w ≤ length c.args.text.now) is (until_shorter c.args.separator c.args.text.now)
