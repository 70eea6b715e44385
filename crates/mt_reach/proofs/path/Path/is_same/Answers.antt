use Rattle.std.proofs.Common.{◌≡◌, ◌∙◌, sym, length}
use Rattle.mt_reach.proofs.BeginLaws.{same_names}
use Rattle.mt_reach.proofs.path.Path.is_same.Goals as goal

pub returns-then-len : goal.returns-then-len
returns-then-len c =
    let same : length c.args.self.now ≡ length c.args.other.now = sym c.len.ensures ∙ c.if-len.true ∙ c.len-2.ensures in
    c.starts_with.ensures ∙ same_names c.args.self.now c.args.other.now same
