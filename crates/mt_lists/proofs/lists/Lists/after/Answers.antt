use Rattle.std.proofs.Common.{ap, sym, ◌∙◌}
use Rattle.mt_lists.specs.Lists.{next_of}
use Rattle.mt_lists.proofs.TiedLaws.{table-after}
use Rattle.mt_lists.proofs.lists.Lists.after.Goals as goal

pub returns-in_err-after_of : goal.returns-in_err-after_of
returns-in_err-after_of c = c.from_residual.ensures ∙ sym c.in_err-after_of.was ∙ c.after_of.ensures ∙ table-after c.self.inside.entries c.self.inside.tops c.self.invariant c.args.id ∙ ap (λ s. next_of s.rows c.args.id) c.self.view_is

pub returns : goal.returns
returns c = sym c.in_ok-after_of.was ∙ c.after_of.ensures ∙ table-after c.self.inside.entries c.self.inside.tops c.self.invariant c.args.id ∙ ap (λ s. next_of s.rows c.args.id) c.self.view_is
