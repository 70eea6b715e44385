use Rattle.mt_forms.specs.Beginnings.{beginning_of}
use Rattle.mt_forms.proofs.command.beginning_of.Goals as goal

pub returns : goal.returns
unfolding beginning_of
returns c = c.beginning_among.ensures
