use Rattle.mt_requests.proofs.PrintLaws.{read_back}
use Rattle.mt_requests.proofs.laws.commands_are_read_back.Goals as goal

pub returns : goal.returns
returns c = read_back
