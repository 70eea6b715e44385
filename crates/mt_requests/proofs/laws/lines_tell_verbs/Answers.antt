use Rattle.mt_requests.proofs.CountLaws.{lines_tell}
use Rattle.mt_requests.proofs.laws.lines_tell_verbs.Goals as goal

pub returns : goal.returns
returns c = lines_tell
