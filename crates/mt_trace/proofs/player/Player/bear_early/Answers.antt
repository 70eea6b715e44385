use Rattle.std.proofs.lemmas.Result.{on_ok_weaker}
use Rattle.mt_trace.proofs.TellingLaws.{call_appended}
use Rattle.mt_trace.proofs.player.Player.bear_early.Goals as goal

pub returns-clause-text : goal.returns-clause-text
returns-clause-text c = on_ok_weaker c.play_birth.result (call_appended _ _ _ _ _ _) c.play_birth.ensures.text
