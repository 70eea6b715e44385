use Rattle.std.proofs.lemmas.Result.{IfErr-weaker}
use Rattle.mt_client.proofs.relay.print_text.Goals as goal

pub returns-clause-kind : goal.returns-clause-kind
returns-clause-kind g c = IfErr-weaker c.print.result _ _ (λ f p. p.0) c.print.ensures.part
