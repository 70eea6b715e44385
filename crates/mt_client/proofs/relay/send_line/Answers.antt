use Rattle.std.proofs.Common.{[], ◌∷◌}
use Rattle.mt_client.proofs.RelayLaws.{on_err, cut_first, cut_second, broken_later}
use Rattle.mt_client.proofs.relay.send_line.Goals as goal

pub returns-in_err-send-clause-part : goal.returns-in_err-send-clause-part
returns-in_err-send-clause-part g c =
    on_err c.from_residual.result (record {
      cause = λ t. record { more = c.in_err-send.ensures.cause t; last = c.in_err-send.ensures.faults t };
      cut = cut_first c.args.line.now (10 ∷ []) _ _ c.in_err-send.field-0.0.sent c.in_err-send.ensures.within c.in_err-send.ensures.appended_part;
    })

pub returns-in_err-send-2-clause-part : goal.returns-in_err-send-2-clause-part
returns-in_err-send-2-clause-part g c =
    on_err c.from_residual-in_err-send-2.result (record {
      cause = λ t. broken_later (c.in_ok-send.ensures.counted t) (c.in_ok-send.ensures.served t) (record { more = c.in_err-send-2.ensures.cause t; last = c.in_err-send-2.ensures.faults t });
      cut = cut_second c.args.line.now (10 ∷ []) _ _ _ c.in_err-send-2.field-0.0.sent c.in_ok-send.ensures.appended c.in_err-send-2.ensures.within c.in_err-send-2.ensures.appended_part;
    })
