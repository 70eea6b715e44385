use Rattle.std.proofs.Common.{◌+◌, ◌++◌, take, drop, ◌∙◌, ap}
use Rattle.mt_terminal.specs.Terminal.{piece_text, text_by}
use Rattle.mt_terminal.proofs.StepLaws.{text_step}
use Rattle.mt_terminal.proofs.terminal.terminal_text.Goals as goal

pub bytes-preserved : goal.bytes-preserved
bytes-preserved c =
    let next = drop (c.bytes._byte-index + 1) c.args.bytes.now in
    let size = c.decode-character.result.1 in
    ap (λ t. t ++ text_by piece_text next c.split_at.result.1.now) c.in_ok-push_piece.ensures
    ∙ ap (λ p. (c.bytes.text.items ++ piece_text c.decode-character.result.0 p) ++ text_by piece_text next c.split_at.result.1.now) c.split_at.ensures.front
    ∙ ap (λ b. (c.bytes.text.items ++ piece_text c.decode-character.result.0 (take size c.bytes.rest.now)) ++ text_by piece_text next b) c.split_at.ensures.back
    ∙ text_step piece_text c.bytes.text.items c.args.bytes.now c.bytes.rest.now c.bytes._byte-index size c.decode-character.result.0 c.bytes-test.true c.decode-character.ensures.char c.decode-character.ensures.size
    ∙ c.bytes.invariant
