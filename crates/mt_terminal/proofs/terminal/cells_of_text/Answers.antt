use Rattle.std.proofs.Common.{◌+◌, drop, ◌∙◌, ap, arith}
use Rattle.mt_terminal.specs.Terminal.{character_cells, cells_by}
use Rattle.mt_terminal.proofs.StepLaws.{cells_step}
use Rattle.mt_terminal.proofs.terminal.cells_of_text.Goals as goal

pub bytes-preserved : goal.bytes-preserved
bytes-preserved c =
    let next = drop (c.bytes._byte-index + 1) c.args.text.now in (
      ap (λ n. (c.bytes.count + n) + cells_by next c.split_at.result.1.now) c.character_cells-count.ensures.0
          ∙ ap (λ b. (c.bytes.count + character_cells c.decode-character.result.0) + cells_by next b) c.split_at.ensures.back
          ∙ cells_step c.args.text.now c.bytes.rest.now c.bytes.count c.bytes._byte-index c.decode-character.result.1 c.decode-character.result.0 c.bytes-test.true c.decode-character.ensures.char c.decode-character.ensures.size
          ∙ c.bytes.invariant.0,
      omega (arith, c.bytes.invariant.1, c.character_cells-count.ensures.1),
    )
