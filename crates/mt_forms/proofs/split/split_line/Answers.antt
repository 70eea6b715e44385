use Rattle.std.proofs.Common.{ℕ, ◌<◌, ◌+◌, List, length, drop, Option, Some, None, cond, ap, sym, ◌∙◌, arith}
use Rattle.std.specs.Prelude.{fold}
use Rattle.std.proofs.lemmas.List.{at_drop_more}
use Rattle.mt_forms.specs.declared.split.Before.{Before}
use Rattle.mt_forms.specs.Splitting.{next_byte}
use Rattle.mt_forms.proofs.SplitLaws.{byte_told, text_split}
use Rattle.mt_forms.proofs.split.split_line.Goals as goal

pub loop-byte-preserved : goal.loop-byte-preserved
loop-byte-preserved c =
    let within : c.loop-byte.byte-index < length c.args.line.now = omega arith in
    record {
      state =
          ap (λ (s : Before). fold next_byte s (drop (c.loop-byte.byte-index + 1) c.args.line.now)) c.next_byte-before.ensures
          ∙ sym (at_drop_more (fold next_byte c.loop-byte.before) c.args.line.now c.loop-byte.byte-index 0 within)
          ∙ c.loop-byte.invariant.state;
      told =
          byte_told c.args.line.now c.loop-byte.byte-index _ _ _ _ within c.next_byte-before.ensures c.in_ok-push_byte.ensures
          ∙ c.loop-byte.invariant.told;
    }

pub returns-then-is_closed : goal.returns-then-is_closed
returns-then-is_closed c =
    ap (λ is_last. cond {A = Option (List ℕ)} is_last (Some c.loop-byte.text.items) None) (sym c.if-is_closed.true ∙ c.is_closed.ensures)
    ∙ text_split c.args.line.now _ _ _ c.loop-byte-test.false c.loop-byte.invariant.state c.loop-byte.invariant.told

pub returns-else-is_closed : goal.returns-else-is_closed
returns-else-is_closed c =
    ap (λ is_last. cond {A = Option (List ℕ)} is_last (Some c.loop-byte.text.items) None) (sym c.if-is_closed.false ∙ c.is_closed.ensures)
    ∙ text_split c.args.line.now _ _ _ c.loop-byte-test.false c.loop-byte.invariant.state c.loop-byte.invariant.told
