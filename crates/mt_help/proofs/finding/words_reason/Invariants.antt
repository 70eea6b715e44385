use Rattle.std.proofs.Common.{◌≡◌, true, false, length}
use Rattle.std.specs.List.{list_any}
use Rattle.mt_help.specs.declared.reason.Reason.{Reason}
use Rattle.mt_help.specs.Reasons.{is_empty_word, are_right, IsToldOf}
use Rattle.mt_help.proofs.finding.words_reason.Given as goal

abbrev pub invariant-words : goal.invariant-words
invariant-words l = record {
  right : are_right l.arguments l.words ≡ true → are_right l.initial.arguments l.initial.words ≡ true;
  told : (reason : Reason) → IsToldOf reason l.arguments l.words → IsToldOf reason l.initial.arguments l.initial.words;
  full : list_any is_empty_word l.words ≡ false;
}

abbrev pub decreases-words : goal.decreases-words
decreases-words l = length l.words
