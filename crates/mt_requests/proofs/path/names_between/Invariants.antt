use Rattle.std.proofs.Common.{◌≡◌, ◌++◌, map, length, true}
use Rattle.std.specs.List.{list_all}
use Rattle.mt_lines.specs.Words.{pieces}
use Rattle.mt_requests.specs.Requests.{label_bytes}
use Rattle.mt_requests.proofs.PathLaws.{is_name_word}
use Rattle.mt_requests.proofs.path.names_between.Given as goal

abbrev pub invariant-loop-piece : goal.invariant-loop-piece
invariant-loop-piece l = record {
  good : list_all is_name_word l.pieces ≡ true;
  made : l.names ++ map label_bytes l.pieces ≡ map label_bytes (pieces 47 l.text);
}

abbrev pub decreases-loop-piece : goal.decreases-loop-piece
decreases-loop-piece l = length l.pieces
