use Rattle.std.proofs.Common.{◌≡◌, ◌++◌, map, drop}
use Rattle.mt_trace.specs.Telling.{notes_text}
use Rattle.mt_trace.proofs.written.push_notes.Given as goal

-- the notes appended, and those to come
abbrev pub invariant-notes : goal.invariant-notes
invariant-notes l =
    l.line.items ++ notes_text (map (λ note. note.items) (drop l.note-index l.notes)) ≡ l.initial.line.items ++ notes_text (map (λ note. note.items) l.notes)
