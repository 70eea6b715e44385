-- What a session reads of its stream and writes to it.
-- A word with no source is this project's rule.
use Rattle.std.specs.Prelude.{ℕ, List, take, Option, Result, MatchResult}
use Rattle.std.specs.Io.KnownBytes.{Consumes, Keeps}
use Rattle.mt_session.specs.declared.patient.Patient.{Patient}
use Rattle.mt_session.specs.declared.patient_writer.PatientWriter.{PatientWriter}

-- the reader that a patient one reads
abbrev pub patient_inner : {Runtime R : Type 0} → Patient Runtime R → R
patient_inner p = p.inner

-- the bytes that are answered are the next ones of the stream, which has lost no others; none may be the end of them, or that the
-- server does not wait any more
abbrev pub ReadsPatiently : {E : Type 0} → Option (List ℕ) → Option (List ℕ) → Result ℕ E → List ℕ → Type 0
ReadsPatiently old new r buffer = MatchResult r (λ n. Consumes old new (take n buffer)) (λ _. Keeps old new)

-- the writer that a patient one writes to
abbrev pub patient_writer_inner : {Runtime W : Type 0} → PatientWriter Runtime W → W
patient_writer_inner p = p.inner
