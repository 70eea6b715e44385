-- What one call of a stream gives, takes and counts, and what the streams in memory hold.
-- A word with no source is this project's rule.
use Rattle.std.specs.Prelude.{◌≡◌, ℕ, ◌-◌, ◌<◌, suc, zero, min, List, [], ◌∷◌, length, replicate, Result, Ok, Err, Bool}
use Rattle.mt_lines.specs.declared.stream.StreamFault.{StreamFault}
use Rattle.mt_lines.specs.declared.stream.StreamFault.TheVariants.{Interrupted, Failed}
use Rattle.mt_lines.specs.declared.stream.Reading.{Reading}
use Rattle.mt_lines.specs.declared.stream.Writing.{Writing}
use Rattle.mt_lines.specs.declared.memory.Portions.{Portions}
use Rattle.mt_lines.specs.declared.memory.Faulty.{Faulty}
use Rattle.mt_lines.specs.declared.memory.Faltering.{Faltering}
use Rattle.mt_lines.specs.declared.memory.Sink.{Sink}

-- 1 for a failed write, by this project's rule one that answers a fault or takes nothing where there is
-- something, and otherwise 0
abbrev pub failed_writes : List ℕ → Result ℕ StreamFault → ℕ
failed_writes bytes (Ok zero) = min (length bytes) 1
failed_writes bytes (Ok (suc n)) = 0
failed_writes bytes (Err e) = 1

-- 1 for a failed read, one that answers a fault, and otherwise 0
abbrev pub failed_reads : Result ℕ StreamFault → ℕ
failed_reads (Ok n) = 0
failed_reads (Err e) = 1

-- the faults of a stream's last calls, the latest first, back to the last call that succeeded: after a
-- read that gave bytes, or was at the end of the input, there are none
abbrev pub faults_after_read : List StreamFault → Result ℕ StreamFault → List StreamFault
faults_after_read faults (Ok n) = []
faults_after_read faults (Err e) = e ∷ faults

-- the same after a write that took none of these bytes: it has failed unless there are none
abbrev pub faults_after_none : List ℕ → List StreamFault → List StreamFault
faults_after_none [] faults = []
faults_after_none (b ∷ bytes) faults = Failed ∷ faults

-- the same after a write of these bytes
abbrev pub faults_after_write : List ℕ → List StreamFault → Result ℕ StreamFault → List StreamFault
faults_after_write bytes faults (Ok zero) = faults_after_none bytes faults
faults_after_write bytes faults (Ok (suc n)) = []
faults_after_write bytes faults (Err e) = e ∷ faults

-- how many interruptions in succession end a read or a send, by this project's rule
abbrev pub most_interruptions : ℕ
most_interruptions = 1000

-- this many interruptions in succession
abbrev pub interruptions : ℕ → List StreamFault
interruptions n = replicate n Interrupted

-- the last call failed, after fewer interruptions in succession than end a read or a send
abbrev pub HasFailed : List StreamFault → Type 0
HasFailed faults = (n : ℕ) × (n < most_interruptions) × (faults ≡ Failed ∷ interruptions n)

-- the last calls were interrupted, as many in succession as end a read or a send
abbrev pub IsInterrupted : List StreamFault → Type 0
IsInterrupted faults = faults ≡ interruptions most_interruptions

-- the reader of the standard library that an input reads
abbrev pub reading_inner : {R : Type 0} → Reading R → R
reading_inner r = r.inner

-- the writer of the standard library that an output writes to
abbrev pub writing_inner : {W : Type 0} → Writing W → W
writing_inner w = w.inner

-- a flush of it has failed
abbrev pub is_broken : {W : Type 0} → Writing W → Bool
is_broken w = w.is_broken

-- how many bytes a read of bytes in memory gives: as many as are left, fit the buffer and may go in
-- one call
abbrev pub portion_size : List ℕ → ℕ → ℕ → ℕ
portion_size left room most = min (min (length left) room) most

-- the bytes that are still to be read of bytes in memory
abbrev pub portions_left : Portions → List ℕ
portions_left p = p.bytes.now

-- the most bytes that one read of bytes in memory gives
abbrev pub portions_most : Portions → ℕ
portions_most p = p.most

-- the bytes that are still to be read of a reader that fails
abbrev pub faulty_left : Faulty → List ℕ
faulty_left f = f.portions.bytes.now

-- the most bytes that one read of a reader that fails gives
abbrev pub faulty_most : Faulty → ℕ
faulty_most f = f.portions.most

-- how many reads are served before the first that fails
abbrev pub faulty_before : Faulty → ℕ
faulty_before f = f.before

-- how many reads are still to fail
abbrev pub faulty_pending : Faulty → ℕ
faulty_pending f = f.pending

-- how many reads have failed
abbrev pub faulty_failed : Faulty → ℕ
faulty_failed f = f.times - f.pending

-- the faults of the last reads, back to the last that was served
abbrev pub faulty_faults : Faulty → List StreamFault
faulty_faults f = replicate f.run f.fault

-- what a read that fails answers
abbrev pub faulty_fault : Faulty → StreamFault
faulty_fault f = f.fault

-- how many writes are still to fail
abbrev pub faltering_pending : Faltering → ℕ
faltering_pending f = f.pending

-- how many writes have failed
abbrev pub faltering_failed : Faltering → ℕ
faltering_failed f = f.times - f.pending

-- the faults of the last writes, back to the last that was served
abbrev pub faltering_faults : Faltering → List StreamFault
faltering_faults f = replicate f.run f.fault

-- what a write that fails answers
abbrev pub faltering_fault : Faltering → StreamFault
faltering_fault f = f.fault

-- the bytes that a sink has taken, the first one first
abbrev pub sink_bytes : Sink → List ℕ
sink_bytes s = s.kept.items

-- the most bytes that one write to a sink takes
abbrev pub sink_most : Sink → ℕ
sink_most s = s.most

-- how many bytes a sink takes in all
abbrev pub sink_room : Sink → ℕ
sink_room s = s.room
