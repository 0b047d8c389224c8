-- What contracts see of a keeper in memory, computed from its steps, newest first.
use Rattle.std.specs.Prelude.{◌≡◌, ◌⊎◌, ℕ, ◌+◌, ◌≤◌, Bool, true, false, not, if◌then◌else◌, List, [], ◌∷◌, ◌++◌, length, reverse, Option, Some}
use Rattle.port_memory.specs.Calls.{is_listed, next}
use Rattle.core_spec.specs.record_spec.declared.store.StoreRecord.{StoreRecord}
use Rattle.store_records.specs.Reading.{store_at}
use Rattle.fleet_keeper.specs.declared.kept.Kept.{Kept}
use Rattle.fleet_keeper.specs.declared.kept.Kept.TheVariants as kept
use Rattle.fleet_keeper.specs.declared.step.Step.{Step}
use Rattle.fleet_keeper.specs.declared.memory.MemoryKeeper.{MemoryKeeper}
use Rattle.fleet_keeper.specs.Records.{read_all}

-- the frames after one more step
abbrev pub stepped : Step → List (List ℕ) → List (List ℕ)
stepped step frames = if step.fresh then step.frames else frames ++ step.frames

-- the frames after these steps
abbrev pub frames_after : List Step → List (List ℕ)
frames_after [] = []
frames_after (step ∷ earlier) = if step.done then stepped step (frames_after earlier) else frames_after earlier

-- What a crash may leave: the records after the steps. If the last step wasn't done, it may also leave the records with it.
abbrev pub StepImages : List Step → Option (List StoreRecord) → Type 0
StepImages [] o = o ≡ Some []
StepImages (step ∷ earlier) o =
    (o ≡ read_all store_at (frames_after (step ∷ earlier))) ⊎ ((step.done ≡ false) × (o ≡ read_all store_at (stepped step (frames_after earlier))))

-- what a crash may leave, or may have left at a moment from t on
abbrev pub StepsSince : ℕ → List Step → Option (List StoreRecord) → Type 0
StepsSince t [] o = StepImages [] o
StepsSince t (step ∷ earlier) o = StepImages (step ∷ earlier) o ⊎ ((t ≤ length earlier) × StepsSince t earlier o)

-- whether the last step wasn't done
abbrev pub is_torn : List Step → Bool
is_torn [] = false
is_torn (step ∷ earlier) = not step.done

-- ---- the keeper

abbrev pub steps_of : MemoryKeeper → List Step
steps_of k = reverse k.steps

abbrev pub memory_records : MemoryKeeper → Option (List StoreRecord)
memory_records k = read_all store_at (frames_after (steps_of k))

abbrev pub memory_images : MemoryKeeper → Option (List StoreRecord) → Type 0
memory_images k = StepImages (steps_of k)

-- the moment: the number of steps, and 0 for the second file
abbrev pub memory_moment : MemoryKeeper → ℕ × ℕ
memory_moment k = (length (steps_of k), 0)

abbrev pub memory_since : MemoryKeeper → ℕ × ℕ → Option (List StoreRecord) → Type 0
memory_since k t = StepsSince t.0 (steps_of k)

abbrev pub memory_down : MemoryKeeper → Bool
memory_down k = k.down

pub record IsUp (k : MemoryKeeper) : Type 0 where
  pub up : k.down ≡ false
  pub whole : is_torn (reverse k.steps) ≡ false

-- the bytes that a log of the records would have
abbrev pub memory_size : MemoryKeeper → ℕ
memory_size k = k.size

abbrev pub memory_generation : MemoryKeeper → ℕ
memory_generation k = k.generation

abbrev pub memory_faults : MemoryKeeper → ℕ
memory_faults k = k.faults

-- the numbers of the calls that fail
abbrev pub fails_of : MemoryKeeper → List ℕ
fails_of k = k.fail

abbrev pub calls_of : MemoryKeeper → ℕ
calls_of k = k.calls

-- the answer of the next call that finds memory and room; the call after it is its repair
abbrev pub fate_of : List ℕ → ℕ → Kept
fate_of fail calls =
    if is_listed fail (next calls) then (if is_listed fail (next (next calls)) then kept.Down else kept.Failed) else kept.Ok

-- the number of calls after one with this answer
abbrev pub calls_after : Kept → ℕ → ℕ
calls_after kept.Ok calls = next calls
calls_after kept.Failed calls = next (next calls)
calls_after kept.Down calls = next (next calls)
calls_after kept.Memory calls = calls
calls_after kept.Spent calls = calls

-- the fault count after a call with this answer
abbrev pub faults_after : Kept → ℕ → ℕ
faults_after kept.Ok faults = faults
faults_after kept.Failed faults = next faults
faults_after kept.Down faults = next (next faults)
faults_after kept.Memory faults = faults
faults_after kept.Spent faults = faults

abbrev pub HasFate : Kept → Kept → Type 0
HasFate kept.Ok fate = fate ≡ kept.Ok
HasFate kept.Failed fate = fate ≡ kept.Failed
HasFate kept.Down fate = fate ≡ kept.Down
HasFate kept.Memory fate = Unit {0}
HasFate kept.Spent fate = Unit {0}

-- A call fails exactly if its number is listed. Its repair fails exactly if the next number is listed.
pub record IsNumbered (old new : MemoryKeeper) (result : Kept) : Type 0 where
  pub fate : HasFate result (fate_of (fails_of old) (calls_of old))
  pub calls : calls_of new ≡ calls_after result (calls_of old)
  pub faults : memory_faults new ≡ faults_after result (memory_faults old)
  pub fails : fails_of new ≡ fails_of old

-- the steps after a call with this answer
abbrev pub steps_after : Kept → List (List ℕ) → Bool → List Step → List Step
steps_after kept.Ok frames fresh steps = record { frames = frames; fresh = fresh; done = true } ∷ steps
steps_after kept.Failed frames fresh steps = steps
steps_after kept.Down frames fresh steps = record { frames = frames; fresh = fresh; done = false } ∷ steps
steps_after kept.Memory frames fresh steps = steps
steps_after kept.Spent frames fresh steps = steps
