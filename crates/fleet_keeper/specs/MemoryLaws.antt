-- The laws of a keeper in memory.
use Rattle.std.proofs.Common.{◌≡◌, inl, inr, ℕ, ◌≤◌, Bool, true, false, not, if◌then◌else◌, List, [], ◌∷◌, length, Option, Some, refl, arith}
use Rattle.core_spec.specs.record_spec.declared.store.StoreRecord.{StoreRecord}
use Rattle.store_records.specs.Reading.{store_at}
use Rattle.fleet_keeper.specs.declared.step.Step.{Step}
use Rattle.fleet_keeper.specs.Records.{AllAre, read_all}
use Rattle.fleet_keeper.specs.Memory.{frames_after, StepImages, StepsSince, is_torn}

abbrev RecordsAfter : List Step → Option (List StoreRecord)
RecordsAfter steps = read_all store_at (frames_after steps)

pub one_step_image : (steps : List Step) → is_torn steps ≡ false → AllAre (StepImages steps) (RecordsAfter steps)
one_step_image [] whole o is = is
one_step_image (step ∷ earlier) whole o (inl is) = is
one_step_image (step ∷ earlier) whole o (inr torn) = absurd cc

pub kept_step_image : (steps : List Step) → StepImages steps (RecordsAfter steps)
kept_step_image [] = refl
kept_step_image (step ∷ earlier) = inl refl

pub since_now : (t : ℕ) (steps : List Step) (o : Option (List StoreRecord)) → StepImages steps o → StepsSince t steps o
since_now t [] o now = now
since_now t (step ∷ earlier) o now = inl now

pub now_only : (steps : List Step) (o : Option (List StoreRecord)) → StepsSince (length steps) steps o → StepImages steps o
now_only [] o now = now
now_only (step ∷ earlier) o (inl now) = now
now_only (step ∷ earlier) o (inr was) = absurd (omega (arith, was.0))
