-- What the images of a keeper in memory are after a call, and within it.
use Rattle.std.proofs.Common.{◌≡◌, ◌⊎◌, inl, inr, ℕ, ◌≤◌, Bool, true, false, List, [], ◌∷◌, ◌++◌, length, map, Option, Some, arith, refl, ap, ◌∙◌}
use Rattle.std.specs.List.{AllByRecursion}
use Rattle.core_spec.specs.record_spec.declared.store.StoreRecord.{StoreRecord}
use Rattle.core_spec.specs.record_spec.Store.{store_text, IsStoreRecord}
use Rattle.store_records.specs.Reading.{store_at}
use Rattle.fleet_keeper.specs.declared.kept.Kept.{Kept}
use Rattle.fleet_keeper.specs.declared.kept.Kept.TheVariants as kept
use Rattle.fleet_keeper.specs.declared.step.Step.{Step}
use Rattle.fleet_keeper.specs.Kept.{IsRefusal}
use Rattle.fleet_keeper.specs.Records.{AllAre, IsOneOf, read_all, with_one}
use Rattle.fleet_keeper.specs.Memory.{stepped, frames_after, StepImages, StepsSince, is_torn, steps_after}
use Rattle.fleet_keeper.specs.MemoryLaws.{one_step_image, now_only}
use Rattle.fleet_keeper.proofs.Readings.{reads_more}
use Rattle.fleet_keeper.proofs.Spellings.{read_spelt}
use Rattle.store_records.proofs.Records.{store_again}

-- one or another that is the same
pub or_same : {A : Type 0} (old new other : Option A) (o : Option A) → new ≡ other → IsOneOf old new o → IsOneOf old other o
or_same old new other o same (inl is) = inl is
or_same old new other o same (inr is) = inr (is ∙ same)

-- a record more
pub grown : (steps : List Step) (frames : List (List ℕ)) (r : StoreRecord) → IsStoreRecord r → frames ≡ store_text r ∷ [] → read_all store_at (frames_after steps ++ frames) ≡ with_one (read_all store_at (frames_after steps)) r
grown steps frames r fits is = ap (λ (fs : List (List ℕ)). read_all store_at (frames_after steps ++ fs)) is ∙ reads_more store_at (frames_after steps) (store_text r) r (store_again r fits)

-- others in the place of all
pub renewed : (frames : List (List ℕ)) (rs : List StoreRecord) → AllByRecursion IsStoreRecord rs → frames ≡ map store_text rs → read_all store_at frames ≡ Some rs
renewed frames rs fits is = ap (read_all store_at) is ∙ read_spelt store_at store_text IsStoreRecord store_again rs fits

module _ (frames : List (List ℕ)) (fresh : Bool) (steps : List Step) where
  abbrev pub done : Bool → Step
  done b = record { frames = frames; fresh = fresh; done = b }

  abbrev pub Old : Option (List StoreRecord)
  Old = read_all store_at (frames_after steps)

  abbrev pub New : Option (List StoreRecord)
  New = read_all store_at (stepped (done true) (frames_after steps))

  module _ (whole : is_torn steps ≡ false) where
    pub each : (answer : Kept) (o : Option (List StoreRecord)) → StepImages (steps_after answer frames fresh steps) o → IsOneOf Old New o
    each kept.Ok o (inl is) = inr is
    each kept.Ok o (inr torn) = absurd cc
    each kept.Failed o is = inl (one_step_image steps whole o is)
    each kept.Down o (inl is) = inl is
    each kept.Down o (inr torn) = inr torn.1
    each kept.Memory o is = inl (one_step_image steps whole o is)
    each kept.Spent o is = inl (one_step_image steps whole o is)

    before : (o : Option (List StoreRecord)) → StepsSince (length steps) steps o → IsOneOf Old New o
    before o since = inl (one_step_image steps whole o (now_only steps o since))

    pub any_moment : (answer : Kept) (o : Option (List StoreRecord)) → StepsSince (length steps) (steps_after answer frames fresh steps) o → IsOneOf Old New o
    any_moment kept.Ok o (inl now) = each kept.Ok o now
    any_moment kept.Ok o (inr was) = before o was.1
    any_moment kept.Failed o since = before o since
    any_moment kept.Down o (inl now) = each kept.Down o now
    any_moment kept.Down o (inr was) = before o was.1
    any_moment kept.Memory o since = before o since
    any_moment kept.Spent o since = before o since

    pub done_only : (answer : Kept) → answer ≡ kept.Ok → AllAre (StepImages (steps_after answer frames fresh steps)) New
    done_only kept.Ok e o (inl is) = is
    done_only kept.Ok e o (inr torn) = absurd cc
    done_only kept.Failed e o is = absurd cc
    done_only kept.Down e o is = absurd cc
    done_only kept.Memory e o is = absurd cc
    done_only kept.Spent e o is = absurd cc

    pub refused_only : (answer : Kept) → IsRefusal answer → AllAre (StepImages (steps_after answer frames fresh steps)) Old
    refused_only kept.Ok e o is = absurd e
    refused_only kept.Failed e o is = one_step_image steps whole o is
    refused_only kept.Down e o is = absurd e
    refused_only kept.Memory e o is = one_step_image steps whole o is
    refused_only kept.Spent e o is = one_step_image steps whole o is

    pub stays_whole : (answer : Kept) → (answer ≡ kept.Down → ⊥) → is_torn (steps_after answer frames fresh steps) ≡ false
    stays_whole kept.Ok up = refl
    stays_whole kept.Failed up = whole
    stays_whole kept.Down up = absurd (up refl)
    stays_whole kept.Memory up = whole
    stays_whole kept.Spent up = whole

  pub more_steps : (answer : Kept) → length steps ≤ length (steps_after answer frames fresh steps)
  more_steps kept.Ok = omega arith
  more_steps kept.Failed = omega arith
  more_steps kept.Down = omega arith
  more_steps kept.Memory = omega arith
  more_steps kept.Spent = omega arith

  pub done_frames : (answer : Kept) → answer ≡ kept.Ok → read_all store_at (frames_after (steps_after answer frames fresh steps)) ≡ New
  done_frames kept.Ok e = refl
  done_frames kept.Failed e = absurd cc
  done_frames kept.Down e = absurd cc
  done_frames kept.Memory e = absurd cc
  done_frames kept.Spent e = absurd cc

  pub refused_frames : (answer : Kept) → IsRefusal answer → read_all store_at (frames_after (steps_after answer frames fresh steps)) ≡ Old
  refused_frames kept.Ok e = absurd e
  refused_frames kept.Failed e = refl
  refused_frames kept.Down e = absurd e
  refused_frames kept.Memory e = refl
  refused_frames kept.Spent e = refl

-- ---- answers

pub by_ok : {P : Type 0} (answer : Kept) → (answer ≡ kept.Ok → P) → ((answer ≡ kept.Ok → ⊥) → P) → P
by_ok kept.Ok ok other = ok refl
by_ok kept.Failed ok other = other (λ is. cc)
by_ok kept.Down ok other = other (λ is. cc)
by_ok kept.Memory ok other = other (λ is. cc)
by_ok kept.Spent ok other = other (λ is. cc)

-- what is down with no other answer than Down
pub down_only : (answer : Kept) (down : Bool) → ((answer ≡ kept.Down → ⊥) → down ≡ false) → down ≡ true → answer ≡ kept.Down
down_only kept.Ok down stays is = (let not = stays (λ e. cc) in absurd cc)
down_only kept.Failed down stays is = (let not = stays (λ e. cc) in absurd cc)
down_only kept.Down down stays is = refl
down_only kept.Memory down stays is = (let not = stays (λ e. cc) in absurd cc)
down_only kept.Spent down stays is = (let not = stays (λ e. cc) in absurd cc)

pub untouched_by : {P : Type 0} (answer : Kept) → (answer ≡ kept.Memory → P) → (answer ≡ kept.Spent → ⊥) → (answer ≡ kept.Memory) ⊎ (answer ≡ kept.Spent) → P
untouched_by answer memory unspent (inl is) = memory is
untouched_by answer memory unspent (inr is) = absurd (unspent is)
