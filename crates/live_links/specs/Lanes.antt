-- A lane: a thread that answers requests. What it has done so far, and what one request adds.
use Rattle.std.specs.Prelude.{◌≡◌, ◌≢◌, ◌⊎◌, ℕ, ◌≤◌, ℤ, List, [], ◌++◌, Bool, Option, Some, None, Result, Ok, Err}
use Rattle.std.specs.Option.{option_to_list}
use mathlib.Core.List.{IsPrefix}
use Rattle.live_stage.specs.lock_calls.turn_lock.Seen.{PassView}
use Rattle.http_spec.specs.declared.answer.Answer.{Answer}
use Rattle.http_spec.specs.declared.request.Request.{Request}
use Rattle.http_routes.specs.pattern_port.Refused.{Asked}
use Rattle.http_routes.specs.Moves.{Reads}
use Rattle.live_stage.specs.core_ends.core_course.Sight.{Sight}
use Rattle.live_stage.specs.lock_calls.Calls.{Lasts}
use Rattle.live_stage.specs.declared.note.Staged.{Staged}
use Rattle.live_stage.specs.Notes.{StageView, list_of}
use Rattle.live_stage.specs.Trace.{live_of}
use Rattle.live_stage.specs.StageCalls.{StageCall, looked, was_submitted, was_swept, was_claimed, was_settled, was_released, OneStageCall, KnowsStageCalls}
use Rattle.http_routes.specs.routes.Reading.{IsReadFor}
use Rattle.http_routes.specs.routes.Routes.{is_post}
use Rattle.live_links.specs.Answers.{LiveMet, nothing_met, IsSweepMethodAnswer, IsLiveQueryAnswer, IsLiveGiven, IsLiveMetBefore, AnswersFrom}
use Rattle.live_links.specs.Headers.{HeaderAsks, seen_field}
use Rattle.live_links.specs.QuerySteps.{AnswersLook}
use Rattle.live_links.specs.declared.header.Least.{Least}

-- the texts that were read as patterns, as far as contracts know them, and the number of refused ones; the calls at the stage; and the
-- number that came last, 0 at first
pub record Lane : Type 0 where
  pub asked : Option (List Asked)
  pub refusals : ℕ
  pub calls : List StageCall
  pub seen : ℕ

abbrev pub lane : Option (List Asked) → ℕ → List StageCall → ℕ → Lane
lane asked refusals calls seen = record { asked = asked; refusals = refusals; calls = calls; seen = seen }

-- the number that comes with a call
abbrev pub number_of : StageCall → Option ℕ
number_of (looked n) = Some n
number_of (was_submitted c came n) = Some n
number_of (was_swept kinds m came n) = Some n
number_of (was_claimed came events) = None
number_of (was_settled job v came events) = None
number_of (was_released job events) = None

abbrev pub number_in : Option StageCall → Option ℕ
number_in None = None
number_in (Some call) = number_of call

-- numbers never fall
abbrev pub Rises : Option ℕ → ℕ → ℕ → Type 0
Rises None old new = new ≡ old
Rises (Some n) old new = (old ≤ n) × (new ≡ n)

-- one request
pub record LaneMoves (met : LiveMet) (old new : Lane) : Type 0 where
  pub reads : Reads met.asked old.asked new.asked old.refusals new.refusals
  pub calls : new.calls ≡ old.calls ++ option_to_list met.call
  pub rises : Rises (number_in met.call) old.seen new.seen

module _ {D K : Type 0} (w : Sight D K) (generation : K → ℕ) where
  -- the live trace has at least so many events
  abbrev pub HasLive : ℕ → List (Staged D K) → Type 0
  HasLive n final = (stage : StageView D K) → final ≡ list_of stage → n ≤ live_of stage.core

  -- These are the calls of the pass. The live trace has as many events as were told, and keeps them.
  pub record KnowsLane (pass : PassView (Staged D K)) (calls : List StageCall) (seen : ℕ) : Type 0 where
    pub known : KnowsStageCalls w generation pass calls
    pub live : Lasts (HasLive seen) pass.seen

  -- Whatever the lane's calls were before, these are its calls then, and P holds of the lane before and then. What P says of the
  -- stage's list it says of every list that goes on from what was seen.
  pub record LaneGoes (before after : PassView (Staged D K)) (asked now : Option (List Asked)) (count later : ℕ) (P : List (Staged D K) → Lane → Lane → Type 0) : Type 0 where
    pub seen : IsPrefix before.seen after.seen
    pub goes : (calls : List StageCall) (number : ℕ) → KnowsLane before calls number
        → (then : List StageCall) × (last : ℕ) × KnowsLane after then last
        × ((final : List (Staged D K)) → IsPrefix after.seen final → P final (lane asked count calls number) (lane now later then last))

  -- ---- one request

  -- the call was made, in one hold; or none was
  abbrev pub IsHold : Option StageCall → PassView (Staged D K) → PassView (Staged D K) → Type 0
  IsHold None before after = after ≡ before
  IsHold (Some call) before after = OneStageCall w generation call before after

  module _ (says : List ℕ → List ℕ → Bool) where
    -- the answer was given; without memory, this happened before
    abbrev pub IsAnsweredLive : {E : Type 0} → ℤ → List (Staged D K) → Request → LiveMet → Result Answer E → Type 0
    IsAnsweredLive now final r met (Ok answer) = IsLiveGiven (AnswersFrom w says final) now r met answer
    IsAnsweredLive now final r met (Err e) = IsLiveMetBefore (AnswersFrom w says final) now r met

    -- A request was answered with at most one hold.
    pub record AnswersOne {E : Type 0} (now : ℤ) (r : Request) (before after : PassView (Staged D K)) (asked then : Option (List Asked)) (count later : ℕ) (result : Result Answer E) : Type 0 where
      pub met : LiveMet
      pub hold : IsHold met.call before after
      pub reads : Reads met.asked asked then count later
      pub answered : IsAnsweredLive now after.seen r met result

    -- ---- step by step

    -- A query was answered behind a look.
    pub record LooksOne {E : Type 0} (least : Least) (r : Request) (before after : PassView (Staged D K)) (asked then : Option (List Asked)) (count later : ℕ) (result : Result Answer E) : Type 0 where
      pub number : ℕ
      pub hold : OneStageCall w generation (looked number) before after
      pub look : AnswersLook (AnswersFrom w says after.seen) least number r asked then count later result

    abbrev pub IsQueriedBy : {E : Type 0} → List (Staged D K) → Request → LiveMet → Result Answer E → Type 0
    IsQueriedBy final r met (Ok answer) =
        (least : Least) × HeaderAsks (seen_field r) least × IsLiveQueryAnswer (AnswersFrom w says final) least r met answer × (answer.code ≢ 500)
    IsQueriedBy final r met (Err e) =
        ((other : Answer) × (least : Least) × HeaderAsks (seen_field r) least × IsLiveQueryAnswer (AnswersFrom w says final) least r met other)
        ⊎ ((met ≡ nothing_met)
        ⊎ (((n : ℕ) × (met.call ≡ Some (looked n))) × IsReadFor r met.asked))

    -- A query was answered with at most one look.
    pub record AsksOne {E : Type 0} (r : Request) (before after : PassView (Staged D K)) (asked then : Option (List Asked)) (count later : ℕ) (result : Result Answer E) : Type 0 where
      pub met : LiveMet
      pub hold : IsHold met.call before after
      pub reads : Reads met.asked asked then count later
      pub answered : IsQueriedBy after.seen r met result

  abbrev pub IsSweptBy : {E : Type 0} → Request → LiveMet → Result Answer E → Type 0
  IsSweptBy r met (Ok answer) = IsSweepMethodAnswer (is_post r.method) r met answer × (answer.code ≢ 500)
  IsSweptBy r met (Err e) = ((other : Answer) × IsSweepMethodAnswer (is_post r.method) r met other) ⊎ (met ≡ nothing_met)

  -- A request to sweep was answered with at most one sweep.
  pub record SweepsOne {E : Type 0} (r : Request) (before after : PassView (Staged D K)) (result : Result Answer E) : Type 0 where
    pub met : LiveMet
    pub hold : IsHold met.call before after
    pub none_read : met.asked ≡ []
    pub answered : IsSweptBy r met result
