-- What one request adds to a lane: at most one call, and a number that is no less than those before.
use Rattle.std.proofs.Common.{◌≡◌, ◌∙◌, ℕ, ◌≤◌, ℤ, List, [], ◌∷◌, ◌++◌, Bool, Option, Some, None, IfSome, Result, Ok, Err, refl, sym, subst, arith, append-nil}
use mathlib.Core.List.{IsPrefix}
use Rattle.live_stage.specs.lock_calls.turn_lock.Seen.{PassView}
use Rattle.live_stage.proofs.of_lock_calls.of_turn_lock.Prefixes.{prefix_trans}
use Rattle.live_stage.proofs.of_lock_calls.Calls.{call_is_known}
use Rattle.live_stage.proofs.of_lock_calls.Lasting.{facts_last}
use Rattle.live_stage.specs.lock_calls.Calls.{Lasts}
use Rattle.http_spec.specs.declared.answer.Answer.{Answer}
use Rattle.http_spec.specs.declared.request.Request.{Request}
use Rattle.http_routes.specs.Course.{IsAnsweredBy}
use Rattle.http_routes.specs.Moves.{Reads}
use Rattle.http_routes.specs.pattern_port.Refused.{Asked}
use Rattle.live_stage.specs.core_ends.core_course.Sight.{Sight}
use Rattle.live_stage.specs.core_ends.core_spec.History.{History}
use Rattle.live_stage.specs.core_ends.core_state.declared.state.CoreState.{CoreState}
use Rattle.live_stage.specs.declared.note.Staged.{Staged}
use Rattle.live_stage.specs.Notes.{StageView, list_of}
use Rattle.live_stage.specs.Trace.{SnapshotView, HasFirstIn, live_count, live_of}
use Rattle.live_stage.specs.StageCalls.{StageCall, looked, was_submitted, was_swept, was_claimed, was_settled, was_released, added, DoesAtCore, StageDoes, OneStageCall, KnowsStageCalls}
use Rattle.live_stage.proofs.Lookups.{goes_on}
use Rattle.live_stage.proofs.Traces.{live_longer}
use Rattle.live_links.specs.Answers.{LiveMet, IsLiveGiven, IsLiveMetBefore, AnswersFrom}
use Rattle.live_links.specs.Lanes.{Lane, lane, LaneMoves, LaneGoes, KnowsLane, HasLive, IsHold, Rises, number_of, IsAnsweredLive, AnswersOne}
use Rattle.live_links.proofs.OnAnswers.{given_on, before_on}

-- the longer list of what was seen
pub hold_grows : {D K : Type 0} (w : Sight D K) (generation : K → ℕ) (call : Option StageCall) (before after : PassView (Staged D K)) → IsHold w generation call before after → IsPrefix before.seen after.seen
hold_grows {D} {K} w generation None before after same = subst (λ (p : PassView (Staged D K)). IsPrefix before.seen p.seen) (sym same) ([], append-nil before.seen)
hold_grows w generation (Some call) before after one = prefix_trans before.seen one.found after.seen one.begins (added call, sym one.seen)

-- tables of the first events stay those
pub first_stays : {D K : Type 0} (w : Sight D K) (generation : K → ℕ) (call : Option StageCall) (before after : PassView (Staged D K)) → IsHold w generation call before after
    → (kept : Option SnapshotView) → IfSome kept (λ s. Lasts (HasFirstIn w s) before.seen) → IfSome kept (λ s. Lasts (HasFirstIn w s) after.seen)
first_stays w generation call before after hold None first = tt
first_stays w generation call before after hold (Some s) first = facts_last (HasFirstIn w s) before.seen after.seen (hold_grows w generation call before after hold) first

module _ {D K : Type 0} (w : Sight D K) (generation : K → ℕ) where
  -- the number of a call is that of the live trace that it leaves
  number_is : (call : StageCall) (n : ℕ) (old new : CoreState D K) → number_of call ≡ Some n → DoesAtCore w generation call old new → n ≡ live_of new
  number_is (looked k) n old new is did = let told : Some k ≡ Some n = is in let same : k ≡ n = cc in sym same ∙ did.1
  number_is (was_submitted c came k) n old new is did = let told : Some k ≡ Some n = is in let same : k ≡ n = cc in sym same ∙ did.1
  number_is (was_swept kinds m came k) n old new is did = let told : Some k ≡ Some n = is in let same : k ≡ n = cc in sym same ∙ did.1
  number_is (was_claimed came events) n old new is did = cc
  number_is (was_settled job v came events) n old new is did = cc
  number_is (was_released job events) n old new is did = cc

  -- a later stage has as many events
  live_grows : (x y : StageView D K) → IsPrefix (list_of x) (list_of y) → live_of x.core ≤ live_of y.core
  live_grows x y pre =
      let next = goes_on x y pre in
      let n = live_count x.core.events.list in
      let all : n ≤ n = omega arith in
      subst (λ (es : History). n ≤ live_count es) (sym next.1.1) (live_longer next.1.0 x.core.events.list n all)

  module _ (call : StageCall) (calls : List StageCall) (number : ℕ) (before after : PassView (Staged D K)) (one : OneStageCall w generation call before after) (knows : KnowsLane w generation before calls number) where
    grows : IsPrefix before.seen after.seen
    grows = hold_grows w generation (Some call) before after one

    left : after.seen ≡ list_of one.does.after
    left = one.seen ∙ one.does.left_is

    known : KnowsStageCalls w generation after (calls ++ call ∷ [])
    known = call_is_known added (StageDoes w generation) call calls before after knows.known one

    -- the number with it, and the one that came last behind it
    abbrev last_number : Option ℕ → ℕ
    last_number None = number
    last_number (Some n) = n

    rises : (o : Option ℕ) → number_of call ≡ o → Rises o number (last_number o)
    rises None is = refl
    rises (Some n) is = (
      subst (λ k. number ≤ k) (sym (number_is call n one.does.before.core one.does.after.core is one.does.did)) (knows.live after.seen grows one.does.after left),
      refl,
    )

    stays_live : (o : Option ℕ) → number_of call ≡ o → Lasts (HasLive w generation (last_number o)) after.seen
    stays_live None is = facts_last (HasLive w generation number) before.seen after.seen grows knows.live
    stays_live (Some n) is = λ final on stage final_is.
        let pre : IsPrefix (list_of one.does.after) (list_of stage) = subst (λ (l : List (Staged D K)). IsPrefix l (list_of stage)) left (subst (IsPrefix after.seen) final_is on) in
        subst (λ k. k ≤ live_of stage.core) (sym (number_is call n one.does.before.core one.does.after.core is one.does.did)) (live_grows one.does.after stage pre)

  -- the lane behind a hold
  pub held_lane : (call : Option StageCall) (met_asked : List Asked) (calls : List StageCall) (number : ℕ) (before after : PassView (Staged D K)) (asked then : Option (List Asked)) (count later : ℕ)
      → IsHold w generation call before after → KnowsLane w generation before calls number → Reads met_asked asked then count later
      → (more : List StageCall) × (last : ℕ) × KnowsLane w generation after more last
      × LaneMoves (record { call = call; asked = met_asked }) (lane asked count calls number) (lane then later more last)
  held_lane None met_asked calls number before after asked then count later same knows reads = (
    calls,
    number,
    subst (λ p. KnowsLane w generation p calls number) (sym same) knows,
    record { reads = reads; calls = sym (append-nil calls); rises = refl },
  )
  held_lane (Some call) met_asked calls number before after asked then count later one knows reads = (
    calls ++ call ∷ [],
    last_number call calls number before after one knows (number_of call),
    record { known = known call calls number before after one knows; live = stays_live call calls number before after one knows (number_of call) refl },
    record { reads = reads; calls = refl; rises = rises call calls number before after one knows (number_of call) refl },
  )

  -- ---- the answer lasts

  module _ (says : List ℕ → List ℕ → Bool) where
    pub from_later : (seen later : List (Staged D K)) → IsPrefix seen later → (n : ℕ) (r : Request) (asked : List Asked) (a : Answer) → AnswersFrom w says seen n r asked a → AnswersFrom w says later n r asked a
    from_later seen later on n r asked a h = λ final more. h final (prefix_trans seen later final on more)

    answered_later : {E : Type 0} (now : ℤ) (seen later : List (Staged D K)) (r : Request) (met : LiveMet) (result : Result Answer E) → IsPrefix seen later → IsAnsweredLive w generation says now seen r met result
        → IsAnsweredLive w generation says now later r met result
    answered_later now seen later r met (Ok a) on h = given_on (AnswersFrom w says seen) (AnswersFrom w says later) (from_later seen later on) now r met a h
    answered_later now seen later r met (Err e) on h = before_on (AnswersFrom w says seen) (AnswersFrom w says later) (from_later seen later on) now r met h

    answered_by : {E : Type 0} (now : ℤ) (final : List (Staged D K)) (r : Request) (met : LiveMet) (old new : Lane) (result : Result Answer E) → LaneMoves met old new → IsAnsweredLive w generation says now final r met result
        → IsAnsweredBy (IsLiveGiven (AnswersFrom w says final) now) (IsLiveMetBefore (AnswersFrom w says final) now) LaneMoves r old new result
    answered_by now final r met old new (Ok a) moves h = (met, moves, h)
    answered_by now final r met old new (Err e) moves h = (met, moves, h)

    pub one_goes : {E : Type 0} (now : ℤ) (r : Request) (before after : PassView (Staged D K)) (asked then : Option (List Asked)) (count later : ℕ) (result : Result Answer E)
        → AnswersOne w generation says now r before after asked then count later result
        → LaneGoes w generation before after asked then count later (λ final old new. IsAnsweredBy (IsLiveGiven (AnswersFrom w says final) now) (IsLiveMetBefore (AnswersFrom w says final) now) LaneMoves r old new result)
    one_goes now r before after asked then count later result one = record {
      seen = hold_grows w generation one.met.call before after one.hold;
      goes = λ calls number knows.
          let l = held_lane one.met.call one.met.asked calls number before after asked then count later one.hold knows one.reads in (
            l.0,
            l.1,
            l.2,
            λ final on. answered_by now final r one.met (lane asked count calls number) (lane then later l.0 l.1) result l.3 (answered_later now after.seen final r one.met result on one.answered),
          );
    }
