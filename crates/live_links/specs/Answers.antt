-- The answers of a live server. They are those of the service, over the tables of the first n events of the live trace, and tell n.
use Rattle.std.specs.Prelude.{◌≡◌, ◌≢◌, ◌⊎◌, ℕ, ℤ, List, [], Bool, true, false, codes, Option, Some, None, Ok, Err}
use Rattle.http_spec.specs.declared.answer.Answer.{Answer}
use Rattle.http_spec.specs.declared.request.Request.{Request}
use Rattle.http_spec.specs.Answers.{memory_answer}
use Rattle.fleet_rows.specs.declared.submitted.Submitted.{Submitted}
use Rattle.http_routes.specs.fleet_rows.declared.command.Command.{Command as Handed}
use Rattle.http_routes.specs.fleet_rows.declared.settings.Kinds.{Kinds}
use Rattle.http_routes.specs.means_spec.OutRows.{lines_text}
use Rattle.http_routes.specs.means_spec.World.{World, world_of}
use Rattle.http_routes.specs.pattern_port.Refused.{Asked}
use Rattle.http_routes.specs.routes.Answers.{done, error, submitted_answer}
use Rattle.http_routes.specs.routes.Commands.{Checked}
use Rattle.http_routes.specs.routes.Parameters.{parameters_of}
use Rattle.http_routes.specs.routes.Reading.{IsReadFor}
use Rattle.http_routes.specs.routes.Routes.{query_of, is_post}
use Rattle.http_routes.specs.declared.routed.Routed.{Routed}
use Rattle.http_routes.specs.declared.routed.Routed.TheVariants.{Command, Query, Done}
use Rattle.http_routes.specs.Routed.{IsQueryRequest, IsRouted, IsAskedAnswer}
use Rattle.live_stage.specs.core_ends.core_spec.History.{History}
use Rattle.live_stage.specs.core_ends.core_course.Sight.{Sight, Stood}
use Rattle.live_stage.specs.core_ends.core_sweeps.declared.answers.Swept.{Swept}
use Rattle.live_stage.specs.core_ends.core_sweeps.declared.answers.Swept.TheVariants as swept
use Rattle.live_stage.specs.lock_calls.Calls.{Lasts}
use Rattle.live_stage.specs.declared.note.Staged.{Staged}
use Rattle.live_stage.specs.Notes.{StageView, list_of}
use Rattle.live_stage.specs.Trace.{trace_at}
use Rattle.live_stage.specs.StageCalls.{StageCall, looked, was_submitted, was_swept}
use Rattle.live_links.specs.Sweeps.{is_sweep, IsSweepAsked}
use Rattle.live_links.specs.Headers.{HeaderAsks, seen_field, lacks}
use Rattle.live_links.specs.declared.header.Least.{Least}
use Rattle.live_links.specs.declared.header.Least.TheVariants.{Any, AtLeast, Bad}

-- ---- what happened with a request: the call that was made at the stage, if one was made; and the texts that were read as patterns

pub record LiveMet : Type 0 where
  pub call : Option StageCall
  pub asked : List Asked

abbrev pub nothing_met : LiveMet
nothing_met = record { call = None; asked = [] }

-- a call and no pattern
abbrev pub called : StageCall → LiveMet
called call = record { call = Some call; asked = [] }

-- ---- the answers

-- the same answer, which tells a number
abbrev pub with_seen : ℕ → Answer → Answer
with_seen n a = record { code = a.code; records = a.records; seen = Some n; close = a.close; body = a.body }

abbrev pub swept_answer : Bool → Swept → Answer
swept_answer ends swept.Ok = done ends None (codes "{\"swept\":true}")
swept_answer ends swept.StoreFault = error ends 503 (codes "store fault")
swept_answer ends swept.StoreDown = error ends 503 (codes "store down")
swept_answer ends swept.Spent = error ends 503 (codes "spent")
swept_answer ends swept.Down = error ends 503 (codes "core down")
swept_answer ends swept.Memory = memory_answer

-- ---- a sweep. The number is that of the live trace when its hold ended

abbrev pub IsSweepAnswer : Bool → Checked (Kinds × ℤ) → LiveMet → Answer → Type 0
IsSweepAnswer ends (Err text) met answer = (met ≡ nothing_met) × (answer ≡ error ends 400 text)
IsSweepAnswer ends (Ok (kinds, m)) met answer =
    (came : Swept) × (n : ℕ) × (met ≡ called (was_swept kinds m came n)) × (answer ≡ with_seen n (swept_answer ends came))

abbrev pub IsSweepMethodAnswer : Bool → Request → LiveMet → Answer → Type 0
IsSweepMethodAnswer false r met answer = (met ≡ nothing_met) × (answer ≡ error r.ends 405 (codes "bad method"))
IsSweepMethodAnswer true r met answer =
    (asked : Checked (Kinds × ℤ)) × IsSweepAsked (parameters_of (query_of r.target)) asked × IsSweepAnswer r.ends asked met answer

-- ---- a command. So is this number

abbrev pub IsSubmitAnswer : Bool → Handed → LiveMet → Answer → Type 0
IsSubmitAnswer ends c met answer =
    (came : Submitted) × (n : ℕ) × (met ≡ called (was_submitted c came n)) × (answer ≡ with_seen n (submitted_answer ends came))

-- ---- a query. The number is that of the tables that were read

-- `AnswersAt n` are the answers to a query over the first n events of the live trace
module _ (AnswersAt : ℕ → Request → List Asked → Answer → Type 0) where
  -- `true` if these events are too few
  abbrev pub IsLookedAnswer : Bool → ℕ → Request → List Asked → Answer → Type 0
  IsLookedAnswer true n r asked answer = (asked ≡ []) × (answer ≡ with_seen n (error r.ends 503 (codes "not yet")))
  IsLookedAnswer false n r asked answer = (plain : Answer) × AnswersAt n r asked plain × (answer ≡ with_seen n plain)

  abbrev pub IsLookAnswer : Least → Request → LiveMet → Answer → Type 0
  IsLookAnswer least r met answer = (n : ℕ) × (met.call ≡ Some (looked n)) × IsLookedAnswer (lacks least n) n r met.asked answer

  abbrev pub IsLiveQueryAnswer : Least → Request → LiveMet → Answer → Type 0
  IsLiveQueryAnswer Bad r met answer = (met ≡ nothing_met) × (answer ≡ error r.ends 400 (codes "bad seen"))
  IsLiveQueryAnswer Any r met answer = IsLookAnswer Any r met answer
  IsLiveQueryAnswer (AtLeast m) r met answer = IsLookAnswer (AtLeast m) r met answer

-- ---- every request. Commands are received at the moment `now`

module _ (AnswersAt : ℕ → Request → List Asked → Answer → Type 0) (now : ℤ) where
  -- by what the request asks for
  abbrev pub IsRoutedAnswer : Routed → Request → LiveMet → Answer → Type 0
  IsRoutedAnswer (Command c) r met answer = IsSubmitAnswer r.ends c met answer
  IsRoutedAnswer (Query q) r met answer = (least : Least) × HeaderAsks (seen_field r) least × IsLiveQueryAnswer AnswersAt least r met answer
  IsRoutedAnswer (Done plain) r met answer = (met ≡ nothing_met) × (answer ≡ plain)

  abbrev pub IsAnswerOn : Bool → Request → LiveMet → Answer → Type 0
  IsAnswerOn true r met answer = IsSweepMethodAnswer (is_post r.method) r met answer
  IsAnswerOn false r met answer = (routed : Routed) × IsRouted now r routed × IsRoutedAnswer routed r met answer

  -- the answer to this request, if this happened with it
  abbrev pub IsLiveAnswer : Request → LiveMet → Answer → Type 0
  IsLiveAnswer r met answer = IsAnswerOn (is_sweep r.target) r met answer

  -- an answer other than the one that memory ran out
  pub record IsLiveGiven (r : Request) (met : LiveMet) (answer : Answer) : Type 0 where
    pub is_answer : IsLiveAnswer r met answer
    pub code : answer.code ≢ 500

  -- Memory ran out: this happened as for some answer. Or nothing happened; or a query looked, and at most a prefix of its patterns
  -- was read.
  abbrev pub IsLiveMetBefore : Request → LiveMet → Type 0
  IsLiveMetBefore r met =
      ((other : Answer) × IsLiveAnswer r met other)
      ⊎ ((met ≡ nothing_met)
      ⊎ (((n : ℕ) × (met.call ≡ Some (looked n))) × IsQueryRequest r × IsReadFor r met.asked))

-- ---- over what the stage has at the end

module _ {D K : Type 0} (w : Sight D K) (says : List ℕ → List ℕ → Bool) where
  -- the tables of a history with the first n events of the live trace
  abbrev pub world_at : StageView D K → History → ℕ → World
  world_at stage start n = world_of stage.start.tables.ttls (trace_at start stage.core.events.list n) says

  -- These are answers over the first n events, in whatever list goes on from what was seen: for each stage that has the list, and
  -- each history that its core stood for as it came under the lock.
  abbrev pub AnswersFrom : List (Staged D K) → ℕ → Request → List Asked → Answer → Type 0
  AnswersFrom seen n r asked answer =
      Lasts (λ final. (stage : StageView D K) → final ≡ list_of stage → (start : History) → Stood w stage.start start
      → IsAskedAnswer (world_at stage start n) lines_text r asked answer) seen
