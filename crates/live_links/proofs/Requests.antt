-- One request, by what it asks for.
use Rattle.std.proofs.Common.{◌≡◌, ◌≢◌, ◌∙◌, inl, inr, ℕ, ℤ, List, [], Bool, true, false, Option, Some, None, Result, Ok, Err, refl, sym, ap, subst, arith}
use Rattle.std.specs.Prelude.{IfOk, codes}
use Rattle.live_stage.specs.lock_calls.Calls.{Lasts}
use Rattle.live_stage.specs.lock_calls.turn_lock.Seen.{PassView}
use Rattle.http_spec.specs.declared.answer.Answer.{Answer}
use Rattle.http_spec.specs.declared.request.Request.{Request}
use Rattle.fleet_rows.specs.declared.submitted.Submitted.{Submitted}
use Rattle.http_routes.specs.fleet_rows.declared.command.Command.{Command as Handed}
use Rattle.http_routes.specs.fleet_rows.declared.settings.Kinds.{Kinds}
use Rattle.http_routes.specs.fleet_tables.Stands.{Stands}
use Rattle.http_routes.specs.history_spec.Trace.{Trace}
use Rattle.http_routes.specs.means_spec.OutRows.{lines_text}
use Rattle.http_routes.specs.means_spec.World.{world_of}
use Rattle.http_routes.specs.paging_text.Shown.{written_text}
use Rattle.http_routes.specs.query_engine.Tables.{world_of as world_of_tables}
use Rattle.http_routes.specs.history_spec.Lawful.{HasStamp}
use Rattle.http_routes.specs.Asked.{AnswersAsked}
use Rattle.http_routes.specs.pattern_port.Refused.{Asked}
use Rattle.http_routes.specs.routes.Answers.{error, submitted_answer}
use Rattle.http_routes.specs.routes.Commands.{Checked, needed, unless_bad}
use Rattle.http_routes.specs.routes.Parameters.{Parameters, parameters_of}
use Rattle.http_routes.specs.routes.Reading.{IsReadFor}
use Rattle.http_routes.specs.routes.Routes.{query_of, is_post}
use Rattle.http_routes.specs.declared.routed.Routed.{Routed}
use Rattle.http_routes.specs.declared.routed.Routed.TheVariants.{Command, Query, Done}
use Rattle.http_routes.specs.Moves.{Reads}
use Rattle.http_routes.specs.Routed.{IsQueryRequest, IsRouted, IsAskedAnswer}
use Rattle.http_routes.proofs.Asking.{reads_nothing}
use Rattle.http_routes.proofs.Prints.{history_asks}
use Rattle.live_stage.specs.core_ends.core_course.Sight.{Sight}
use Rattle.live_stage.specs.core_ends.core_sweeps.declared.answers.Swept.{Swept}
use Rattle.live_stage.specs.declared.note.Staged.{Staged}
use Rattle.live_stage.specs.declared.shelf.Step.{Step}
use Rattle.live_stage.specs.Shelf.{LeadsTo}
use Rattle.live_stage.specs.Trace.{SnapshotView, HasTrace, HasFirstIn, trace_at}
use Rattle.live_stage.proofs.Lookups.{caught_up_lasts}
use Rattle.live_stage.specs.StageCalls.{looked, was_submitted, was_swept, OneStageCall}
use Rattle.live_links.specs.Answers.{LiveMet, nothing_met, called, with_seen, swept_answer, IsSweepAnswer, IsSweepMethodAnswer, IsLookedAnswer, IsLiveQueryAnswer, IsRoutedAnswer, IsAnswerOn, IsLiveAnswer, AnswersFrom}
use Rattle.live_links.specs.Headers.{HeaderAsks, seen_field, lacks}
use Rattle.live_links.specs.Lanes.{IsAnsweredLive, AnswersOne, LooksOne, IsQueriedBy, AsksOne, IsSweptBy, SweepsOne}
use Rattle.live_links.specs.QuerySteps.{IsNumbered, AnswersOver, IsLookedBy, AnswersLook}
use Rattle.live_links.specs.SweepSteps.{at_moment, with_at}
use Rattle.live_links.specs.Sweeps.{is_sweep, kinds_named, IsMoment, IsSweepAsked}
use Rattle.paging_params.specs.Params.{last_under}
use Rattle.live_stage.specs.core_ends.history_spec.text_spec.Stamp.{IsStampOf}
use Rattle.live_links.specs.declared.header.Least.{Least}
use Rattle.live_links.specs.declared.header.Least.TheVariants.{Any, AtLeast, Bad}
use Rattle.live_links.proofs.OnAnswers.{look_on}

-- no pattern of a query was read
none_read : (r : Request) → IsQueryRequest r → IsReadFor r []
none_read r query = (query.route, query.has_path, query.takes, inl refl)

-- ---- numbers

-- an answer that tells a number
pub numbered_so : {E : Type 0} (n : ℕ) (plain result : Result Answer E) (a : Answer) → IsNumbered n plain result → IfOk plain (λ x. x ≡ a) → IfOk plain (λ x. x.code ≢ 500)
    → IfOk result (λ x. (x ≡ with_seen n a) × (x.code ≢ 500))
numbered_so {E} n (Ok x) result a told is code = subst (λ (y : Result Answer E). IfOk y (λ x. (x ≡ with_seen n a) × (x.code ≢ 500))) (sym told) (ap (with_seen n) is, code)
numbered_so {E} n (Err e) result a told is code = subst (λ (y : Result Answer E). IfOk y (λ x. (x ≡ with_seen n a) × (x.code ≢ 500))) (sym told) tt

module _ {E : Type 0} (At : ℕ → Request → List Asked → Answer → Type 0) (least : Least) (n : ℕ) (r : Request) (before : Option (List Asked)) (count : ℕ) (plain result : Result Answer E) (told : IsNumbered n plain result) where
  -- the tables have too few events
  pub few_look : lacks least n ≡ true → IfOk plain (λ a. a ≡ error r.ends 503 (codes "not yet")) → AnswersLook At least n r before before count count result
  few_look few is = record { asked = []; reads = reads_nothing before count; answered = by_plain plain told is }
    where
      late : Answer
      late = with_seen n (error r.ends 503 (codes "not yet"))

      by_plain : (x : Result Answer E) → IsNumbered n x result → IfOk x (λ a. a ≡ error r.ends 503 (codes "not yet")) → IsLookedBy At least n r [] result
      by_plain (Ok a) told is =
          subst (IsLookedBy At least n r []) (sym told)
          (subst (λ b. IsLookedAnswer At b n r [] (with_seen n a)) (sym few) (refl, ap (with_seen n) is), λ h. let code : 503 ≡ 500 = sym (ap (λ (x : Answer). x.code) is) ∙ h in omega (arith, code))
      by_plain (Err e) told is = subst (IsLookedBy At least n r []) (sym told) (inl (late, subst (λ b. IsLookedAnswer At b n r [] late) (sym few) (refl, refl)))

-- the tables have enough, and lack no step
pub over_look : {E : Type 0} (says : List ℕ → List ℕ → Bool) (s : SnapshotView) (least : Least) (n : ℕ) (r : Request) (before now : Option (List Asked)) (count later : ℕ) (plain result : Result Answer E) → IsNumbered n plain result
    → lacks least n ≡ false → s.behind ≡ [] → AnswersAsked before now count later (IsReadFor r) (IsAskedAnswer (world_of_tables s.tables says) written_text r) plain → IfOk plain (λ a. a.code ≢ 500)
    → AnswersLook (AnswersOver says s) least n r before now count later result
over_look {E} says s least n r before now count later (Ok a) result told enough none (asked, reads, h) code =
    record { asked = asked; reads = reads; answered = subst (IsLookedBy (AnswersOver says s) least n r asked) (sym told) (subst (λ b. IsLookedAnswer (AnswersOver says s) b n r asked (with_seen n a)) (sym enough) (a, (none, h), refl), code) }
over_look {E} says s least n r before now count later (Err e) result told enough none (asked, reads, inl (other, h)) code =
    record { asked = asked; reads = reads; answered = subst (IsLookedBy (AnswersOver says s) least n r asked) (sym told) (inl (with_seen n other, subst (λ b. IsLookedAnswer (AnswersOver says s) b n r asked (with_seen n other)) (sym enough) (other, (none, h), refl))) }
over_look {E} says s least n r before now count later (Err e) result told enough none (asked, reads, inr read) code =
    record { asked = asked; reads = reads; answered = subst (IsLookedBy (AnswersOver says s) least n r asked) (sym told) (inr read) }

-- there was no memory for the steps that they lack
pub uncaught_look : {E : Type 0} (At : ℕ → Request → List Asked → Answer → Type 0) (least : Least) (n : ℕ) (r : Request) (query : IsQueryRequest r) (before : Option (List Asked)) (count : ℕ) (result : Result Answer E) → IfOk result (λ _. ⊥)
    → AnswersLook At least n r before before count count result
uncaught_look {E} At least n r query before count result none = record { asked = []; reads = reads_nothing before count; answered = by_result result none }
  where
    by_result : (x : Result Answer E) → IfOk x (λ _. ⊥) → IsLookedBy At least n r [] x
    by_result (Ok a) none = absurd none
    by_result (Err e) none = inr (none_read r query)

-- ---- a sweep's moment has a stamp

abbrev moment_or : ℤ → Checked (Kinds × ℤ) → ℤ
moment_or z (Ok p) = p.1
moment_or z (Err text) = z

pub sweep_stamp : (params : Parameters) (k : Kinds) (m : ℤ) → IsSweepAsked params (Ok (k, m)) → HasStamp m
sweep_stamp params k m (moment, is, asked) = by_texts (last_under (codes "kinds") params) (last_under (codes "at") params) moment is asked
  where
    by_moment : (found : Option Kinds) (stamp : List ℕ) (moment : Option ℤ) → IsMoment (Some stamp) moment
        → ◌≡◌ {A = Checked (Kinds × ℤ)} (Ok (k, m)) (unless_bad (codes "bad kinds") found (λ ks. at_moment ks moment)) → HasStamp m
    by_moment None stamp moment is h = cc
    by_moment (Some ks) stamp None is h = cc
    by_moment (Some ks) stamp (Some at) is h = (stamp, subst (IsStampOf stamp) (sym (ap (moment_or m) h)) is)

    by_texts : (text stamp : Option (List ℕ)) (moment : Option ℤ) → IsMoment stamp moment
        → ◌≡◌ {A = Checked (Kinds × ℤ)} (Ok (k, m)) (needed (codes "kinds") text (λ t. needed (codes "at") stamp (λ _. with_at t moment))) → HasStamp m
    by_texts None stamp moment is h = cc
    by_texts (Some t) None moment is h = cc
    by_texts (Some t) (Some stamp) moment is h = by_moment (kinds_named t) stamp moment is h

-- ---- step by step of a request to sweep

module _ {D K : Type 0} (w : Sight D K) (generation : K → ℕ) where
  module _ {E : Type 0} (r : Request) (result : Result Answer E) where
    -- without a hold
    alone_swept : (pass : PassView (Staged D K)) → IsSweptBy w generation r nothing_met result → SweepsOne w generation r pass pass result
    alone_swept pass is = record { met = nothing_met; hold = refl; none_read = refl; answered = is }

    pub unasked_sweep : (pass : PassView (Staged D K)) → IfOk result (λ _. ⊥) → SweepsOne w generation r pass pass result
    unasked_sweep pass none = alone_swept pass (by_result result none)
      where
        by_result : (x : Result Answer E) → IfOk x (λ _. ⊥) → IsSweptBy w generation r nothing_met x
        by_result (Ok a) none = absurd none
        by_result (Err e) none = inr refl

    pub bad_method_swept : (pass : PassView (Staged D K)) → is_post r.method ≡ false → IfOk result (λ a. a ≡ error r.ends 405 (codes "bad method")) → SweepsOne w generation r pass pass result
    bad_method_swept pass post told = alone_swept pass (by_result result told)
      where
        by_result : (x : Result Answer E) → IfOk x (λ a. a ≡ error r.ends 405 (codes "bad method")) → IsSweptBy w generation r nothing_met x
        by_result (Ok a) told = (subst (λ b. IsSweepMethodAnswer b r nothing_met a) (sym post) (refl, told), λ h. let code : 405 ≡ 500 = sym (ap (λ (x : Answer). x.code) told) ∙ h in omega (arith, code))
        by_result (Err e) told = inr refl

    module _ (params : Parameters) (post : is_post r.method ≡ true) (are : params ≡ parameters_of (query_of r.target)) where
      -- by what it asks for
      as_asked : (asked : Checked (Kinds × ℤ)) (met : LiveMet) (a : Answer) → IsSweepAsked params asked → IsSweepAnswer r.ends asked met a → IsSweepMethodAnswer (is_post r.method) r met a
      as_asked asked met a is h = subst (λ b. IsSweepMethodAnswer b r met a) (sym post) (asked, subst (λ ps. IsSweepAsked ps asked) are is, h)

      pub bad_swept : (pass : PassView (Staged D K)) (text : List ℕ) → IsSweepAsked params (Err text) → IfOk result (λ a. a ≡ error r.ends 400 text) → SweepsOne w generation r pass pass result
      bad_swept pass text is told = alone_swept pass (by_result result told)
        where
          by_result : (x : Result Answer E) → IfOk x (λ a. a ≡ error r.ends 400 text) → IsSweptBy w generation r nothing_met x
          by_result (Ok a) told = (as_asked (Err text) nothing_met a is (refl, told), λ h. let code : 400 ≡ 500 = sym (ap (λ (x : Answer). x.code) told) ∙ h in omega (arith, code))
          by_result (Err e) told = inr refl

      pub made_swept : (before after : PassView (Staged D K)) (k : Kinds) (m : ℤ) → IsSweepAsked params (Ok (k, m))
          → (came : Swept) × (n : ℕ) × OneStageCall w generation (was_swept k m came n) before after × IfOk result (λ a. (a ≡ with_seen n (swept_answer r.ends came)) × (a.code ≢ 500)) → SweepsOne w generation r before after result
      made_swept before after k m is (came, n, hold, told) = record { met = called (was_swept k m came n); hold = hold; none_read = refl; answered = by_result result told }
        where
          by_result : (x : Result Answer E) → IfOk x (λ a. (a ≡ with_seen n (swept_answer r.ends came)) × (a.code ≢ 500)) → IsSweptBy w generation r (called (was_swept k m came n)) x
          by_result (Ok a) told = (as_asked (Ok (k, m)) (called (was_swept k m came n)) a is (came, n, refl, told.0), told.1)
          by_result (Err e) told = inl (with_seen n (swept_answer r.ends came), as_asked (Ok (k, m)) (called (was_swept k m came n)) (with_seen n (swept_answer r.ends came)) is (came, n, refl, refl))

module _ {D K : Type 0} (w : Sight D K) (generation : K → ℕ) (says : List ℕ → List ℕ → Bool) where
  -- ---- a request to a route of the service

  module _ (now : ℤ) (r : Request) (plain : is_sweep r.target ≡ false) (final : List (Staged D K)) where
    -- by what it asks for
    as_routed : (routed : Routed) (met : LiveMet) (a : Answer) → IsRouted now r routed → IsRoutedAnswer (AnswersFrom w says final) now routed r met a → IsLiveAnswer (AnswersFrom w says final) now r met a
    as_routed routed met a is h = subst (λ b. IsAnswerOn (AnswersFrom w says final) now b r met a) (sym plain) (routed, is, h)

  module _ {E : Type 0} (now : ℤ) (r : Request) (plain : is_sweep r.target ≡ false) (before after : PassView (Staged D K)) (asked : Option (List Asked)) (count : ℕ) (result : Result Answer E) where
    -- a command was submitted
    command_live : (routed : Routed) (c : Handed) (came : Submitted) (n : ℕ) (x : Result Answer E) → routed ≡ Command c → IsRouted now r routed → IfOk x (λ a. (a ≡ with_seen n (submitted_answer r.ends came)) × (a.code ≢ 500))
        → IsAnsweredLive w generation says now after.seen r (called (was_submitted c came n)) x
    command_live routed c came n (Ok a) is is_routed told =
        record { is_answer = as_routed now r plain after.seen (Command c) (called (was_submitted c came n)) a (subst (IsRouted now r) is is_routed) (came, n, refl, told.0); code = told.1 }
    command_live routed c came n (Err e) is is_routed told =
        let a = with_seen n (submitted_answer r.ends came) in
        inl (a, as_routed now r plain after.seen (Command c) (called (was_submitted c came n)) a (subst (IsRouted now r) is is_routed) (came, n, refl, refl))

    pub command_one : (routed : Routed) (c : Handed) (ends : Bool) → routed ≡ Command c → IsRouted now r routed → ends ≡ r.ends
        → (came : Submitted) × (n : ℕ) × OneStageCall w generation (was_submitted c came n) before after × IfOk result (λ a. (a ≡ with_seen n (submitted_answer ends came)) × (a.code ≢ 500))
        → AnswersOne w generation says now r before after asked asked count count result
    command_one routed c ends is is_routed same (came, n, hold, told) = record {
      met = called (was_submitted c came n);
      hold = hold;
      reads = reads_nothing asked count;
      answered = command_live routed c came n result is is_routed (subst (λ b. IfOk result (λ a. (a ≡ with_seen n (submitted_answer b came)) × (a.code ≢ 500))) same told);
    }

  module _ (now : ℤ) (r : Request) (plain : is_sweep r.target ≡ false) (pass : PassView (Staged D K)) (asked : Option (List Asked)) (count : ℕ) where
    -- it has an answer without a hold
    pub alone_one : {E : Type 0} (routed : Routed) (a : Answer) (result : Result Answer E) → result ≡ Ok a → routed ≡ Done a → IsRouted now r routed → AnswersOne w generation says now r pass pass asked asked count count result
    alone_one routed a result told is is_routed =
        let alone = subst (IsRouted now r) is is_routed in
        record {
          met = nothing_met;
          hold = refl;
          reads = reads_nothing asked count;
          answered =
              subst (IsAnsweredLive w generation says now pass.seen r nothing_met) (sym told)
              (record { is_answer = as_routed now r plain pass.seen (Done a) nothing_met a alone (refl, refl); code = alone.code });
        }

  -- there was no memory to route it
  pub unrouted_one : {E : Type 0} (now : ℤ) (r : Request) (pass : PassView (Staged D K)) (asked : Option (List Asked)) (count : ℕ) (result : Result Answer E) → IfOk result (λ _. ⊥) → AnswersOne w generation says now r pass pass asked asked count count result
  unrouted_one {E} now r pass asked count result none = record { met = nothing_met; hold = refl; reads = reads_nothing asked count; answered = by_result result none }
    where
      by_result : (x : Result Answer E) → IfOk x (λ _. ⊥) → IsAnsweredLive w generation says now pass.seen r nothing_met x
      by_result (Ok a) none = absurd none
      by_result (Err e) none = inr (inl refl)

  -- ---- a query

  module _ {E : Type 0} (now : ℤ) (r : Request) (plain : is_sweep r.target ≡ false) (before after : PassView (Staged D K)) (asked then : Option (List Asked)) (count later : ℕ) where
    queried_live : (routed : Routed) (x : Result Answer E) (met : LiveMet) → routed ≡ Query r → IsRouted now r routed → IsQueryRequest r → IsQueriedBy w generation says after.seen r met x → IsAnsweredLive w generation says now after.seen r met x
    queried_live routed (Ok a) met is is_routed query (least, asks, h, code) =
        record { is_answer = as_routed now r plain after.seen (Query r) met a (subst (IsRouted now r) is is_routed) (least, asks, h); code = code }
    queried_live routed (Err e) met is is_routed query (inl (other, least, asks, h)) =
        inl (other, as_routed now r plain after.seen (Query r) met other (subst (IsRouted now r) is is_routed) (least, asks, h))
    queried_live routed (Err e) met is is_routed query (inr (inl none)) = inr (inl none)
    queried_live routed (Err e) met is is_routed query (inr (inr (look, read))) = inr (inr (look, query, read))

    pub query_one : (routed : Routed) (s : Request) (result : Result Answer E) → routed ≡ Query s → IsRouted now r routed → AsksOne w generation says s before after asked then count later result
        → AnswersOne w generation says now r before after asked then count later result
    query_one routed s result is is_routed one =
        let found = subst (IsRouted now r) is is_routed in
        let there : AsksOne w generation says r before after asked then count later result = subst (λ q. AsksOne w generation says q before after asked then count later result) found.0 one in
        record { met = there.met; hold = there.hold; reads = there.reads; answered = queried_live routed result there.met (is ∙ ap Query found.0) is_routed found.1 there.answered }

  -- the value of the field is bad
  pub bad_seen_one : {E : Type 0} (r : Request) (pass : PassView (Staged D K)) (asked : Option (List Asked)) (count : ℕ) (least : Least) (result : Result Answer E) → least ≡ Bad → HeaderAsks (seen_field r) least
      → IfOk result (λ a. a ≡ error r.ends 400 (codes "bad seen")) → AsksOne w generation says r pass pass asked asked count count result
  bad_seen_one {E} r pass asked count least result is asks told = record { met = nothing_met; hold = refl; reads = reads_nothing asked count; answered = by_result result told }
    where
      there : HeaderAsks (seen_field r) Bad
      there = subst (HeaderAsks (seen_field r)) is asks

      by_result : (x : Result Answer E) → IfOk x (λ a. a ≡ error r.ends 400 (codes "bad seen")) → IsQueriedBy w generation says pass.seen r nothing_met x
      by_result (Ok a) told = (Bad, there, (refl, told), λ h. let code : 400 ≡ 500 = sym (ap (λ (x : Answer). x.code) told) ∙ h in omega (arith, code))
      by_result (Err e) told = inr (inl refl)

  -- the lane's tables, with the steps that they lacked
  module _ (s caught : SnapshotView) (same_seen : caught.seen ≡ s.seen) (same_ttls : caught.tables.ttls ≡ s.tables.ttls) (traces : (trace : Trace) → HasTrace s trace → HasTrace caught trace)
      (seen : List (Staged D K)) (first : Lasts (HasFirstIn w s) seen)
    where
      pub first_caught : Lasts (HasFirstIn w caught) seen
      first_caught = caught_up_lasts w s caught seen same_seen same_ttls traces first

      -- what they answer is the answer over the first events, in whatever list goes on
      over_from : (r : Request) (asked : List Asked) (a : Answer) → AnswersOver says caught s.seen r asked a → AnswersFrom w says seen s.seen r asked a
      over_from r asked a (none, h) final on stage is start stood =
          let f = first final on stage is in
          let trace = trace_at start stage.core.events.list s.seen in
          let had = traces trace (f.tables start stood) in
          let whole : trace ≡ had.1.0 = subst (λ (steps : List Step). LeadsTo had.1.0 steps trace) none had.1.2 in
          let stands : Stands caught.tables trace = subst (Stands caught.tables) (sym whole) had.1.1 in
          subst (λ ttls. IsAskedAnswer (world_of ttls trace says) lines_text r asked a) (same_ttls ∙ f.lifetimes) (history_asks caught.tables trace says stands r asked a h)

      pub over_one : {E : Type 0} (n : ℕ) (r : Request) (least : Least) (before after : PassView (Staged D K)) (asked then : Option (List Asked)) (count later : ℕ) (result : Result Answer E)
          → after.seen ≡ seen → s.seen ≡ n → OneStageCall w generation (looked n) before after → AnswersLook (AnswersOver says caught) least s.seen r asked then count later result
          → LooksOne w generation says least r before after asked then count later result
      over_one n r least before after asked then count later result sees is hold look = record {
        number = n;
        hold = hold;
        look =
            subst (λ (l : List (Staged D K)). AnswersLook (AnswersFrom w says l) least n r asked then count later result) (sym sees)
            (subst (λ k. AnswersLook (AnswersFrom w says seen) least k r asked then count later result) is
            (look_on (AnswersOver says caught) (AnswersFrom w says seen) s.seen over_from least r asked then count later result look));
      }

  -- memory ran out in the look
  pub unlooked_one : {E : Type 0} (r : Request) (query : IsQueryRequest r) (least : Least) (before after : PassView (Staged D K)) (asked : Option (List Asked)) (count : ℕ) (n : ℕ) (result : Result Answer E)
      → IfOk result (λ _. ⊥) → OneStageCall w generation (looked n) before after → LooksOne w generation says least r before after asked asked count count result
  unlooked_one {E} r query least before after asked count n result none hold =
      record { number = n; hold = hold; look = record { asked = []; reads = reads_nothing asked count; answered = by_result result none } }
    where
      by_result : (x : Result Answer E) → IfOk x (λ _. ⊥) → IsLookedBy (AnswersFrom w says after.seen) least n r [] x
      by_result (Ok a) none = absurd none
      by_result (Err e) none = inr (none_read r query)

  -- a query with a look
  pub looked_one : {E : Type 0} (r : Request) (least : Least) (before after : PassView (Staged D K)) (asked then : Option (List Asked)) (count later : ℕ) (result : Result Answer E)
      → least ≢ Bad → HeaderAsks (seen_field r) least → LooksOne w generation says least r before after asked then count later result → AsksOne w generation says r before after asked then count later result
  looked_one {E} r least before after asked then count later result other asks one =
      record { met = met; hold = one.hold; reads = one.look.reads; answered = by_result result one.look.answered }
    where
      met : LiveMet
      met = record { call = Some (looked one.number); asked = one.look.asked }

      At : ℕ → Request → List Asked → Answer → Type 0
      At = AnswersFrom w says after.seen

      as_look : (l : Least) (a : Answer) → l ≢ Bad → IsLookedAnswer At (lacks l one.number) one.number r one.look.asked a → IsLiveQueryAnswer At l r met a
      as_look Any a other h = (one.number, refl, h)
      as_look (AtLeast m) a other h = (one.number, refl, h)
      as_look Bad a other h = absurd (other refl)

      by_result : (x : Result Answer E) → IsLookedBy At least one.number r one.look.asked x → IsQueriedBy w generation says after.seen r met x
      by_result (Ok a) (h, code) = (least, asks, as_look least a other h, code)
      by_result (Err e) (inl (a, h)) = inl (a, least, asks, as_look least a other h)
      by_result (Err e) (inr read) = inr (inr ((one.number, refl), read))

  -- ---- a request to sweep

  module _ (now : ℤ) (r : Request) (sweep : is_sweep r.target ≡ true) (before after : PassView (Staged D K)) (asked : Option (List Asked)) (count : ℕ) where
    as_sweep : (met : LiveMet) (a : Answer) → IsSweepMethodAnswer (is_post r.method) r met a → IsLiveAnswer (AnswersFrom w says after.seen) now r met a
    as_sweep met a h = subst (λ b. IsAnswerOn (AnswersFrom w says after.seen) now b r met a) (sym sweep) h

    swept_live : {E : Type 0} (x : Result Answer E) (met : LiveMet) → IsSweptBy w generation r met x → IsAnsweredLive w generation says now after.seen r met x
    swept_live (Ok a) met (h, code) = record { is_answer = as_sweep met a h; code = code }
    swept_live (Err e) met (inl (other, h)) = inl (other, as_sweep met other h)
    swept_live (Err e) met (inr none) = inr (inl none)

    pub sweep_one : {E : Type 0} (result : Result Answer E) → SweepsOne w generation r before after result → AnswersOne w generation says now r before after asked asked count count result
    sweep_one result one = record {
      met = one.met;
      hold = one.hold;
      reads = subst (λ texts. Reads texts asked asked count count) (sym one.none_read) (reads_nothing asked count);
      answered = swept_live result one.met one.answered;
    }
