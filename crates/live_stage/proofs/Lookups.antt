-- Tables of the first events of the live trace stay those.
use Rattle.std.proofs.Common.{◌≡◌, ◌∙◌, false, ℕ, ◌-◌, ◌+◌, ◌≤◌, List, [], ◌∷◌, ◌++◌, map, reverse, length, take, drop, Option, Some, None, IfSome, Result, Ok, Err, OnOk, OnErr, refl, sym, ap, subst, arith, append_assoc, append-nil}
use Rattle.std.proofs.lemmas.List.{reverse-append, reverse-reverse, drop_at, take-append-drop, length-drop}
use mathlib.Core.List.{IsPrefix}
use Rattle.lock_calls.specs.Calls.{Lasts}
use Rattle.lock_calls.proofs.Lasting.{facts_last}
use Rattle.core_ends.specs.core_spec.History.{History, trace_of}
use Rattle.core_ends.specs.core_spec.Legal.{IsLegal}
use Rattle.core_ends.specs.core_state.declared.state.CoreState.{CoreState}
use Rattle.core_ends.specs.core_course.Sight.{Sight, Stood}
use Rattle.core_ends.specs.fleet_tables.Stands.{Stands}
use Rattle.core_ends.specs.history_spec.Trace.{Trace}
use Rattle.core_ends.specs.table_machine.Table.{Table}
use Rattle.hub_calls.specs.declared.entry.Entry.{Entry}
use Rattle.hub_calls.specs.declared.entry.Entry.TheVariants.{Opened, Happened}
use Rattle.hub_calls.specs.Entries.{entries}
use Rattle.hub_calls.specs.Follows.{Follows}
use Rattle.live_stage.specs.declared.note.Staged.{Staged}
use Rattle.live_stage.specs.Notes.{StageView, list_of}
use Rattle.live_stage.specs.declared.shelf.Step.{Step}
use Rattle.live_stage.specs.Shelf.{LeadsTo}
use Rattle.live_stage.specs.Trace.{live_count, trace_at, SnapshotView, snapshot, HasTrace, HasFirst, HasAll, HasFirstIn, IsShelf}
use Rattle.live_stage.proofs.Lists.{entries_found, entries_begin}
use Rattle.live_stage.proofs.Shelving.{leads_on, leads_split, leads_cut}
use Rattle.live_stage.proofs.Traces.{live_longer, counted, told_in_the_end, all_was_seen}

module _ {D K : Type 0} where
  abbrev event_in : Entry D K → History
  event_in (Opened core) = []
  event_in (Happened e) = e ∷ []

  -- the events of entries, newest first
  abbrev events_in : List (Entry D K) → History
  events_in [] = []
  events_in (e ∷ es) = events_in es ++ event_in e

  events_of_map : (d : CoreState D K) (es : History) → events_in (map (λ e. Happened e) es) ≡ reverse es
  events_of_map d [] = refl
  events_of_map d (e ∷ es) = ap (λ (l : History). l ++ e ∷ []) (events_of_map d es) ∙ sym (reverse-append (e ∷ []) es)

  events_are : (start : CoreState D K) (events : History) → events_in (entries start events) ≡ events
  events_are start events = append-nil (events_in (map (λ e. Happened e) (reverse events))) ∙ (events_of_map start (reverse events) ∙ reverse-reverse events)

  events_behind : (xs ys : List (Entry D K)) → events_in (xs ++ ys) ≡ events_in ys ++ events_in xs
  events_behind [] ys = sym (append-nil (events_in ys))
  events_behind (x ∷ xs) ys = ap (λ (l : History). l ++ event_in x) (events_behind xs ys) ∙ append_assoc (events_in ys) (events_in xs) (event_in x)

  abbrev opened : CoreState D K → List (Entry D K) → CoreState D K
  opened d (Opened core ∷ es) = core
  opened d es = d

  -- a stage whose list goes on: the same opening, and more events
  pub goes_on : (x y : StageView D K) → IsPrefix (list_of x) (list_of y) → (y.start ≡ x.start) × ((more : History) × (y.core.events.list ≡ more ++ x.core.events.list))
  goes_on x y pre =
      let begins = entries_begin (list_of x) (list_of y) pre in
      let ex = entries x.start x.core.events.list in
      let ey = entries y.start y.core.events.list in
      let whole : ex ++ begins.0 ≡ ey = ap (λ l. l ++ begins.0) (sym (entries_found x.notes ex)) ∙ (begins.1 ∙ entries_found y.notes ey) in (
        sym (ap (opened x.start) whole),
        (
          events_in begins.0,
          sym (events_are y.start y.core.events.list) ∙ (ap (λ l. events_in l) (sym whole) ∙ (events_behind ex begins.0 ∙ ap (λ (l : History). events_in begins.0 ++ l) (events_are x.start x.core.events.list))),
        ),
      )

module _ {D K : Type 0} (w : Sight D K) where
  -- each history that the core stands for is legal
  legal_of : (start core : CoreState D K) → Follows w false start core → (h : History) → Stood w start h → IsLegal core.tables.ttls (core.events.list ++ h)
  legal_of start core follows h stood = (follows.passed.stands h stood).holds.says.plain.legal

  -- the tables of the first events, of a stage that goes on
  first_later : (x y : StageView D K) (s : SnapshotView) → Follows w false x.start x.core → HasFirst w x s → y.start ≡ x.start → (more : History) → y.core.events.list ≡ more ++ x.core.events.list → HasFirst w y s
  first_later x y s follows first start more is = record {
    lifetimes = first.lifetimes ∙ ap (λ (core : CoreState D K). core.tables.ttls) (sym start);
    seen = subst (λ (es : History). s.seen ≤ live_count es) (sym is) (live_longer more x.core.events.list s.seen first.seen);
    tables = λ h stood.
        let was : Stood w x.start h = subst (λ (core : CoreState D K). Stood w core h) start stood in
        subst (HasTrace s)
        (sym (ap (λ (es : History). trace_at h es s.seen) is ∙ told_in_the_end x.core.tables.ttls h x.core.events.list more s.seen (legal_of x.start x.core follows h was) first.seen))
        (first.tables h was);
  }

  -- what was looked at in a hold lasts
  pub first_lasts : (stage : StageView D K) (s : SnapshotView) (seen : List (Staged D K)) → Follows w false stage.start stage.core → HasFirst w stage s → seen ≡ list_of stage → Lasts (HasFirstIn w s) seen
  first_lasts stage s seen follows first is final on later final_is =
      let pre : IsPrefix (list_of stage) (list_of later) = subst (λ (l : List (Staged D K)). IsPrefix l (list_of later)) is (subst (IsPrefix seen) final_is on) in
      let next = goes_on stage later pre in
      first_later stage later s follows first next.0 next.1.0 next.1.1

  -- the whole live trace of a stage is the trace of its history
  at_end : (stage : StageView D K) (n : ℕ) → Follows w false stage.start stage.core → n ≡ live_count stage.core.events.list → (h : History) → Stood w stage.start h
      → trace_at h stage.core.events.list n ≡ trace_of (stage.core.events.list ++ h)
  at_end stage n follows all h stood =
      ap (trace_at h stage.core.events.list) all ∙ all_was_seen stage.core.tables.ttls h stage.core.events.list (legal_of stage.start stage.core follows h stood)

  -- tables that stand for all that the core's tables stand for have the whole live trace
  pub whole_first : (stage : StageView D K) (n : ℕ) (tables : Table) → Follows w false stage.start stage.core → n ≡ live_count stage.core.events.list
      → tables.ttls ≡ stage.core.tables.ttls → ((history : Trace) → Stands stage.core.tables history → Stands tables history) → HasFirst w stage (snapshot n tables [])
  whole_first stage n tables follows all lifetimes same = record {
    lifetimes = lifetimes ∙ follows.passed.opening.lifetimes;
    seen = subst (λ k. k ≤ live_count stage.core.events.list) (sym all) (omega arith);
    tables = λ h stood.
        let trace = trace_of (stage.core.events.list ++ h) in
        let now = same trace (follows.passed.stands h stood).holds.says.tables in
        subst (HasTrace (snapshot n tables [])) (sym (at_end stage n follows all h stood)) (now.0, (trace, now, refl));
  }

  -- tables that have the first events, and behind them the steps of the shelf that they lack
  pub brought_first : (stage : StageView D K) (s : SnapshotView) (steps all : List Step) (lack n : ℕ) → Follows w false stage.start stage.core → IsShelf w stage.start stage.core steps → HasFirst w stage s
      → n ≡ live_count stage.core.events.list → lack ≡ n - s.seen → lack ≤ length steps → all ≡ s.behind ++ drop (length steps - lack) steps → HasFirst w stage (snapshot n s.tables all)
  brought_first stage s steps all lack n follows shelf first n_is lack_is le all_is = record {
    lifetimes = first.lifetimes;
    seen = subst (λ k. k ≤ live_count stage.core.events.list) (sym n_is) (omega arith);
    tables = λ h stood.
        let events = stage.core.events.list in
        let whole = trace_of (events ++ h) in
        let from = length steps - lack in
        let found = shelf h stood in
        let split = leads_split found.0 (take from steps) (drop from steps) whole (subst (λ (l : List Step). LeadsTo found.0 l whole) (sym (take-append-drop from steps)) found.1) in
        let cut = leads_cut split.0 (drop from steps) whole split.2 in
        let long : length (drop from steps) ≡ lack = let d : length (drop from steps) ≡ length steps - from = length-drop from steps in omega arith in
        let size = counted stage.core.tables.ttls h events (legal_of stage.start stage.core follows h stood) in
        let place : length whole - (length (trace_of h) + s.seen) ≡ length cut.0 = let f = first.seen in let e = cut.1 in omega arith in
        let here : trace_at h events s.seen ≡ split.0 = ap (λ k. drop k whole) place ∙ (ap (drop (length cut.0)) cut.2 ∙ drop_at cut.0 split.0 (length cut.0) refl) in
        let had = first.tables h stood in
        let joined = leads_on had.1.0 s.behind (drop from steps) split.0 whole (subst (LeadsTo had.1.0 s.behind) here had.1.2) split.2 in
        subst (HasTrace (snapshot n s.tables all)) (sym (at_end stage n follows n_is h stood))
        ((follows.passed.stands h stood).holds.says.tables.0, (had.1.0, had.1.1, subst (λ (l : List Step). LeadsTo had.1.0 l whole) (sym all_is) joined));
  }

  pub brought_all : {A B : Type 0} (answer : Result A B) (stage : StageView D K) (s now : SnapshotView) (steps : List Step) (lack n from : ℕ) → Follows w false stage.start stage.core → IsShelf w stage.start stage.core steps → HasFirst w stage s
      → n ≡ live_count stage.core.events.list → lack ≡ n - s.seen → lack ≤ length steps → from ≡ length steps - lack → OnOk answer (now ≡ snapshot n s.tables (s.behind ++ drop from steps)) → OnOk answer (HasAll w stage now)
  brought_all (Ok a) stage s now steps lack n from follows shelf first n_is lack_is le from_is made =
      subst (HasAll w stage) (sym made) (n_is, brought_first stage s steps (s.behind ++ drop from steps) lack n follows shelf first n_is lack_is le (ap (λ k. s.behind ++ drop k steps) from_is))
  brought_all (Err b) stage s now steps lack n from follows shelf first n_is lack_is le from_is made = tt

  -- tables that were caught up have the same events
  pub caught_up_lasts : (s now : SnapshotView) (seen : List (Staged D K)) → now.seen ≡ s.seen → now.tables.ttls ≡ s.tables.ttls → ((trace : Trace) → HasTrace s trace → HasTrace now trace)
      → Lasts (HasFirstIn w s) seen → Lasts (HasFirstIn w now) seen
  caught_up_lasts s now seen same lifetimes traces lasts final on stage is =
      let had = lasts final on stage is in
      record {
        lifetimes = lifetimes ∙ had.lifetimes;
        seen = subst (λ k. k ≤ live_count stage.core.events.list) (sym same) had.seen;
        tables = λ h stood.
            let events = stage.core.events.list in
            subst (λ k. HasTrace now (trace_at h events k)) (sym same) (traces (trace_at h events s.seen) (had.tables h stood));
      }

  -- ---- a hold with a look

  -- what is kept has the first events of the stage found
  pub kept_here : (kept : Option SnapshotView) (seen : List (Staged D K)) (stage : StageView D K) → IsPrefix seen (list_of stage) → IfSome kept (λ s. Lasts (HasFirstIn w s) seen) → IfSome kept (λ s. HasFirst w stage s)
  kept_here None seen stage begins lasts = tt
  kept_here (Some s) seen stage begins lasts = lasts (list_of stage) begins stage refl

  whole_lasts : (now : Option SnapshotView) (n : ℕ) (stage : StageView D K) (after : List (Staged D K)) → after ≡ list_of stage → Follows w false stage.start stage.core
      → IfSome now (λ s. (s.seen ≡ n) × HasFirst w stage s) → IfSome now (λ s. Lasts (HasFirstIn w s) after)
  whole_lasts None n stage after is follows first = tt
  whole_lasts (Some s) n stage after is follows first = first_lasts stage s after follows first.1 is

  kept_lasts : (now : Option SnapshotView) (before after : List (Staged D K)) → IsPrefix before after → IfSome now (λ s. Lasts (HasFirstIn w s) before) → IfSome now (λ s. Lasts (HasFirstIn w s) after)
  kept_lasts None before after begins lasts = tt
  kept_lasts (Some s) before after begins lasts = facts_last (HasFirstIn w s) before after begins lasts

  -- what is kept behind the hold lasts, whether or not there was memory
  pub looked_lasts : {A B : Type 0} (answer : Result A B) (kept now : Option SnapshotView) (n : ℕ) (stage : StageView D K) (before after : List (Staged D K)) → IsPrefix before (list_of stage) → after ≡ list_of stage
      → Follows w false stage.start stage.core → IfSome kept (λ s. Lasts (HasFirstIn w s) before) → OnOk answer (IfSome now (λ s. (s.seen ≡ n) × HasFirst w stage s)) → OnErr answer (now ≡ kept)
      → IfSome now (λ s. Lasts (HasFirstIn w s) after)
  looked_lasts (Ok a) kept now n stage before after begins is follows lasts ok err = whole_lasts now n stage after is follows ok
  looked_lasts (Err b) kept now n stage before after begins is follows lasts ok err =
      subst (λ (o : Option SnapshotView). IfSome o (λ s. Lasts (HasFirstIn w s) after)) (sym err) (kept_lasts kept before after (subst (IsPrefix before) (sym is) begins) lasts)

-- what is kept has so many events
pub kept_number : (P : SnapshotView → Type 0) {A B : Type 0} (answer : Result A B) (now : Option SnapshotView) (n : ℕ) → OnOk answer (IfSome now (λ s. (s.seen ≡ n) × P s)) → OnOk answer (IfSome now (λ s. s.seen ≡ n))
kept_number P (Ok a) None n ok = tt
kept_number P (Ok a) (Some s) n ok = ok.0
kept_number P (Err b) now n ok = tt
