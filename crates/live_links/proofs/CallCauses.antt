-- Each call has its cause.
use Rattle.std.proofs.Common.{ℕ, ℤ, List, [], ◌∷◌, ◌++◌, map, take, drop, IfSome, sym, subst}
use Rattle.std.specs.List.{AllByRecursion}
use Rattle.live_stage.specs.lock_calls.turn_lock.declared.held.Hold.{Hold}
use Rattle.live_stage.specs.lock_calls.Calls.{IsCall, AreCalls}
use Rattle.core_ends.proofs.of_table_laws.of_plain_laws.Members.{all_both}
use Rattle.fleet_rows.specs.declared.submitted.Submitted.{Submitted}
use Rattle.fleet_rows.specs.declared.submitted.Submitted.TheVariants as submitted
use Rattle.live_stage.specs.core_ends.fleet_rows.declared.command.Command.{Command}
use Rattle.live_stage.specs.core_ends.fleet_rows.declared.settings.Kinds.{Kinds}
use Rattle.live_stage.specs.core_ends.core_course.Sight.{Sight}
use Rattle.live_stage.specs.core_ends.core_sweeps.declared.answers.Swept.{Swept}
use Rattle.live_stage.specs.core_ends.core_sweeps.declared.answers.Swept.TheVariants as swept
use Rattle.live_stage.specs.hub_calls.declared.entry.Entry.{Entry}
use Rattle.live_stage.specs.hub_calls.Entries.{entries}
use Rattle.live_stage.specs.declared.note.Refused.{Refused}
use Rattle.live_stage.specs.declared.note.Staged.{Staged}
use Rattle.live_stage.specs.declared.note.Staged.TheVariants.{Core, Noted}
use Rattle.live_stage.specs.Causes.{IsNoted, AreNoted}
use Rattle.live_stage.specs.Notes.{NoteView, StageView, list_of, with_notes, place_of}
use Rattle.live_stage.specs.StageCalls.{StageCall, looked, was_submitted, was_swept, was_claimed, was_settled, was_released, added, submit_note, submit_adds, sweep_note, sweep_adds, StageDoes}
use Rattle.live_links.specs.Causes.{note_of, IsCaused, EachCallIsCaused}

module _ (D K : Type 0) (P : Refused Command → Type 0) where
  -- P of the note, if the entry is one
  abbrev OfNote : Staged D K → Type 0
  OfNote (Core e) = Unit {0}
  OfNote (Noted what) = P what

  in_front : (xs ys : List (Staged D K)) → AllByRecursion OfNote (xs ++ ys) → AllByRecursion OfNote xs
  in_front [] ys h = tt
  in_front (x ∷ xs) ys h = (h.0, in_front xs ys h.1)

  behind : (xs ys : List (Staged D K)) → AllByRecursion OfNote (xs ++ ys) → AllByRecursion OfNote ys
  behind [] ys h = h
  behind (x ∷ xs) ys h = behind xs ys h.1

  no_notes : (es : List (Entry D K)) → AllByRecursion OfNote (map (λ e. Core e) es)
  no_notes [] = tt
  no_notes (e ∷ es) = (tt, no_notes es)

  -- what holds of each note holds of those among the entries
  all_noted : (notes : List NoteView) (es : List (Entry D K)) → AllByRecursion (λ (note : NoteView). P note.what) notes → AllByRecursion OfNote (with_notes notes es)
  all_noted [] es h = no_notes es
  all_noted (note ∷ earlier) es h =
      all_both OfNote (with_notes earlier (take (place_of note) es)) (Noted note.what ∷ map (λ e. Core e) (drop (place_of note) es)) (all_noted earlier (take (place_of note) es) h.1) (h.0, no_notes (drop (place_of note) es))

  -- ---- the note of a call

  of_submit : (came : Submitted) (c : Command) → AllByRecursion OfNote (submit_adds came c) → IfSome (submit_note came c) P
  of_submit (submitted.Receipt r) c h = tt
  of_submit submitted.Full c h = tt
  of_submit submitted.QueueFault c h = h.0
  of_submit submitted.Spent c h = tt
  of_submit submitted.Down c h = h.0
  of_submit submitted.Memory c h = tt

  of_sweep : (came : Swept) (kinds : Kinds) (m : ℤ) → AllByRecursion OfNote (sweep_adds came kinds m) → IfSome (sweep_note came kinds m) P
  of_sweep swept.Ok kinds m h = tt
  of_sweep swept.StoreFault kinds m h = h.0
  of_sweep swept.StoreDown kinds m h = h.0
  of_sweep swept.Spent kinds m h = tt
  of_sweep swept.Down kinds m h = h.0
  of_sweep swept.Memory kinds m h = tt

  of_call : (call : StageCall) → AllByRecursion OfNote (added call) → IfSome (note_of call) P
  of_call (looked n) h = tt
  of_call (was_submitted c came n) h = of_submit came c h
  of_call (was_swept kinds m came n) h = of_sweep came kinds m h
  of_call (was_claimed came events) h = tt
  of_call (was_settled job v came events) h = tt
  of_call (was_released job events) h = tt

module _ {D K : Type 0} (w : Sight D K) (generation : K → ℕ) where
  module _ (closed : StageView D K) (noted : AreNoted w closed) where
    one_caused : (h : Hold) (call : StageCall) → IsCall added (StageDoes w generation) (list_of closed) h call → IsCaused w generation closed call
    one_caused h call is =
        let P = IsNoted w closed.start closed.core in
        let all : AllByRecursion (OfNote D K P) (list_of closed) = all_noted D K P closed.notes (entries closed.start closed.core.events.list) noted in
        let there = subst (AllByRecursion (OfNote D K P)) (sym is.stands.1) all in
        record {
          found = is.does.before.core;
          left = is.does.after.core;
          did = is.does.did;
          noted = of_call D K P call (behind D K P is.found (added call) (in_front D K P (is.found ++ added call) is.stands.0 there));
        }

    all_caused : (hs : List Hold) (calls : List StageCall) → AreCalls added (StageDoes w generation) (list_of closed) hs calls → AllByRecursion (IsCaused w generation closed) calls
    all_caused [] [] are = tt
    all_caused [] (call ∷ calls) are = absurd are
    all_caused (h ∷ hs) [] are = absurd are
    all_caused (h ∷ hs) (call ∷ calls) are = (one_caused h call are.0, all_caused hs calls are.1)

  pub each_call_is_caused : EachCallIsCaused w generation
  each_call_is_caused pass calls closed knows on noted = all_caused closed noted pass.holds calls (knows (list_of closed) on)
