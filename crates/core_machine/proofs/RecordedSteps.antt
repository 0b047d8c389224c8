-- The steps of what is recorded lead to what waits after a restart.
use Rattle.std.proofs.Common.{◌≡◌, ◌∙◌, ℕ, ◌==◌, List, [], ◌∷◌, ◌++◌, refl, sym, ap, Bool, true, false, if◌then◌else◌, Some}
use Rattle.std.specs.List.{flat_map}
use Rattle.std.specs.Option.{option_map}
use Rattle.std.proofs.lemmas.Grind.{flat_map-append}
use Rattle.std.proofs.lemmas.List.{append-nil}
use Rattle.core_spec.specs.history_spec.Trace.{Trace, swept}
use Rattle.core_spec.specs.declared.event.Event.{Event}
use Rattle.core_spec.specs.declared.event.Event.TheVariants.{Submit, Claim, Release, Apply, Supersede, Fail, Discard, Sweep, Restart}
use Rattle.core_spec.specs.declared.entry.Entry.{Entry}
use Rattle.core_spec.specs.Commands.{answer_of}
use Rattle.core_spec.specs.History.{History, last_receipt, command, with_applied, trace_of}
use Rattle.core_spec.specs.Pending.{pending_of}
use Rattle.core_machine.specs.Recorded.{recorded, RecordsTellThePending, RecordsTellTheRest}
use Rattle.core_machine.specs.Steps.{marked, failed, at_receipt, left_by, new_entry, added_by, pending_run}
use Rattle.core_machine.proofs.PendingSteps.{pending_is_followed, steps_make_the_pending}

abbrev unmarked : List Entry → List Entry
unmarked = flat_map (left_by Restart)

-- ---- one entry, by what becomes of it

step_marked : (b : Bool) (m : Bool) (e : Entry) (es fs : List Entry) → unmarked es ≡ fs → unmarked ((if b then marked m e ∷ [] else e ∷ []) ++ es) ≡ marked false e ∷ fs
step_marked true m e es fs h = ap (λ gs. marked false e ∷ gs) h
step_marked false m e es fs h = ap (λ gs. marked false e ∷ gs) h

all_marked : (r : ℕ) (m : Bool) (es : List Entry) → unmarked (flat_map (at_receipt r (λ e. marked m e ∷ [])) es) ≡ unmarked es
all_marked r m [] = refl
all_marked r m (e ∷ es) = step_marked (r == e.receipt) m e (flat_map (at_receipt r (λ e. marked m e ∷ [])) es) (unmarked es) (all_marked r m es)

all_unmarked : (es : List Entry) → unmarked (unmarked es) ≡ unmarked es
all_unmarked [] = refl
all_unmarked (e ∷ es) = ap (λ gs. marked false e ∷ gs) (all_unmarked es)

step_out : (b : Bool) (e : Entry) (es fs : List Entry) → unmarked es ≡ fs → unmarked ((if b then [] else e ∷ []) ++ es) ≡ (if b then [] else marked false e ∷ []) ++ fs
step_out true e es fs h = h
step_out false e es fs h = ap (λ gs. marked false e ∷ gs) h

all_out : (r : ℕ) (es : List Entry) → unmarked (flat_map (at_receipt r (λ e. [])) es) ≡ flat_map (at_receipt r (λ e. [])) (unmarked es)
all_out r [] = refl
all_out r (e ∷ es) = step_out (r == e.receipt) e (flat_map (at_receipt r (λ e. [])) es) (flat_map (at_receipt r (λ e. [])) (unmarked es)) (all_out r es)

step_failed : (b : Bool) (e : Entry) (es fs : List Entry) → unmarked es ≡ fs → unmarked ((if b then failed e ∷ [] else e ∷ []) ++ es) ≡ (if b then failed (marked false e) ∷ [] else marked false e ∷ []) ++ fs
step_failed true e es fs h = ap (λ gs. failed e ∷ gs) h
step_failed false e es fs h = ap (λ gs. marked false e ∷ gs) h

all_failed : (r : ℕ) (es : List Entry) → unmarked (flat_map (at_receipt r (λ e. failed e ∷ [])) es) ≡ flat_map (at_receipt r (λ e. failed e ∷ [])) (unmarked es)
all_failed r [] = refl
all_failed r (e ∷ es) = step_failed (r == e.receipt) e (flat_map (at_receipt r (λ e. failed e ∷ [])) es) (flat_map (at_receipt r (λ e. failed e ∷ [])) (unmarked es)) (all_failed r es)

all_stay : (es : List Entry) → unmarked (flat_map (λ e. e ∷ []) es) ≡ flat_map (λ e. e ∷ []) (unmarked es)
all_stay [] = refl
all_stay (e ∷ es) = ap (λ gs. marked false e ∷ gs) (all_stay es)

-- ---- one event

nothing_added : (xs : List Entry) → xs ++ [] ≡ xs
nothing_added xs = append-nil xs

through : (e : Event) (es fs : List Entry) → added_by e ≡ [] → unmarked es ≡ fs → unmarked (flat_map (left_by e) es) ≡ flat_map (left_by e) fs → unmarked (flat_map (left_by e) es ++ added_by e) ≡ flat_map (left_by e) fs ++ added_by e
through e es fs none h step =
    ap (λ xs. unmarked (flat_map (left_by e) es ++ xs)) none ∙ ap unmarked (nothing_added (flat_map (left_by e) es)) ∙ step
    ∙ sym (nothing_added (flat_map (left_by e) fs)) ∙ ap (λ xs. flat_map (left_by e) fs ++ xs) (sym none)

told : (history : History) → unmarked (pending_run history) ≡ pending_run (recorded history)
told [] = refl
told (Submit r c ∷ earlier) =
    flat_map-append (left_by Restart) (flat_map (left_by (Submit r c)) (pending_run earlier)) (new_entry r c ∷ [])
    ∙ ap (λ xs. xs ++ new_entry r c ∷ []) (all_stay (pending_run earlier) ∙ ap (flat_map (λ e. e ∷ [])) (told earlier))
told (Claim r ∷ earlier) = ap unmarked (nothing_added (flat_map (left_by (Claim r)) (pending_run earlier))) ∙ all_marked r true (pending_run earlier) ∙ told earlier
told (Release r ∷ earlier) = ap unmarked (nothing_added (flat_map (left_by (Release r)) (pending_run earlier))) ∙ all_marked r false (pending_run earlier) ∙ told earlier
told (Apply r t ∷ earlier) = through (Apply r t) (pending_run earlier) (pending_run (recorded earlier)) refl (told earlier) (all_out r (pending_run earlier) ∙ ap (flat_map (at_receipt r (λ e. []))) (told earlier))
told (Supersede q p ∷ earlier) = through (Supersede q p) (pending_run earlier) (pending_run (recorded earlier)) refl (told earlier) (all_out q (pending_run earlier) ∙ ap (flat_map (at_receipt q (λ e. []))) (told earlier))
told (Fail r before after ∷ earlier) = through (Fail r before after) (pending_run earlier) (pending_run (recorded earlier)) refl (told earlier) (all_failed r (pending_run earlier) ∙ ap (flat_map (at_receipt r (λ e. failed e ∷ []))) (told earlier))
told (Discard r cause ∷ earlier) = through (Discard r cause) (pending_run earlier) (pending_run (recorded earlier)) refl (told earlier) (all_out r (pending_run earlier) ∙ ap (flat_map (at_receipt r (λ e. []))) (told earlier))
told (Sweep kinds m ∷ earlier) = through (Sweep kinds m) (pending_run earlier) (pending_run (recorded earlier)) refl (told earlier) (all_stay (pending_run earlier) ∙ ap (flat_map (λ e. e ∷ [])) (told earlier))
told (Restart ∷ earlier) = ap unmarked (nothing_added (unmarked (pending_run earlier))) ∙ all_unmarked (pending_run earlier) ∙ told earlier

pub records_tell_the_pending : RecordsTellThePending
records_tell_the_pending ttls history l =
    sym (told history) ∙ ap unmarked (steps_make_the_pending ttls history l)
    ∙ sym (nothing_added (unmarked (pending_of history))) ∙ pending_is_followed ttls Restart history (tt, l)

-- ---- the rest

same_command : (r : ℕ) (history : History) → command r (recorded history) ≡ command r history
same_command r [] = refl
same_command r (Submit q c ∷ earlier) = ap (λ o. if q == r then Some c else o) (same_command r earlier)
same_command r (Claim q ∷ earlier) = same_command r earlier
same_command r (Release q ∷ earlier) = same_command r earlier
same_command r (Apply q t ∷ earlier) = same_command r earlier
same_command r (Supersede q p ∷ earlier) = same_command r earlier
same_command r (Fail q before after ∷ earlier) = same_command r earlier
same_command r (Discard q cause ∷ earlier) = same_command r earlier
same_command r (Sweep kinds m ∷ earlier) = same_command r earlier
same_command r (Restart ∷ earlier) = same_command r earlier

same_last : (history : History) → last_receipt (recorded history) ≡ last_receipt history
same_last [] = refl
same_last (Submit q c ∷ earlier) = refl
same_last (Claim q ∷ earlier) = same_last earlier
same_last (Release q ∷ earlier) = same_last earlier
same_last (Apply q t ∷ earlier) = same_last earlier
same_last (Supersede q p ∷ earlier) = same_last earlier
same_last (Fail q before after ∷ earlier) = same_last earlier
same_last (Discard q cause ∷ earlier) = same_last earlier
same_last (Sweep kinds m ∷ earlier) = same_last earlier
same_last (Restart ∷ earlier) = same_last earlier

same_trace : (history : History) → trace_of (recorded history) ≡ trace_of history
same_trace [] = refl
same_trace (Submit q c ∷ earlier) = same_trace earlier
same_trace (Claim q ∷ earlier) = same_trace earlier
same_trace (Release q ∷ earlier) = same_trace earlier
same_trace (Apply q t ∷ earlier) = λ i. with_applied q t (option_map answer_of (same_command q earlier i)) (same_trace earlier i)
same_trace (Supersede q p ∷ earlier) = same_trace earlier
same_trace (Fail q before after ∷ earlier) = same_trace earlier
same_trace (Discard q cause ∷ earlier) = same_trace earlier
same_trace (Sweep kinds m ∷ earlier) = ap (λ (t : Trace). swept kinds m ∷ t) (same_trace earlier)
same_trace (Restart ∷ earlier) = same_trace earlier

pub records_tell_the_rest : RecordsTellTheRest
records_tell_the_rest history = (same_last history, same_trace history)
