-- The trace of a history that goes on.
use Rattle.std.proofs.Common.{◌≡◌, ◌∙◌, ℕ, suc, ◌+◌, ◌-◌, ◌≤◌, ℤ, [], ◌∷◌, ◌++◌, length, drop, Option, Some, None, Result, Ok, Err, refl, sym, ap, arith, append_assoc, length-append}
use Rattle.std.proofs.lemmas.List.{drop_at, drop-drop}
use Rattle.core_ends.specs.fleet_rows.declared.change.Change.{Change}
use Rattle.core_ends.specs.fleet_rows.declared.refusal.Refusal.{Refusal}
use Rattle.core_ends.specs.fleet_rows.declared.settings.Ttls.{Ttls}
use Rattle.core_ends.specs.history_spec.Trace.{Trace, applied_as, swept}
use Rattle.core_ends.specs.history_spec.Trace as trace
use Rattle.core_ends.specs.core_spec.declared.event.Event.TheVariants.{Submit, Claim, Release, Apply, Supersede, Fail, Discard, Sweep, Restart}
use Rattle.core_ends.specs.core_spec.History.{History, answer, with_applied, trace_of}
use Rattle.core_ends.specs.core_spec.Legal.{IsLegal}
use Rattle.live_stage.specs.Trace.{live_count, oldest, trace_at}

applied_on : (r : ℕ) (t : Option ℤ) (a : Option (Result Change Refusal)) (xs earlier : Trace) → (fresh : Trace) × (xs ≡ fresh ++ earlier) → (fresh : Trace) × (with_applied r t a xs ≡ fresh ++ earlier)
applied_on r t None xs earlier h = h
applied_on r t (Some (Err refusal)) xs earlier h = h
applied_on r t (Some (Ok change)) xs earlier h = (trace.applied (applied_as r t change) ∷ h.0, ap (λ l. trace.applied (applied_as r t change) ∷ l) h.1)

-- the trace of a longer history goes on from that of the shorter
pub traces_go_on : (more earlier : History) → (fresh : Trace) × (trace_of (more ++ earlier) ≡ fresh ++ trace_of earlier)
traces_go_on [] earlier = ([], refl)
traces_go_on (Apply r t ∷ more) earlier = applied_on r t (answer r (more ++ earlier)) (trace_of (more ++ earlier)) (trace_of earlier) (traces_go_on more earlier)
traces_go_on (Sweep kinds m ∷ more) earlier = let h = traces_go_on more earlier in (swept kinds m ∷ h.0, ap (λ l. swept kinds m ∷ l) h.1)
traces_go_on (Submit r c ∷ more) earlier = traces_go_on more earlier
traces_go_on (Claim r ∷ more) earlier = traces_go_on more earlier
traces_go_on (Release r ∷ more) earlier = traces_go_on more earlier
traces_go_on (Supersede q p ∷ more) earlier = traces_go_on more earlier
traces_go_on (Fail r before after ∷ more) earlier = traces_go_on more earlier
traces_go_on (Discard r why ∷ more) earlier = traces_go_on more earlier
traces_go_on (Restart ∷ more) earlier = traces_go_on more earlier

counted_on : (r : ℕ) (t : Option ℤ) (a : Option (Result Change Refusal)) (change : Change) (xs : Trace) → a ≡ Some (Ok change) → length (with_applied r t a xs) ≡ suc (length xs)
counted_on r t a change xs is = ap (λ (o : Option (Result Change Refusal)). length (with_applied r t o xs)) is

-- in a legal history each applied command and each sweep is one more
pub counted : (ttls : Ttls) (start events : History) → IsLegal ttls (events ++ start) → length (trace_of (events ++ start)) ≡ length (trace_of start) + live_count events
counted ttls start [] legal = omega arith
counted ttls start (Apply r t ∷ es) legal =
    let rest = counted ttls start es legal.1 in let here = counted_on r t (answer r (es ++ start)) legal.0.change (trace_of (es ++ start)) legal.0.decodes in omega arith
counted ttls start (Sweep kinds m ∷ es) legal = let rest = counted ttls start es legal.1 in omega arith
counted ttls start (Submit r c ∷ es) legal = counted ttls start es legal.1
counted ttls start (Claim r ∷ es) legal = counted ttls start es legal.1
counted ttls start (Release r ∷ es) legal = counted ttls start es legal.1
counted ttls start (Supersede q p ∷ es) legal = counted ttls start es legal.1
counted ttls start (Fail r before after ∷ es) legal = counted ttls start es legal.1
counted ttls start (Discard r why ∷ es) legal = counted ttls start es legal.1
counted ttls start (Restart ∷ es) legal = counted ttls start es legal.1

oldest_stay : (more earlier : History) (n : ℕ) → n ≤ length (trace_of earlier) → oldest n (trace_of (more ++ earlier)) ≡ oldest n (trace_of earlier)
oldest_stay more earlier n le =
    let g = traces_go_on more earlier in
    let long : length (trace_of (more ++ earlier)) ≡ length g.0 + length (trace_of earlier) = ap (λ (l : Trace). length l) g.1 ∙ length-append g.0 (trace_of earlier) in
    let place : length (trace_of (more ++ earlier)) - n ≡ length g.0 + (length (trace_of earlier) - n) = omega arith in
    ap (λ k. drop k (trace_of (more ++ earlier))) place ∙ (ap (drop (length g.0 + (length (trace_of earlier) - n))) g.1
    ∙ (sym (drop-drop (length (trace_of earlier) - n) (length g.0) (g.0 ++ trace_of earlier)) ∙ ap (drop (length (trace_of earlier) - n)) (drop_at g.0 (trace_of earlier) (length g.0) refl)))

-- what was told of the first n of the live trace is told of them in the end
pub told_in_the_end : (ttls : Ttls) (start events more : History) (n : ℕ) → IsLegal ttls (events ++ start) → n ≤ live_count events → trace_at start (more ++ events) n ≡ trace_at start events n
told_in_the_end ttls start events more n legal le =
    ap (λ (h : History). oldest (length (trace_of start) + n) (trace_of h)) (append_assoc more events start)
    ∙ oldest_stay more (events ++ start) (length (trace_of start) + n) (let c = counted ttls start events legal in omega arith)

-- the whole live trace is the trace of the history
pub all_was_seen : (ttls : Ttls) (start events : History) → IsLegal ttls (events ++ start) → trace_at start events (live_count events) ≡ trace_of (events ++ start)
all_was_seen ttls start events legal =
    ap (λ k. drop k (trace_of (events ++ start)))
    (let c = counted ttls start events legal in let z : length (trace_of (events ++ start)) - (length (trace_of start) + live_count events) ≡ 0 = omega arith in z)

-- the live trace gets no shorter
pub live_longer : (more earlier : History) (n : ℕ) → n ≤ live_count earlier → n ≤ live_count (more ++ earlier)
live_longer [] earlier n le = le
live_longer (Apply r t ∷ more) earlier n le = let rest = live_longer more earlier n le in omega arith
live_longer (Sweep kinds m ∷ more) earlier n le = let rest = live_longer more earlier n le in omega arith
live_longer (Submit r c ∷ more) earlier n le = live_longer more earlier n le
live_longer (Claim r ∷ more) earlier n le = live_longer more earlier n le
live_longer (Release r ∷ more) earlier n le = live_longer more earlier n le
live_longer (Supersede q p ∷ more) earlier n le = live_longer more earlier n le
live_longer (Fail r before after ∷ more) earlier n le = live_longer more earlier n le
live_longer (Discard r why ∷ more) earlier n le = live_longer more earlier n le
live_longer (Restart ∷ more) earlier n le = live_longer more earlier n le
