-- Calls under a lock. Each hold of a pass is one call, which found a list and appended entries to it.
use Rattle.std.specs.Prelude.{◌≡◌, ℕ, List, [], ◌∷◌, ◌++◌, length, drop}
use mathlib.Core.List.{IsPrefix}
use Rattle.turn_lock.specs.declared.held.Hold.{Hold}
use Rattle.turn_lock.specs.Holds.{hold, total, AppendAll}
use Rattle.turn_lock.specs.Seen.{PassView, LongerOf}

-- What holds of every list that goes on from what was seen: it stays so, whatever other threads append
abbrev pub Lasts : {E : Type 0} → (List E → Type 0) → List E → Type 0
Lasts {E} Q seen = (final : List E) → IsPrefix seen final → Q final

-- `adds` tells what a call appends, and `Does` what a call does at the list that it finds.
module _ {E C : Type 0} (adds : C → List E) (Does : C → List E → Type 0) where
  -- In the final list the hold is this call. The list that it found begins the final list, and what the call adds follows there.
  pub record IsCall (final : List E) (h : Hold) (call : C) : Type 0 where
    pub found : List E
    pub found_is : h.found ≡ length found
    pub does : Does call found
    pub left_is : h.left ≡ length (found ++ adds call)
    pub stands : IsPrefix (found ++ adds call) final

  -- the holds are these calls, in their order
  abbrev pub AreCalls : List E → List Hold → List C → Type 0
  AreCalls final [] [] = Unit {0}
  AreCalls final [] (call ∷ calls) = ⊥
  AreCalls final (h ∷ hs) [] = ⊥
  AreCalls final (h ∷ hs) (call ∷ calls) = IsCall final h call × AreCalls final hs calls

  -- in every list that goes on from what the pass has seen, its holds are these calls
  abbrev pub KnowsCalls : PassView E → List C → Type 0
  KnowsCalls pass calls = Lasts (λ final. AreCalls final pass.holds calls) pass.seen

  -- One hold, in which this call was made. It found a list that goes on from all that was seen, and the pass has then seen that list
  -- with what the call adds.
  pub record OneCall (call : C) (before after : PassView E) : Type 0 where
    pub number : ℕ
    pub found : List E
    pub begins : IsPrefix before.seen found
    pub does : Does call found
    pub seen : after.seen ≡ found ++ adds call
    pub holds : after.holds ≡ before.holds ++ hold number (length found) (length after.seen) ∷ []

-- ---- laws

module _ {E C : Type 0} (adds : C → List E) (Does : C → List E → Type 0) where
  -- a pass without holds has no calls
  abbrev pub FreshPassKnows : Type 0
  FreshPassKnows = (pass : PassView E) → pass.holds ≡ [] → KnowsCalls adds Does pass []

  -- a hold is one call more
  abbrev pub CallIsKnown : Type 0
  CallIsKnown = (call : C) (calls : List C) (before after : PassView E) → KnowsCalls adds Does before calls → OneCall adds Does call before after → KnowsCalls adds Does after (calls ++ call ∷ [])

  -- a pass that took another one in knows the calls of both
  abbrev pub JoinedPassKnows : Type 0
  JoinedPassKnows =
      (into from both : PassView E) (calls others : List C) → KnowsCalls adds Does into calls → KnowsCalls adds Does from others
      → LongerOf into.seen from.seen both.seen → both.holds ≡ into.holds ++ from.holds → KnowsCalls adds Does both (calls ++ others)

  -- Where a pass has all holds, its calls appended what the final list has behind the opening, each entry once: however entries are
  -- weighed, both weigh the same
  abbrev pub EachEntryIsOfOneCall : Type 0
  EachEntryIsOfOneCall =
      (pass : PassView E) (calls : List C) (opening : ℕ) (final : List E) → KnowsCalls adds Does pass calls → IsPrefix pass.seen final → AppendAll opening pass.holds (length final)
      → (weight : E → ℕ) → total (λ call. total weight (adds call)) calls ≡ total weight (drop opening final)
