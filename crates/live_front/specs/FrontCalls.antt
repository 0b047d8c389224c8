-- The calls of threads that share a front, and what all of them are at the close.
use Rattle.std.specs.Prelude.{◌≡◌, ◌≤◌, ◌↔◌, ℕ, true, List, [], ◌∷◌, length, Option}
use mathlib.Core.List.{IsPrefix}
use Rattle.turn_lock.specs.Holds.{total}
use Rattle.turn_lock.specs.Seen.{PassView}
use Rattle.lock_calls.specs.Calls.{KnowsCalls}
use Rattle.live_front.specs.declared.entry.Passing.{Passing}
use Rattle.live_front.specs.declared.entry.Passing.TheVariants.{Opened, Back}
use Rattle.live_front.specs.declared.entry.Taken.{Taken}
use Rattle.live_front.specs.declared.entry.Taken.TheVariants as taken
use Rattle.live_front.specs.declared.entry.End.{End}
use Rattle.live_front.specs.Entries.{links_out, ends, listed, list_over, taken_entries}
use Rattle.live_front.specs.Courses.{FrontSight, FrontCourse}

-- a call of `take`, with its answer, or of `give_back`, with the link
pub data FrontCall (L : Type 0) : Type 0 where
  took : Taken L → FrontCall L
  gave : L → FrontCall L

module _ {F L : Type 0} where
  -- what the call appends
  abbrev pub entries_added : FrontCall L → List (Passing F L)
  entries_added (took answer) = taken_entries answer
  entries_added (gave link) = Back link ∷ []

  -- a call of `take` answers Over exactly if no further link is handed out
  abbrev pub FrontCallDoes : FrontCall L → List (Passing F L) → Type 0
  FrontCallDoes (took answer) found = (answer ≡ taken.Over) ↔ (list_over found ≡ true)
  FrontCallDoes (gave link) found = Unit {0}

  -- What passed since the front came leads to the front that was taken out. Each entry is of one call of the pass that has all holds.
  pub record ClosedFrom (w : FrontSight F L) (start : F) (limit : ℕ) (pass : PassView (Passing F L)) (front : F) (out : ℕ) (end : Option End) : Type 0 where
    pub passed : List (Passing F L)
    pub course : FrontCourse w start passed front
    pub out_is : out ≡ length (links_out passed)
    pub within : out ≤ limit
    pub end_is : ends passed ≡ listed end
    pub seen : IsPrefix pass.seen (Opened start limit ∷ passed)
    pub calls : (calls : List (FrontCall L)) → KnowsCalls entries_added FrontCallDoes pass calls
        → (weight : Passing F L → ℕ) → total (λ call. total weight (entries_added call)) calls ≡ total weight passed
