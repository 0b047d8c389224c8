-- Links that a lane serves: each is taken from the shared front, served to its end, and given back.
use Rattle.std.specs.Prelude.{◌≡◌, ℕ, ℤ, List, [], ◌∷◌, ◌++◌, Bool, true, false, Option, Some}
use Rattle.live_stage.specs.lock_calls.turn_lock.Seen.{PassView}
use Rattle.front_port.specs.Links.{Given}
use Rattle.http_routes.specs.http_front.Link.{limited}
use Rattle.http_routes.specs.pattern_port.Refused.{Asked}
use Rattle.http_routes.specs.declared.link.LinkEnd.{LinkEnd}
use Rattle.http_routes.specs.declared.link.LinkEnd.TheVariants as link_end
use Rattle.http_routes.specs.Course.{ServesBy, ServedSoFarBy, IsServedNextBy, ContinuesBy, GoesSoFarBy}
use Rattle.link_serving.specs.Serving.{EndsBy}
use Rattle.live_front.specs.declared.entry.Passing.{Passing}
use Rattle.live_front.specs.declared.entry.Taken.{Taken}
use Rattle.live_front.specs.declared.entry.Taken.TheVariants as taken
use Rattle.live_front.specs.lock_calls.Calls.{KnowsCalls}
use Rattle.live_front.specs.FrontCalls.{FrontCall, took, gave, entries_added, FrontCallDoes}
use Rattle.live_stage.specs.core_ends.core_course.Sight.{Sight}
use Rattle.live_stage.specs.declared.note.Staged.{Staged}
use Rattle.live_links.specs.Answers.{IsLiveGiven, IsLiveMetBefore, AnswersFrom}
use Rattle.live_links.specs.Lanes.{Lane, LaneMoves, LaneGoes}

-- ---- a link

module _ {D K : Type 0} (w : Sight D K) (says : List ℕ → List ℕ → Bool) (now : ℤ) (final : List (Staged D K)) where
  -- The link's requests were given their answers in order, and the answers were written. The lane moved by each request.
  abbrev pub LiveServes : LinkEnd → Option (List ℕ) → Lane → Lane → Option (List ℕ) → Option (List ℕ) → Type 0
  LiveServes = ServesBy (IsLiveGiven (AnswersFrom w says final) now) (IsLiveMetBefore (AnswersFrom w says final) now) LaneMoves

  -- reading failed: what was taken was served as a link that ends with it
  abbrev pub LiveServedSoFar : Option (List ℕ) → Option (List ℕ) → Lane → Lane → Option (List ℕ) → Option (List ℕ) → Type 0
  LiveServedSoFar = ServedSoFarBy (IsLiveGiven (AnswersFrom w says final) now) (IsLiveMetBefore (AnswersFrom w says final) now) LaneMoves

  -- one request was served
  abbrev pub LiveServesNext : Option LinkEnd → Option (List ℕ) → Option (List ℕ) → Lane → Lane → Option (List ℕ) → Option (List ℕ) → Type 0
  LiveServesNext = IsServedNextBy (IsLiveGiven (AnswersFrom w says final) now) (IsLiveMetBefore (AnswersFrom w says final) now) LaneMoves

  -- what is served from here on was served from the link's first byte on
  abbrev pub LiveContinues : Option (List ℕ) → Lane → Option (List ℕ) → Option (List ℕ) → Lane → Option (List ℕ) → Type 0
  LiveContinues = ContinuesBy (IsLiveGiven (AnswersFrom w says final) now) (IsLiveMetBefore (AnswersFrom w says final) now) LaneMoves

  abbrev pub LiveGoesSoFar : Option (List ℕ) → Lane → Option (List ℕ) → Option (List ℕ) → Lane → Option (List ℕ) → Type 0
  LiveGoesSoFar = GoesSoFarBy (IsLiveGiven (AnswersFrom w says final) now) (IsLiveMetBefore (AnswersFrom w says final) now) LaneMoves

  -- one request; if reading failed, `rest` was left
  abbrev pub LiveNext : Option LinkEnd → Option (List ℕ) → Option (List ℕ) → Option (List ℕ) → Lane → Lane → Option (List ℕ) → Option (List ℕ) → Type 0
  LiveNext end known left rest old new held holds =
      LiveServesNext end known left old new held holds × (end ≡ Some link_end.ReadFault → LiveServedSoFar known rest old new held holds)

  -- all requests so far
  abbrev pub LiveSoFar : Option (List ℕ) → Lane → Option (List ℕ) → Option (List ℕ) → Lane → Option (List ℕ) → Type 0
  LiveSoFar first start held known mid between = LiveContinues first start held known mid between × LiveGoesSoFar first start held known mid between

  -- a link; if reading failed, `left` was left of its bytes
  abbrev pub LiveEnds : LinkEnd → Option (List ℕ) → Option (List ℕ) → Lane → Lane → Option (List ℕ) → Option (List ℕ) → Type 0
  LiveEnds end comes left old new held holds =
      LiveServes end (limited 0 comes) old new held holds
      × (end ≡ link_end.ReadFault → (taken : ℕ) × LiveServedSoFar (limited 0 comes) (limited taken left) old new held holds)

  -- The link that was handed out was served until it ended, and given back so: if reading failed, as one that ends with the bytes
  -- that were taken.
  pub record ServesLiveLink (out back : Given) (old new : Lane) : Type 0 where
    pub end : LinkEnd
    pub ends : EndsBy end back
    pub serves : LiveEnds end out.left back.left old new out.held back.held

  -- these links, one after the other
  abbrev pub ServesLiveLinks : List (Given × Given) → Lane → Lane → Type 0
  ServesLiveLinks [] old new = new ≡ old
  ServesLiveLinks ((out, back) ∷ links) old new =
      (between : Lane) × ServesLiveLink out back old between × ServesLiveLinks links between new

-- ---- a lane's links

module _ {L : Type 0} where
  -- each link was taken and given back
  abbrev pub front_calls : List (L × L) → List (FrontCall L)
  front_calls [] = []
  front_calls ((out, back) ∷ links) = took (taken.Link out) ∷ gave back ∷ front_calls links

  -- the links as contracts see them
  abbrev pub seen_links : (L → Given) → List (L × L) → List (Given × Given)
  seen_links seen [] = []
  seen_links seen ((out, back) ∷ links) = (seen out, seen back) ∷ seen_links seen links

  -- the answer hands out no link
  abbrev pub IsNoLink : Taken L → Type 0
  IsNoLink (taken.Link link) = ⊥
  IsNoLink taken.Ended = Unit {0}
  IsNoLink taken.Failed = Unit {0}
  IsNoLink taken.Over = Unit {0}

module _ {D K F L : Type 0} (w : Sight D K) (generation : K → ℕ) (says : List ℕ → List ℕ → Bool) (now : ℤ) (seen : L → Given) where
  abbrev pub KnowsFrontCalls : PassView (Passing F L) → List (FrontCall L) → Type 0
  KnowsFrontCalls pass calls = KnowsCalls entries_added FrontCallDoes pass calls

  -- The lane took these links, served each and gave it back.
  pub record ServesSome (links : List (L × L)) (front_before front_after : PassView (Passing F L)) (before after : PassView (Staged D K)) (asked then : Option (List Asked)) (count later : ℕ) : Type 0 where
    pub front : (calls : List (FrontCall L)) → KnowsFrontCalls front_before calls → KnowsFrontCalls front_after (calls ++ front_calls links)
    pub serves : LaneGoes w generation before after asked then count later (λ final old new. ServesLiveLinks w says now final (seen_links seen links) old new)

  -- the front was asked for a link, and had none
  pub record WasTold (front_before front_after : PassView (Passing F L)) : Type 0 where
    pub last : Taken L
    pub none : IsNoLink last
    pub front : (calls : List (FrontCall L)) → KnowsFrontCalls front_before calls → KnowsFrontCalls front_after (calls ++ took last ∷ [])

  -- one link was served; or there was none, and nothing else happened
  abbrev pub ServesOne : Bool → PassView (Passing F L) → PassView (Passing F L) → PassView (Staged D K) → PassView (Staged D K) → Option (List Asked) → Option (List Asked) → ℕ → ℕ → Type 0
  ServesOne true front_before front_after before after asked then count later =
      (out : L) × (back : L) × ServesSome ((out, back) ∷ []) front_before front_after before after asked then count later
  ServesOne false front_before front_after before after asked then count later =
      WasTold front_before front_after × (after ≡ before) × (then ≡ asked) × (later ≡ count)

  -- The lane served these links, and then the front had no further one.
  pub record ServesLane (front_before front_after : PassView (Passing F L)) (before after : PassView (Staged D K)) (asked then : Option (List Asked)) (count later : ℕ) : Type 0 where
    pub links : List (L × L)
    pub between : PassView (Passing F L)
    pub serves : ServesSome links front_before between before after asked then count later
    pub told : WasTold between front_after
