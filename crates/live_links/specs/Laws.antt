-- What holds of a lane's requests together.
use Rattle.std.specs.Prelude.{◌≡◌, ℕ, ◌≤◌, ℤ, List, [], ◌∷◌, ◌++◌, Bool, Option}
use Rattle.std.specs.List.{flat_map}
use Rattle.std.specs.Option.{option_to_list}
use Rattle.http_spec.specs.declared.answer.Answer.{Answer}
use Rattle.http_spec.specs.declared.request.Request.{Request}
use Rattle.http_routes.specs.declared.link.LinkEnd.{LinkEnd}
use Rattle.http_routes.specs.Course.{AllMoveBy}
use Rattle.live_stage.specs.core_ends.core_course.Sight.{Sight}
use Rattle.live_stage.specs.declared.note.Staged.{Staged}
use Rattle.live_stage.specs.StageCalls.{StageCall}
use Rattle.live_links.specs.Answers.{LiveMet, IsLiveAnswer, AnswersFrom}
use Rattle.live_links.specs.Lanes.{Lane, LaneMoves, number_in}
use Rattle.live_links.specs.Links.{LiveServes}

-- the numbers that came with the calls, and the calls, each in order
abbrev pub numbers_of : List LiveMet → List ℕ
numbers_of mets = flat_map (λ (met : LiveMet). option_to_list (number_in met.call)) mets

abbrev pub calls_of : List LiveMet → List StageCall
calls_of mets = flat_map (λ (met : LiveMet). option_to_list met.call) mets

-- none is below the one before; the first isn't below `least`, and the last not above `greatest`
abbrev pub NeverFall : ℕ → List ℕ → ℕ → Type 0
NeverFall least [] greatest = least ≤ greatest
NeverFall least (n ∷ ns) greatest = (least ≤ n) × NeverFall n ns greatest

abbrev pub NumbersNeverFall : Type 0
NumbersNeverFall = (mets : List LiveMet) (old new : Lane) → AllMoveBy LaneMoves mets old new → NeverFall old.seen (numbers_of mets) new.seen

abbrev pub CallsAreOfRequests : Type 0
CallsAreOfRequests = (mets : List LiveMet) (old new : Lane) → AllMoveBy LaneMoves mets old new → new.calls ≡ old.calls ++ calls_of mets

-- ---- what is printed

-- the numbers that answers print, in order
abbrev pub printed : List Answer → List ℕ
printed answers = flat_map (λ (a : Answer). option_to_list a.seen) answers

module _ {D K : Type 0} (w : Sight D K) where
  -- an answer prints the number that came with the request's call, and none without a call
  abbrev pub NumbersArePrinted : Type 0
  NumbersArePrinted =
      (says : List ℕ → List ℕ → Bool) (now : ℤ) (final : List (Staged D K)) (r : Request) (met : LiveMet) (a : Answer) → IsLiveAnswer (AnswersFrom w says final) now r met a → a.seen ≡ number_in met.call

  -- along a link, printed numbers never fall
  abbrev pub PrintedNeverFall : Type 0
  PrintedNeverFall =
      (says : List ℕ → List ℕ → Bool) (now : ℤ) (final : List (Staged D K)) (end : LinkEnd) (comes : Option (List ℕ)) (old new : Lane) (held holds : Option (List ℕ))
      → (s : LiveServes w says now final end comes old new held holds) → NeverFall old.seen (printed s.answers) new.seen
