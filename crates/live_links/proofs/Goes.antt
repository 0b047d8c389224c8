-- How a lane goes on, stretch by stretch.
use Rattle.std.proofs.Common.{◌≡◌, ℕ, List, [], Option, refl, append-nil}
use mathlib.Core.List.{IsPrefix}
use Rattle.live_stage.specs.lock_calls.turn_lock.Seen.{PassView}
use Rattle.live_stage.proofs.of_lock_calls.of_turn_lock.Prefixes.{prefix_trans}
use Rattle.http_routes.specs.pattern_port.Refused.{Asked}
use Rattle.live_stage.specs.core_ends.core_course.Sight.{Sight}
use Rattle.live_stage.specs.declared.note.Staged.{Staged}
use Rattle.live_links.specs.Lanes.{Lane, lane, LaneGoes}

prefix_refl : {E : Type 0} (xs : List E) → IsPrefix xs xs
prefix_refl xs = ([], append-nil xs)

module _ {D K : Type 0} (w : Sight D K) (generation : K → ℕ) where
  -- nothing happened
  pub goes_still : (pass : PassView (Staged D K)) (asked : Option (List Asked)) (count : ℕ) (P : List (Staged D K) → Lane → Lane → Type 0)
      → ((final : List (Staged D K)) (old : Lane) → old.asked ≡ asked → P final old old) → LaneGoes w generation pass pass asked asked count count P
  goes_still pass asked count P same =
      record { seen = prefix_refl pass.seen; goes = λ calls number knows. (calls, number, knows, λ final on. same final (lane asked count calls number) refl) }

  -- two stretches
  pub goes_then : (a b c : PassView (Staged D K)) (asked then last : Option (List Asked)) (count later latest : ℕ) (P Q R : List (Staged D K) → Lane → Lane → Type 0)
      → LaneGoes w generation a b asked then count later P → LaneGoes w generation b c then last later latest Q
      → ((final : List (Staged D K)) (old mid new : Lane) → P final old mid → Q final mid new → R final old new) → LaneGoes w generation a c asked last count latest R
  goes_then a b c asked then last count later latest P Q R first second join = record {
    seen = prefix_trans a.seen b.seen c.seen first.seen second.seen;
    goes = λ calls number knows.
        let f = first.goes calls number knows in
        let s = second.goes f.0 f.1 f.2 in (
          s.0,
          s.1,
          s.2,
          λ final on. join final (lane asked count calls number) (lane then later f.0 f.1) (lane last latest s.0 s.1) (f.3 final (prefix_trans b.seen c.seen final second.seen on)) (s.3 final on),
        );
  }

  -- what P says tells Q
  pub goes_as : (a b : PassView (Staged D K)) (asked then : Option (List Asked)) (count later : ℕ) (P Q : List (Staged D K) → Lane → Lane → Type 0)
      → LaneGoes w generation a b asked then count later P → ((final : List (Staged D K)) (old new : Lane) → P final old new → Q final old new) → LaneGoes w generation a b asked then count later Q
  goes_as a b asked then count later P Q first tells = record {
    seen = first.seen;
    goes = λ calls number knows.
        let f = first.goes calls number knows in
        (f.0, f.1, f.2, λ final on. tells final (lane asked count calls number) (lane then later f.0 f.1) (f.3 final on));
  }
