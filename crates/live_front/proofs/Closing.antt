-- One hold of a shared front is one call, and what all calls are at the close.
use Rattle.std.proofs.Common.{◌≡◌, ◌∙◌, ℕ, ◌≤◌, List, [], ◌∷◌, ◌++◌, length, Option, sym, ap, subst}
use mathlib.Core.List.{IsPrefix}
use Rattle.turn_lock.specs.Holds.{hold, AppendAll}
use Rattle.turn_lock.specs.Seen.{PassView}
use Rattle.lock_calls.specs.Calls.{OneCall}
use Rattle.lock_calls.proofs.Calls.{each_entry_is_of_one_call}
use Rattle.live_front.specs.declared.entry.Passing.{Passing}
use Rattle.live_front.specs.declared.entry.Passing.TheVariants.{Opened}
use Rattle.live_front.specs.declared.entry.End.{End}
use Rattle.live_front.specs.Entries.{SharedView, list_of, links_out, ends, listed}
use Rattle.live_front.specs.Courses.{FrontSight, FrontCourse}
use Rattle.live_front.specs.FrontCalls.{FrontCall, entries_added, FrontCallDoes, ClosedFrom}

module _ {F L : Type 0} (call : FrontCall L) (before after : PassView (Passing F L)) where
  pub one_hold : (n : ℕ) (x y shown left : SharedView F L) → shown ≡ x → left ≡ y → list_of left ≡ list_of shown ++ entries_added call → FrontCallDoes call (list_of shown) → IsPrefix before.seen (list_of x)
      → after.seen ≡ list_of y → after.holds ≡ before.holds ++ hold n (length (list_of x)) (length (list_of y)) ∷ [] → OneCall entries_added FrontCallDoes call before after
  one_hold n x y shown left shows leaves adds does begins seen holds = record {
    number = n;
    found = list_of x;
    begins = begins;
    does = subst (λ (v : SharedView F L). FrontCallDoes call (list_of v)) shows does;
    seen = seen ∙ (ap list_of (sym leaves) ∙ (adds ∙ ap (λ (v : SharedView F L). list_of v ++ entries_added call) shows));
    holds = holds ∙ ap (λ (l : List (Passing F L)). before.holds ++ hold n (length (list_of x)) (length l) ∷ []) (sym seen);
  }

module _ {F L : Type 0} where
  abbrev first_front : F → List (Passing F L) → F
  first_front d (Opened front limit ∷ es) = front
  first_front d es = d

  abbrev first_limit : List (Passing F L) → ℕ
  first_limit (Opened front limit ∷ es) = limit
  first_limit es = 0

  same_start : (start : F) (limit : ℕ) (opening : List (Passing F L)) (g : SharedView F L) → opening ≡ Opened start limit ∷ [] → IsPrefix opening (list_of g) → (g.start ≡ start) × (g.limit ≡ limit)
  same_start start limit opening g is pre =
      let whole : Opened start limit ∷ pre.0 ≡ list_of g = ap (λ l. l ++ pre.0) (sym is) ∙ pre.1 in (
        sym (ap (first_front start) whole),
        sym (ap (λ l. first_limit l) whole),
      )

  pub closes : (w : FrontSight F L) (opening : List (Passing F L)) (pass : PassView (Passing F L)) (g : SharedView F L) (front : F) (out : ℕ) (end : Option End)
      → IsPrefix pass.seen (list_of g) → IsPrefix opening (list_of g) → AppendAll (length opening) pass.holds (length (list_of g))
      → front ≡ g.front → (out ≡ length (links_out g.passed)) × (out ≤ g.limit) → ends g.passed ≡ listed end → FrontCourse w g.start g.passed g.front
      → (start : F) (limit : ℕ) → opening ≡ Opened start limit ∷ [] → ClosedFrom w start limit pass front out end
  closes w opening pass g front out end seen begins all front_is out_is end_is course start limit is =
      let same = same_start start limit opening g is begins in
      let list : list_of g ≡ Opened start limit ∷ g.passed = λ i. Opened (same.0 i) (same.1 i) ∷ g.passed in
      record {
        passed = g.passed;
        course = subst (λ (f : F). FrontCourse w start g.passed f) (sym front_is) (subst (λ (s : F). FrontCourse w s g.passed g.front) same.0 course);
        out_is = out_is.0;
        within = subst (λ (n : ℕ). out ≤ n) same.1 out_is.1;
        end_is = end_is;
        seen = subst (IsPrefix pass.seen) list seen;
        calls = λ calls knows weight.
            each_entry_is_of_one_call entries_added FrontCallDoes pass calls 1 (list_of g) knows seen (subst (λ (n : ℕ). AppendAll n pass.holds (length (list_of g))) (ap (λ l. length l) is) all) weight;
      }
