-- The commands that wait are put into their groups, one after the other.
use Rattle.std.proofs.Common.{◌≡◌, ◌∙◌, ℕ, zero, suc, ◌+◌, ◌<◌, List, [], ◌∷◌, ◌++◌, map, drop, slice_get, Some, sym, ap, subst, append_assoc}
use Rattle.std.specs.List.{AllByRecursion}
use Rattle.ttl_sweeps.proofs.of_plain_laws.Options.{none_some, some_is}
use Rattle.core_state.specs.core_spec.declared.entry.Entry.{Entry}
use Rattle.core_state.specs.supersede_core.Waiting.{AreBelow, Rises}
use Rattle.core_opening.specs.Replayed.{grouped}
use Rattle.core_opening.proofs.Maxima.{drop_get}

all_at : (P : Entry → Type 0) (es : List Entry) (i : ℕ) (e : Entry) → slice_get es i ≡ Some e → AllByRecursion P es → P e
all_at P [] zero e is all = none_some e is
all_at P [] (suc i) e is all = none_some e is
all_at P (x ∷ es) zero e is all = subst P (some_is x e is) all.0
all_at P (x ∷ es) (suc i) e is all = all_at P es i e is all.1

-- ---- receipts rise

above_grouped : (n : ℕ) (es : List Entry) → AllByRecursion (λ (f : Entry). n < f.receipt) es → AllByRecursion (λ (f : Entry). n < f.receipt) (map grouped es)
above_grouped n [] all = tt
above_grouped n (e ∷ es) all = (all.0, above_grouped n es all.1)

rises_grouped : (es : List Entry) → Rises es → Rises (map grouped es)
rises_grouped [] h = tt
rises_grouped (e ∷ es) h = (above_grouped e.receipt es h.0, rises_grouped es h.1)

behind : (n : ℕ) (xs ys : List Entry) (e : Entry) → AllByRecursion (λ (f : Entry). n < f.receipt) (xs ++ e ∷ ys) → n < e.receipt
behind n [] ys e all = all.0
behind n (x ∷ xs) ys e all = behind n xs ys e all.1

before : (xs ys : List Entry) (e : Entry) → Rises (xs ++ e ∷ ys) → AreBelow e.receipt xs
before [] ys e h = tt
before (x ∷ xs) ys e h = (behind x.receipt xs ys e h.0, before xs ys e h.1)

-- ---- one more, of those so far and the rest

module _ (so_far es : List Entry) (i : ℕ) (e : Entry) (is : slice_get es i ≡ Some e) (whole : so_far ++ map grouped (drop i es) ≡ map grouped es) where
  next : so_far ++ grouped e ∷ map grouped (drop (i + 1) es) ≡ map grouped es
  next = sym (ap (λ (l : List Entry). so_far ++ map grouped l) (drop_get es i e is)) ∙ whole

  pub one_above : Rises es → AreBelow e.receipt so_far
  one_above rises = before so_far (map grouped (drop (i + 1) es)) (grouped e) (subst Rises (sym next) (rises_grouped es rises))

  pub one_few : AllByRecursion (λ (f : Entry). f.attempts < 16) es → e.attempts < 16
  one_few all = all_at (λ (f : Entry). f.attempts < 16) es i e is all

  pub one_on : (so_far ++ grouped e ∷ []) ++ map grouped (drop (i + 1) es) ≡ map grouped es
  one_on = append_assoc so_far (grouped e ∷ []) (map grouped (drop (i + 1) es)) ∙ next
