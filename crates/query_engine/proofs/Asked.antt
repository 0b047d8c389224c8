-- Which patterns were read so far.
use Rattle.std.proofs.Common.{◌≡◌, ◌∙◌, ℕ, zero, suc, ◌+◌, ◌<◌, List, [], ◌∷◌, ◌++◌, append_assoc, length, take, drop, get_or, refl, sym, ap, subst, arith, Bool, true, false, Option, Some, None, Result, Ok, Err, append-nil}
use Rattle.std.specs.Borrow.{Bor}
use Rattle.pattern_port.specs.Refused.{Asked, asked_more, is_refused}
use Rattle.pattern_port.specs.declared.patterns.PatternFault.{PatternFault}
use Rattle.pattern_port.specs.declared.patterns.PatternFault.TheVariants as port
use Rattle.query_plan.specs.query_spec.declared.parts.Pattern.{Pattern}
use Rattle.query_plan.specs.Made.{patterns_of}
use Rattle.query_engine.specs.Answers.{taken, IsFirstRefused, IsFrontRead, AreAsked, IsBadPattern}
use Rattle.query_engine.specs.declared.engine.QueryFault.{QueryFault}
use Rattle.query_engine.specs.declared.engine.QueryFault.TheVariants.{BadPattern, SumTooLarge, Memory}

pub asked_nothing : (o : Option (List Asked)) → o ≡ asked_more o []
asked_nothing None = refl
asked_nothing (Some before) = ap (λ l. Some l) (sym (append-nil before))

asked_on : (o : Option (List Asked)) (xs ys : List Asked) → asked_more (asked_more o xs) ys ≡ asked_more o (xs ++ ys)
asked_on None xs ys = refl
asked_on (Some before) xs ys = ap (λ l. Some l) (append_assoc before xs ys)

-- ---- the patterns of a list, the one at a place, and those behind it

cut : (list : List (Bor Pattern)) (i : ℕ) (t : Bor Pattern) → i < length list → t ≡ get_or list i t → patterns_of list ≡ patterns_of (take i list) ++ t.now ∷ patterns_of (drop (suc i) list)
cut [] i t h e = absurd (omega (arith, h))
cut (x ∷ xs) zero t h e = ap (λ (y : Bor Pattern). y.now ∷ patterns_of xs) (sym e)
cut (x ∷ xs) (suc i) t h e = ap (λ l. x.now ∷ l) (cut xs i t (omega (arith, h)) e)

whole : (list : List (Bor Pattern)) (i : ℕ) → patterns_of list ≡ patterns_of (take i list) ++ patterns_of (drop i list)
whole list zero = refl
whole [] (suc i) = refl
whole (x ∷ xs) (suc i) = ap (λ l. x.now ∷ l) (whole xs i)

one_more : (list : List (Bor Pattern)) (i : ℕ) (t : Bor Pattern) → i < length list → t ≡ get_or list i t → taken (patterns_of (take (suc i) list)) ≡ taken (patterns_of (take i list)) ++ (t.now.text, false) ∷ []
one_more [] i t h e = absurd (omega (arith, h))
one_more (x ∷ xs) zero t h e = ap (λ (y : Bor Pattern). (y.now.text, false) ∷ []) (sym e)
one_more (x ∷ xs) (suc i) t h e = ap (λ l. (x.now.text, false) ∷ l) (one_more xs i t (omega (arith, h)) e)

all_taken : (list : List (Bor Pattern)) (i : ℕ) → length list ≡ i → take i list ≡ list
all_taken [] zero h = refl
all_taken [] (suc i) h = refl
all_taken (x ∷ xs) zero h = absurd (omega (arith, h))
all_taken (x ∷ xs) (suc i) h = ap (λ l. x ∷ l) (all_taken xs i (omega (arith, h)))

module _ (list : List (Bor Pattern)) (i : ℕ) (t : Bor Pattern) (inside : i < length list) (is : t ≡ get_or list i t) (before so_far now : Option (List Asked)) (begun : so_far ≡ asked_more before (taken (patterns_of (take i list)))) where
  behind : (b : Bool) → now ≡ asked_more so_far ((t.now.text, b) ∷ []) → now ≡ asked_more before (taken (patterns_of (take i list)) ++ (t.now.text, b) ∷ [])
  behind b h = h ∙ ap (λ o. asked_more o ((t.now.text, b) ∷ [])) begun ∙ asked_on before (taken (patterns_of (take i list))) ((t.now.text, b) ∷ [])

  -- it was read
  pub read_on : (b : Bool) → now ≡ asked_more so_far ((t.now.text, b) ∷ []) → b ≡ false → now ≡ asked_more before (taken (patterns_of (take (i + 1) list)))
  read_on b h e =
      behind b h
      ∙ ap (λ c. asked_more before (taken (patterns_of (take i list)) ++ (t.now.text, c) ∷ [])) e
      ∙ ap (asked_more before) (sym (one_more list i t inside is))
      ∙ ap (λ n. asked_more before (taken (patterns_of (take n list)))) (let n : suc i ≡ i + 1 = omega arith in n)

  pub read_front : (b : Bool) → now ≡ asked_more so_far ((t.now.text, b) ∷ []) → b ≡ false → IsFrontRead (patterns_of list) before now
  read_front b h e = record { earlier = patterns_of (take (i + 1) list); later = patterns_of (drop (i + 1) list); patterns_are = whole list (i + 1); asked = read_on b h e }

  -- it was refused
  pub refused_first : (place : List ℕ) → place ≡ t.now.place → (b : Bool) → now ≡ asked_more so_far ((t.now.text, b) ∷ []) → b ≡ true → IsFirstRefused (patterns_of list) before now place
  refused_first place p b h e =
      record {
        earlier = patterns_of (take i list);
        pattern = t.now;
        later = patterns_of (drop (suc i) list);
        patterns_are = cut list i t inside is;
        place_is = sym p;
        asked = behind b h ∙ ap (λ c. asked_more before (taken (patterns_of (take i list)) ++ (t.now.text, c) ∷ [])) e;
      }

-- all were read
pub all_read : (list : List (Bor Pattern)) (i : ℕ) (before now : Option (List Asked)) → length list ≡ i → now ≡ asked_more before (taken (patterns_of (take i list))) → now ≡ asked_more before (taken (patterns_of list))
all_read list i before now e h = h ∙ ap (λ l. asked_more before (taken (patterns_of l))) (all_taken list i e)

module _ (patterns : List Pattern) (before now : Option (List Asked)) where
  pub none_read : now ≡ before → IsFrontRead patterns before now
  none_read e = record { earlier = []; later = patterns; patterns_are = refl; asked = e ∙ asked_nothing before }

  -- what is answered once all are read
  pub asked_then : {A : Type 0} (r : Result A QueryFault) → now ≡ asked_more before (taken patterns) → ¬ IsBadPattern r → AreAsked patterns before now r
  asked_then (Ok x) h never = h
  asked_then (Err (BadPattern path)) h never = absurd (never tt)
  asked_then (Err (SumTooLarge path)) h never = h
  asked_then (Err Memory) h never = record { earlier = patterns; later = []; patterns_are = sym (append-nil patterns); asked = h }

  of_fault : (A B : Type 0) (fault : QueryFault) → AreAsked {A = A} patterns before now (Err fault) → AreAsked {A = B} patterns before now (Err fault)
  of_fault A B (BadPattern path) h = h
  of_fault A B (SumTooLarge path) h = h
  of_fault A B Memory h = h

  -- a fault tells the same of whatever is answered
  pub same_fault : (A B : Type 0) (r : Result A QueryFault) (fault : QueryFault) → r ≡ Err fault → AreAsked patterns before now r → AreAsked {A = B} patterns before now (Err fault)
  same_fault A B r fault e h = of_fault A B fault (subst (AreAsked patterns before now) e h)

  -- want of memory
  pub memory_then : {A : Type 0} (r : Result A QueryFault) (fault : QueryFault) → r ≡ Err fault → fault ≡ Memory → IsFrontRead patterns before now → AreAsked patterns before now r
  memory_then r fault e m h = subst (AreAsked patterns before now) (sym (e ∙ ap (λ f. Err f) m)) h

-- ---- what reading one is answered

pub read_told : {C : Type 0} (r : Result C PatternFault) (x : C) → r ≡ Ok x → is_refused r ≡ false
read_told r x e = ap is_refused e

pub refused_told : {C : Type 0} (r : Result C PatternFault) (fault : PatternFault) → r ≡ Err fault → fault ≡ port.Refused → is_refused r ≡ true
refused_told r fault e f = ap is_refused (e ∙ ap (λ x. Err x) f)

pub memory_told : {C : Type 0} (r : Result C PatternFault) (fault : PatternFault) → r ≡ Err fault → fault ≡ port.Memory → is_refused r ≡ false
memory_told r fault e f = ap is_refused (e ∙ ap (λ x. Err x) f)
