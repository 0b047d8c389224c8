-- What was tried so far, and in which order.
use Rattle.std.proofs.Common.{◌≡◌, ◌∙◌, ℕ, zero, suc, ◌+◌, ◌<◌, List, [], ◌∷◌, ◌++◌, length, take, drop, get_or, refl, sym, ap, subst, arith, Bool, true, false, Option, Some, None, Result, Ok, Err, append-nil, inl, inr}
use Rattle.std.specs.Borrow.{Bor}
use Rattle.pattern_port.specs.Course.{Act, read, tried, Try, course_more, only_read, only_tried}
use Rattle.pattern_port.specs.Refused.{Asked, asked_more}
use Rattle.pattern_port.proofs.Tries.{course_nothing, course_on}
use Rattle.query_plan.specs.query_spec.declared.parts.Pattern.{Pattern}
use Rattle.query_plan.specs.Made.{patterns_of}
use Rattle.query_engine.specs.Answers.{taken, IsBadPattern}
use Rattle.query_engine.specs.Courses.{HasRead, DoTriesWait, IsCourse}
use Rattle.query_rows.specs.Tries.{HasTried}
use Rattle.query_engine.specs.declared.engine.QueryFault.{QueryFault}
use Rattle.query_engine.specs.declared.engine.QueryFault.TheVariants.{BadPattern, SumTooLarge, Memory}
use Rattle.query_engine.proofs.Asked.{none_read, asked_then, same_fault, memory_then, read_front, refused_first}

reads_joined : (xs ys : List Asked) → only_read xs ++ only_read ys ≡ only_read (xs ++ ys)
reads_joined [] ys = refl
reads_joined (x ∷ xs) ys = ap (λ l. read x.0 x.1 ∷ l) (reads_joined xs ys)

-- ---- readings of a list of patterns, up to a place

module _ (list : List (Bor Pattern)) (i : ℕ) (t : Bor Pattern) (inside : i < length list) (is : t ≡ get_or list i t) (before so_far now : Option (List Act)) (begun : so_far ≡ course_more before (only_read (taken (patterns_of (take i list))))) where
  -- the readings so far, as a list of its own
  abbrev so_far_read : Option (List Asked)
  so_far_read = Some (taken (patterns_of (take i list)))

  behind : (b : Bool) → now ≡ course_more so_far (read t.now.text b ∷ []) → now ≡ course_more before (only_read (taken (patterns_of (take i list)) ++ (t.now.text, b) ∷ []))
  behind b h = h ∙ ap (λ o. course_more o (read t.now.text b ∷ [])) begun ∙ course_on before (only_read (taken (patterns_of (take i list)))) (read t.now.text b ∷ []) ∙ ap (course_more before) (reads_joined (taken (patterns_of (take i list))) ((t.now.text, b) ∷ []))

  abbrev with_added : (b : Bool) → Option (List Asked)
  with_added b = Some (taken (patterns_of (take i list)) ++ (t.now.text, b) ∷ [])

  -- it was refused
  pub refused_course : {A : Type 0} (place : List ℕ) → place ≡ t.now.place → (b : Bool) → now ≡ course_more so_far (read t.now.text b ∷ []) → b ≡ true → HasRead {A = A} (patterns_of list) before now (Err (BadPattern place))
  refused_course place p b h e = record {
    added = taken (patterns_of (take i list)) ++ (t.now.text, b) ∷ [];
    course = behind b h;
    read = refused_first list i t inside is (Some []) so_far_read (with_added b) refl place p b refl e;
  }

  -- it was read, and then there was no memory
  pub memory_course : {A : Type 0} (r : Result A QueryFault) (fault : QueryFault) → r ≡ Err fault → fault ≡ Memory → (b : Bool) → now ≡ course_more so_far (read t.now.text b ∷ []) → b ≡ false → HasRead (patterns_of list) before now r
  memory_course r fault r_is m b h e = record {
    added = taken (patterns_of (take i list)) ++ (t.now.text, b) ∷ [];
    course = behind b h;
    read = memory_then (patterns_of list) (Some []) (with_added b) r fault r_is m (read_front list i t inside is (Some []) so_far_read (with_added b) refl b refl e);
  }

all_taken : (list : List (Bor Pattern)) (i : ℕ) → length list ≡ i → take i list ≡ list
all_taken [] zero h = refl
all_taken [] (suc i) h = refl
all_taken (x ∷ xs) zero h = absurd (omega (arith, h))
all_taken (x ∷ xs) (suc i) h = ap (λ l. x ∷ l) (all_taken xs i (omega (arith, h)))

-- all were read
pub all_course : {A : Type 0} (list : List (Bor Pattern)) (i : ℕ) (before now : Option (List Act)) (made : A) → length list ≡ i → now ≡ course_more before (only_read (taken (patterns_of (take i list)))) → HasRead {A = A} (patterns_of list) before now (Ok made)
all_course list i before now made e h = record {
  added = taken (patterns_of list);
  course = h ∙ ap (λ l. course_more before (only_read (taken (patterns_of l)))) (all_taken list i e);
  read = refl;
}

-- ---- the course of a call

abbrev unwrapped : Option (List Asked) → List Asked
unwrapped None = []
unwrapped (Some l) = l

module _ (patterns : List Pattern) where
  waits : {A : Type 0} (added : List Asked) (tries : List Try) (r : Result A QueryFault) → Some added ≡ asked_more (Some []) (taken patterns) → ¬ IsBadPattern r → DoTriesWait patterns added tries r
  waits added tries (Ok x) h never = tt
  waits added tries (Err (BadPattern path)) h never = absurd (never tt)
  waits added tries (Err (SumTooLarge path)) h never = tt
  waits added tries (Err Memory) h never = inl (ap unwrapped h)

  no_try : (A : Type 0) (added : List Asked) (fault : QueryFault) → DoTriesWait {A = A} patterns added [] (Err fault)
  no_try A added (BadPattern path) = refl
  no_try A added (SumTooLarge path) = tt
  no_try A added Memory = inr refl

  -- all were read, and then texts were tried
  pub course_then : {A B : Type 0} (before mid now : Option (List Act)) (made : A) (r : Result B QueryFault) → HasRead {A = A} patterns before mid (Ok made) → HasTried mid now → ¬ IsBadPattern r → IsCourse patterns before now r
  course_then before mid now made r h t never = record {
    added = h.added;
    tries = t.tries;
    course = t.course ∙ ap (λ o. course_more o (only_tried t.tries)) h.course ∙ course_on before (only_read h.added) (only_tried t.tries);
    read = asked_then patterns (Some []) (Some h.added) r h.read never;
    wait = waits h.added t.tries r h.read never;
  }

  pub course_of_ok : {A B : Type 0} (before mid now : Option (List Act)) (taken_by : Result A QueryFault) (made : A) (r : Result B QueryFault) → taken_by ≡ Ok made → HasRead {A = A} patterns before mid taken_by → HasTried mid now
      → ¬ IsBadPattern r → IsCourse patterns before now r
  course_of_ok {A} before mid now taken_by made r e h = course_then before mid now made r (subst (HasRead {A = A} patterns before mid) e h)

  -- not all were read, and nothing was tried
  pub course_of_fault : (A B : Type 0) (before now : Option (List Act)) (r : Result A QueryFault) (fault : QueryFault) → r ≡ Err fault → HasRead patterns before now r → IsCourse {A = B} patterns before now (Err fault)
  course_of_fault A B before now r fault e h = record {
    added = h.added;
    tries = [];
    course = h.course ∙ ap (course_more before) (sym (append-nil (only_read h.added)));
    read = same_fault patterns (Some []) (Some h.added) A B r fault e h.read;
    wait = no_try B h.added fault;
  }

  -- nothing was read
  pub course_of_memory : {A : Type 0} (o : Option (List Act)) (r : Result A QueryFault) (fault : QueryFault) → r ≡ Err fault → fault ≡ Memory → IsCourse patterns o o r
  course_of_memory {A} o r fault e m =
      let unread : IsCourse {A = A} patterns o o (Err Memory) = record {
        added = [];
        tries = [];
        course = course_nothing o;
        read = none_read patterns (Some []) (Some []) refl;
        wait = inr refl;
      } in
      subst (IsCourse patterns o o) (sym (e ∙ ap (λ f. Err f) m)) unread
