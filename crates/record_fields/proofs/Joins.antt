-- Fields made of others: pairs, values made of what is read, options, and what passes a test.
use Rattle.std.proofs.Common.{◌≡◌, ℕ, zero, suc, ◌^◌, ◌<◌, Bool, true, cond, List, [], ◌∷◌, ◌++◌, length, Option, Some, None, refl, sym, ap, subst, ◌∙◌, append_assoc, arith}
use Rattle.record_spec.specs.Parts.{optional}
use Rattle.record_fields.specs.Reading.{◌>>=◌, Reader, read_as, both_at, optional_at}
use Rattle.record_fields.proofs.Fields.{IsBytes, IsBytes-rest, bind_some, test_some, some_is, Takes, Takes-then, IsField, variant_takes, bare_takes}

-- ---- one field behind another

module _ {A B : Type 0} (ta : A → List ℕ) (ra : Reader A) (FA : A → Type 0) (fa : IsField ta ra FA) (tb : B → List ℕ) (rb : Reader B) (FB : B → Type 0) (fb : IsField tb rb FB) where
  abbrev both_text : A × B → List ℕ
  both_text p = ta p.0 ++ tb p.1

  abbrev BothFit : A × B → Type 0
  BothFit p = FA p.0 × FB p.1

  both_takes : (bytes : List ℕ) (x : A × B) (rest : List ℕ) → IsBytes bytes → both_at ra rb bytes ≡ Some (x, rest) → Takes bytes (both_text x) rest × BothFit x
  both_takes bytes x rest are e =
      let a = bind_some (ra bytes) (λ a. rb a.1 >>= λ b. Some ((a.0, b.0), b.1)) (x, rest) e in
      let b = bind_some (rb a.0.1) (λ b. Some ((a.0.0, b.0), b.1)) (x, rest) a.2 in
      let s = fa.takes bytes a.0.0 a.0.1 are a.1 in
      let t = fb.takes a.0.1 b.0.0 b.0.1 s.0.rest_fits b.1 in
      let all = Takes-then bytes (ta a.0.0) a.0.1 (tb b.0.0) b.0.1 s.0 t.0 in
      subst (λ (p : (A × B) × List ℕ). Takes bytes (both_text p.0) p.1 × BothFit p.0) (some_is ((a.0.0, b.0.0), b.0.1) (x, rest) b.2) (all, (s.1, t.1))

  both_again : (x : A × B) (rest : List ℕ) → BothFit x → both_at ra rb (both_text x ++ rest) ≡ Some (x, rest)
  both_again x rest fits =
      ap (both_at ra rb) (append_assoc (ta x.0) (tb x.1) rest) ∙ rw (fa.again x.0 (tb x.1 ++ rest) fits.0, fb.again x.1 rest fits.1) refl

pub both : {A B : Type 0} {ta : A → List ℕ} {ra : Reader A} {FA : A → Type 0} {tb : B → List ℕ} {rb : Reader B} {FB : B → Type 0} → IsField ta ra FA → IsField tb rb FB
    → IsField (λ (p : A × B). ta p.0 ++ tb p.1) (both_at ra rb) (λ p. FA p.0 × FB p.1)
both {A} {B} {ta} {ra} {FA} {tb} {rb} {FB} fa fb = record { takes = both_takes ta ra FA fa tb rb FB fb; again = both_again ta ra FA fa tb rb FB fb }

-- ---- a value made of what is read

module _ {A B : Type 0} (text : A → List ℕ) (read : Reader A) (Fits : A → Type 0) (field : IsField text read Fits) (make : A → B) (parts : B → A) (FitsB : B → Type 0)
    (told : (x : A) → parts (make x) ≡ x) (made : (y : B) → make (parts y) ≡ y) (fits : (x : A) → Fits x → FitsB (make x)) (fit : (y : B) → FitsB y → Fits (parts y)) where
  made_takes : (bytes : List ℕ) (y : B) (rest : List ℕ) → IsBytes bytes → read_as make read bytes ≡ Some (y, rest) → Takes bytes (text (parts y)) rest × FitsB y
  made_takes bytes y rest are e =
      let a = bind_some (read bytes) (λ a. Some (make a.0, a.1)) (y, rest) e in
      let t = field.takes bytes a.0.0 a.0.1 are a.1 in
      let whole : Takes bytes (text (parts (make a.0.0))) a.0.1 = subst (λ (x : A). Takes bytes (text x) a.0.1) (sym (told a.0.0)) t.0 in
      subst (λ (p : B × List ℕ). Takes bytes (text (parts p.0)) p.1 × FitsB p.0) (some_is (make a.0.0, a.0.1) (y, rest) a.2) (whole, fits a.0.0 t.1)

  made_again : (y : B) (rest : List ℕ) → FitsB y → read_as make read (text (parts y) ++ rest) ≡ Some (y, rest)
  made_again y rest f =
      ap (λ (o : Option (A × List ℕ)). o >>= λ a. Some (make a.0, a.1)) (field.again (parts y) rest (fit y f)) ∙ ap (λ (z : B). Some (z, rest)) (made y)

pub as_made : {A B : Type 0} {text : A → List ℕ} {read : Reader A} {Fits : A → Type 0} → IsField text read Fits → (make : A → B) (parts : B → A) (FitsB : B → Type 0)
    → ((x : A) → parts (make x) ≡ x) → ((y : B) → make (parts y) ≡ y) → ((x : A) → Fits x → FitsB (make x)) → ((y : B) → FitsB y → Fits (parts y))
    → IsField (λ (y : B). text (parts y)) (read_as make read) FitsB
as_made {A} {B} {text} {read} {Fits} field make parts FitsB told made fits fit = record {
  takes = made_takes text read Fits field make parts FitsB told made fits fit;
  again = made_again text read Fits field make parts FitsB told made fits fit;
}

-- the same field, where its text is written otherwise
pub respelled : {A : Type 0} {text : A → List ℕ} {read : Reader A} {Fits : A → Type 0} → IsField text read Fits → (other : A → List ℕ) → ((x : A) → text x ≡ other x) → IsField other read Fits
respelled {A} {text} {read} {Fits} field other same = record {
  takes = λ bytes x rest are e.
      let t = field.takes bytes x rest are e in
      (record { parts = t.0.parts ∙ ap (λ (l : List ℕ). l ++ rest) (same x); rest_fits = t.0.rest_fits }, t.1);
  again = λ x rest fits. ap (λ (l : List ℕ). read (l ++ rest)) (sym (same x)) ∙ field.again x rest fits;
}

-- ---- 0, or 1 and the value

module _ {A : Type 0} (text : A → List ℕ) (read : Reader A) (Fits : A → Type 0) (field : IsField text read Fits) (IfFits : Option A → Type 0)
    (none : IfFits None) (some : (x : A) → Fits x → IfFits (Some x)) (is_some : (x : A) → IfFits (Some x) → Fits x) where
  option_takes : (bytes : List ℕ) (x : Option A) (rest : List ℕ) → IsBytes bytes → optional_at read bytes ≡ Some (x, rest) → Takes bytes (optional text x) rest × IfFits x
  unfolding optional_at
  option_takes [] x rest are e = absurd cc
  option_takes (zero ∷ bytes) x rest are e = bare_takes (optional text) IfFits 0 None refl none bytes x rest are e
  option_takes (suc zero ∷ bytes) x rest are e = variant_takes text read Fits field Some (optional text) IfFits 1 (λ n. refl) some bytes x rest are e
  option_takes (suc (suc tag) ∷ bytes) x rest are e = absurd cc

  option_again : (x : Option A) (rest : List ℕ) → IfFits x → optional_at read (optional text x ++ rest) ≡ Some (x, rest)
  unfolding optional_at
  option_again None rest fits = refl
  option_again (Some x) rest fits = rw (field.again x rest (is_some x fits)) refl

pub as_option : {A : Type 0} {text : A → List ℕ} {read : Reader A} {Fits : A → Type 0} → IsField text read Fits → (IfFits : Option A → Type 0)
    → IfFits None → ((x : A) → Fits x → IfFits (Some x)) → ((x : A) → IfFits (Some x) → Fits x) → IsField (optional text) (optional_at read) IfFits
as_option {A} {text} {read} {Fits} field IfFits none some is_some = record {
  takes = option_takes text read Fits field IfFits none some is_some;
  again = option_again text read Fits field IfFits none some is_some;
}

-- ---- what passes a test

abbrev pub tested_at : {A : Type 0} → Reader A → (A → Bool) → Reader A
tested_at read test bytes = read bytes >>= λ x. cond (test x.0) (Some x) None

module _ {A : Type 0} (text : A → List ℕ) (read : Reader A) (Fits : A → Type 0) (field : IsField text read Fits) (test : A → Bool) (Passes : A → Type 0)
    (passes : (x : A) → Fits x → test x ≡ true → Passes x) (fits : (x : A) → Passes x → Fits x) (passed : (x : A) → Passes x → test x ≡ true) where
  tested_takes : (bytes : List ℕ) (x : A) (rest : List ℕ) → IsBytes bytes → tested_at read test bytes ≡ Some (x, rest) → Takes bytes (text x) rest × Passes x
  tested_takes bytes x rest are e =
      let a = bind_some (read bytes) (λ x. cond (test x.0) (Some x) None) (x, rest) e in
      let g = test_some (test a.0.0) (Some a.0) (x, rest) a.2 in
      let t = field.takes bytes a.0.0 a.0.1 are a.1 in
      subst (λ (p : A × List ℕ). Takes bytes (text p.0) p.1 × Passes p.0) (some_is a.0 (x, rest) g.1) (t.0, passes a.0.0 t.1 g.0)

  tested_again : (x : A) (rest : List ℕ) → Passes x → tested_at read test (text x ++ rest) ≡ Some (x, rest)
  tested_again x rest p = rw (field.again x rest (fits x p), passed x p) refl

pub as_tested : {A : Type 0} {text : A → List ℕ} {read : Reader A} {Fits : A → Type 0} → IsField text read Fits → (test : A → Bool) (Passes : A → Type 0)
    → ((x : A) → Fits x → test x ≡ true → Passes x) → ((x : A) → Passes x → Fits x) → ((x : A) → Passes x → test x ≡ true) → IsField text (tested_at read test) Passes
as_tested {A} {text} {read} {Fits} field test Passes passes fits passed = record {
  takes = tested_takes text read Fits field test Passes passes fits passed;
  again = tested_again text read Fits field test Passes passes fits passed;
}
