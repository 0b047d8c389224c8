-- A text and a reader that belong together: what is read was spelled so, and what is spelled so is read again.
use Rattle.std.proofs.Common.{◌≡◌, ℕ, suc, ◌+◌, ◌<◌, Bool, true, false, cond, eqb, List, [], ◌∷◌, ◌++◌, length, get_or, take, drop, Option, Some, None, refl, sym, ap, subst, ◌∙◌, append_assoc, arith, inl, inr}
use Rattle.std.proofs.lemmas.Bool.{cases_lt, eqb-true}
use Rattle.std.proofs.lemmas.List.{length-take, get_or-drop, get_or-take, get_or_past, append-nil, nil_from_length}
pub use Rattle.record_spec.proofs.of_plain_laws.Options.{some_is, mapped_some}
use Rattle.record_fields.specs.Reading.{◌>>=◌, Reader, read_as, ended}

-- ---- bytes

abbrev pub IsBytes : List ℕ → Type 0
IsBytes bytes = (i : ℕ) → get_or bytes i 0 < 256

pub IsBytes-drop : (n : ℕ) (bytes : List ℕ) → IsBytes bytes → IsBytes (drop n bytes)
IsBytes-drop n bytes h i = rw get_or-drop (h (n + i))

pub IsBytes-take : (n : ℕ) (bytes : List ℕ) → IsBytes bytes → IsBytes (take n bytes)
IsBytes-take n bytes h i =
    elim (cases_lt i n) [
      | inl lt ↦ rw (get_or-take n bytes i 0 lt) (h i)
      | inr le ↦ rw (get_or_past (take n bytes) i 0 (omega (arith, length-take n bytes))) (omega arith)
    ]

pub IsBytes-rest : (b : ℕ) (bytes : List ℕ) → IsBytes (b ∷ bytes) → IsBytes bytes
IsBytes-rest b bytes h i = h (suc i)

-- ---- steps of reading

-- the value of a step that gives one
pub bind_some : {A B : Type 0} (r : Option A) (f : A → Option B) (y : B) → (r >>= f) ≡ Some y → (x : A) × (r ≡ Some x) × (f x ≡ Some y)
bind_some (Some x) f y e = (x, refl, e)
bind_some None f y e = absurd cc

-- a test that doesn't refuse
pub guard_some : {A : Type 0} (b : Bool) (x y : A) → cond b None (Some x) ≡ Some y → (b ≡ false) × (x ≡ y)
guard_some true x y e = absurd cc
guard_some false x y e = (refl, cc)

-- a test that holds
pub test_some : {A : Type 0} (b : Bool) (o : Option A) (y : A) → cond b o None ≡ Some y → (b ≡ true) × (o ≡ Some y)
test_some true o y e = (refl, e)
test_some false o y e = absurd cc

pub ended_some : {A : Type 0} (x y : A) (rest : List ℕ) → ended x rest ≡ Some y → (rest ≡ []) × (x ≡ y)
ended_some x y rest e =
    let g = test_some (eqb (length rest) 0) (Some x) y e in
    (nil_from_length rest (eqb-true _ _ g.0), some_is x y g.1)

-- ---- what a reader took from the front

pub record Takes (bytes text rest : List ℕ) : Type 0 where
  pub parts : bytes ≡ text ++ rest
  pub rest_fits : IsBytes rest

pub Takes-then : (a x b y c : List ℕ) → Takes a x b → Takes b y c → Takes a (x ++ y) c
Takes-then a x b y c p q = record { parts = p.parts ∙ ap (λ (t : List ℕ). x ++ t) q.parts ∙ sym (append_assoc x y c); rest_fits = q.rest_fits }

pub all_taken : (bytes text rest : List ℕ) → Takes bytes text rest → rest ≡ [] → bytes ≡ text
all_taken bytes text rest t nothing = t.parts ∙ ap (λ (r : List ℕ). text ++ r) nothing ∙ append-nil text

pub record IsField {A : Type 0} (text : A → List ℕ) (read : Reader A) (Fits : A → Type 0) : Type 0 where
  pub takes : (bytes : List ℕ) (x : A) (rest : List ℕ) → IsBytes bytes → read bytes ≡ Some (x, rest) → Takes bytes (text x) rest × Fits x
  pub again : (x : A) (rest : List ℕ) → Fits x → read (text x ++ rest) ≡ Some (x, rest)

-- where nothing stands behind it
pub alone : {A : Type 0} (text : A → List ℕ) (read : Reader A) (Fits : A → Type 0) (field : IsField text read Fits) (x : A) → Fits x → read (text x) ≡ Some (x, [])
alone text read Fits field x fits = ap read (sym (append-nil (text x))) ∙ field.again x [] fits

-- a field behind a tag, under a variant
pub variant_takes : {A B : Type 0} (text : A → List ℕ) (read : Reader A) (Fits : A → Type 0) (field : IsField text read Fits) (make : A → B) (textB : B → List ℕ) (FitsB : B → Type 0) (tag : ℕ)
    → ((x : A) → textB (make x) ≡ tag ∷ text x) → ((x : A) → Fits x → FitsB (make x))
    → (bytes : List ℕ) (y : B) (rest : List ℕ) → IsBytes (tag ∷ bytes) → read_as make read bytes ≡ Some (y, rest) → Takes (tag ∷ bytes) (textB y) rest × FitsB y
variant_takes {A} {B} text read Fits field make textB FitsB tag same fits bytes y rest are e =
    let a = bind_some (read bytes) (λ a. Some (make a.0, a.1)) (y, rest) e in
    let t = field.takes bytes a.0.0 a.0.1 (IsBytes-rest tag bytes are) a.1 in
    let made : Takes (tag ∷ bytes) (textB (make a.0.0)) a.0.1 = record { parts = ap (λ (x : List ℕ). tag ∷ x) t.0.parts ∙ ap (λ (x : List ℕ). x ++ a.0.1) (sym (same a.0.0)); rest_fits = t.0.rest_fits } in
    let pair_is : (make a.0.0, a.0.1) ≡ (y, rest) = some_is (make a.0.0, a.0.1) (y, rest) a.2 in
    subst (λ (p : B × List ℕ). Takes (tag ∷ bytes) (textB p.0) p.1 × FitsB p.0) pair_is (made, fits a.0.0 t.1)

-- a variant without a field
pub bare_takes : {B : Type 0} (textB : B → List ℕ) (FitsB : B → Type 0) (tag : ℕ) (z : B) → textB z ≡ tag ∷ [] → FitsB z
    → (bytes : List ℕ) (y : B) (rest : List ℕ) → IsBytes (tag ∷ bytes) → ◌≡◌ {A = Option (B × List ℕ)} (Some (z, bytes)) (Some (y, rest)) → Takes (tag ∷ bytes) (textB y) rest × FitsB y
bare_takes {B} textB FitsB tag z text_is fits bytes y rest are e =
    let made : Takes (tag ∷ bytes) (textB z) bytes = record { parts = ap (λ (x : List ℕ). x ++ bytes) (sym text_is); rest_fits = IsBytes-rest tag bytes are } in
    subst (λ (p : B × List ℕ). Takes (tag ∷ bytes) (textB p.0) p.1 × FitsB p.0) (some_is (z, bytes) (y, rest) e) (made, fits)
