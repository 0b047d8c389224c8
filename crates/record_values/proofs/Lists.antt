-- Lists: their field, how a loop reads them, and what their elements must be together.
use Rattle.std.proofs.Common.{◌≡◌, ℕ, zero, suc, ◌+◌, ◌^◌, ◌<◌, ◌≤◌, Bool, true, false, cond, ◌&&◌, List, [], ◌∷◌, ◌++◌, length, Option, Some, None, refl, sym, ap, subst, ◌∙◌, append_assoc, arith}
use Rattle.std.specs.Int.{w32}
use Rattle.std.specs.List.{AllByRecursion, flat_map}
use Rattle.std.proofs.lemmas.List.{append-nil}
use Rattle.record_fields.specs.record_spec.Parts.{short_text, list_text}
use Rattle.record_fields.specs.Reading.{◌>>=◌, Reader, number_at}
use Rattle.record_fields.proofs.Fields.{IsBytes, bind_some, test_some, some_is, Takes, Takes-then, IsField}
use Rattle.record_fields.proofs.Parts.{number32}
use Rattle.record_values.specs.Lists.{items_at, list_at}

-- ---- the field of a list

module _ {A : Type 0} (text : A → List ℕ) (read : Reader A) (Fits : A → Type 0) (field : IsField text read Fits) where
  abbrev pub ItemsFit : ℕ → List A → Type 0
  ItemsFit n xs = AllByRecursion Fits xs × (length xs ≡ n)

  items_take : (n : ℕ) (bytes : List ℕ) (x : List A) (rest : List ℕ) → IsBytes bytes → items_at read n bytes ≡ Some (x, rest) → Takes bytes (flat_map text x) rest × ItemsFit n x
  items_take zero bytes x rest are e =
      subst (λ (p : List A × List ℕ). Takes bytes (flat_map text p.0) p.1 × ItemsFit 0 p.0) (some_is ([], bytes) (x, rest) e) (record { parts = refl; rest_fits = are }, (tt, refl))
  items_take (suc n) bytes x rest are e =
      let a = bind_some (read bytes) (λ a. items_at read n a.1 >>= λ as_. Some (a.0 ∷ as_.0, as_.1)) (x, rest) e in
      let b = bind_some (items_at read n a.0.1) (λ as_. Some (a.0.0 ∷ as_.0, as_.1)) (x, rest) a.2 in
      let s = field.takes bytes a.0.0 a.0.1 are a.1 in
      let t = items_take n a.0.1 b.0.0 b.0.1 s.0.rest_fits b.1 in
      let all = Takes-then bytes (text a.0.0) a.0.1 (flat_map text b.0.0) b.0.1 s.0 t.0 in
      subst (λ (p : List A × List ℕ). Takes bytes (flat_map text p.0) p.1 × ItemsFit (suc n) p.0) (some_is (a.0.0 ∷ b.0.0, b.0.1) (x, rest) b.2) (all, ((s.1, t.1.0), ap suc t.1.1))

  items_again : (x : List A) (rest : List ℕ) → AllByRecursion Fits x → items_at read (length x) (flat_map text x ++ rest) ≡ Some (x, rest)
  items_again [] rest fits = refl
  items_again (a ∷ as_) rest fits =
      ap (items_at read (suc (length as_))) (append_assoc (text a) (flat_map text as_) rest)
      ∙ rw (field.again a (flat_map text as_ ++ rest) fits.0, items_again as_ rest fits.1) refl

  abbrev pub ListFits : List A → Type 0
  ListFits xs = AllByRecursion Fits xs × (length xs < 2 ^ 32)

  list_takes : (bytes : List ℕ) (x : List A) (rest : List ℕ) → IsBytes bytes → list_at read bytes ≡ Some (x, rest) → Takes bytes (list_text text x) rest × ListFits x
  unfolding list_at
  list_takes bytes x rest are e =
      let n = bind_some (number_at w32 bytes) (λ n. items_at read n.0 n.1) (x, rest) e in
      let s = number32.takes bytes n.0.0 n.0.1 are n.1 in
      let t = items_take n.0.0 n.0.1 x rest s.0.rest_fits n.2 in
      let all = Takes-then bytes (short_text n.0.0) n.0.1 (flat_map text x) rest s.0 t.0 in
      (subst (λ (k : ℕ). Takes bytes (short_text k ++ flat_map text x) rest) (sym t.1.1) all, (t.1.0, subst (λ (k : ℕ). k < 2 ^ 32) (sym t.1.1) s.1))

  list_again : (x : List A) (rest : List ℕ) → ListFits x → list_at read (list_text text x ++ rest) ≡ Some (x, rest)
  unfolding list_at
  list_again x rest fits =
      ap (list_at read) (append_assoc (short_text (length x)) (flat_map text x) rest)
      ∙ rw (number32.again (length x) (flat_map text x ++ rest) fits.1) (items_again x rest fits.0)

pub as_list : {A : Type 0} {text : A → List ℕ} {read : Reader A} {Fits : A → Type 0} → IsField text read Fits → IsField (list_text text) (list_at read) (λ xs. AllByRecursion Fits xs × (length xs < 2 ^ 32))
as_list {A} {text} {read} {Fits} field = record { takes = list_takes text read Fits field; again = list_again text read Fits field }

-- ---- how a loop reads a list

-- what was read stands before what is read
abbrev pub behind : {A : Type 0} → List A → Option (List A × List ℕ) → Option (List A × List ℕ)
behind done read = read >>= λ p. Some (done ++ p.0, p.1)

behind-nil : {A : Type 0} (o : Option (List A × List ℕ)) → behind [] o ≡ o
behind-nil None = refl
behind-nil (Some p) = refl

behind-one : {A : Type 0} (done : List A) (a : A) (o : Option (List A × List ℕ)) → behind done (o >>= λ as_. Some (a ∷ as_.0, as_.1)) ≡ behind (done ++ a ∷ []) o
behind-one done a None = refl
behind-one done a (Some p) = ap (λ (l : List _). Some (l, p.1)) (sym (append_assoc done (a ∷ []) p.0))

-- before the first item
pub none_before : {A : Type 0} (read : Reader A) (n : ℕ) (bytes : List ℕ) → behind [] (items_at read n bytes) ≡ items_at read n bytes
none_before read n bytes = behind-nil (items_at read n bytes)

-- one item more
pub step_read : {A : Type 0} (read : Reader A) (done more : List A) (n left : ℕ) (bytes rest : List ℕ) (a : A) (whole : Option (List A × List ℕ))
    → behind done (items_at read n bytes) ≡ whole → read bytes ≡ Some (a, rest) → n ≡ left + 1 → more ≡ done ++ a ∷ [] → behind more (items_at read left rest) ≡ whole
step_read read done more n left bytes rest a whole so_far one is grown =
    let next : n ≡ suc left = omega (arith, is) in
    ap (λ (l : List _). behind l (items_at read left rest)) grown
    ∙ sym (behind-one done a (items_at read left rest))
    ∙ sym (ap (λ o. behind done (o >>= λ a. items_at read left a.1 >>= λ as_. Some (a.0 ∷ as_.0, as_.1))) one)
    ∙ sym (ap (λ (k : ℕ). behind done (items_at read k bytes)) next)
    ∙ so_far

-- no item where one is to come
pub fail_read : {A : Type 0} (read : Reader A) (done : List A) (n : ℕ) (bytes : List ℕ) (whole : Option (List A × List ℕ))
    → behind done (items_at read n bytes) ≡ whole → read bytes ≡ None → 0 < n → whole ≡ None
fail_read read done zero bytes whole so_far none some = absurd (omega (arith, some))
fail_read read done (suc n) bytes whole so_far none some =
    sym so_far ∙ ap (λ o. behind done (o >>= λ a. items_at read n a.1 >>= λ as_. Some (a.0 ∷ as_.0, as_.1))) none

-- none is to come
pub done_read : {A : Type 0} (read : Reader A) (done : List A) (n : ℕ) (bytes : List ℕ) (whole : Option (List A × List ℕ))
    → behind done (items_at read n bytes) ≡ whole → n ≡ 0 → whole ≡ Some (done, bytes)
done_read read done n bytes whole so_far is =
    sym so_far ∙ ap (λ (k : ℕ). behind done (items_at read k bytes)) is ∙ ap (λ (l : List _). Some (l, bytes)) (append-nil done)
