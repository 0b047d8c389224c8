-- The texts of fields and objects, put together from those of their parts.
use Rattle.std.proofs.Common.{◌≡◌, ◌∙◌, ℕ, ◌+◌, List, [], ◌∷◌, ◌++◌, drop, refl, sym, ap, Bool, true, false, ◌||◌, Option, Some, None, append_assoc, append-nil}
use Rattle.std.specs.Prelude.{is_some, slice_get}
use Rattle.std.proofs.lemmas.List.{drop_more}
use Rattle.std.proofs.lemmas.Option.{slice_get_within, get_or_from_slice_get}
use Rattle.dump_laws.specs.dump_spec.text_spec.Compact.{compact, compact_members, comma_if, quoted}
use Rattle.dump_laws.specs.dump_spec.text_spec.Json.{Json, members_of}
use Rattle.dump_laws.specs.dump_spec.wire_spec.Table.{Pairs}
use Rattle.dump_laws.specs.dump_spec.Payloads.{Fields, in_front, there, dictionary}
use Rattle.dump_writer.specs.Shown.{member_text, pairs_text, field_text}

-- the text of members with the closing bracket
closed : (later : Bool) (ms : Pairs) → compact_members later (members_of ms) ≡ pairs_text later ms ++ 125 ∷ []
closed later [] = refl
closed later (m ∷ ms) =
    let head = comma_if later ++ quoted m.0 in
    let value = compact m.1 in
    let tail = pairs_text true ms in
    ap (λ r. head ++ 58 ∷ (value ++ r)) (closed true ms)
    ∙ sym (append_assoc (head ++ 58 ∷ value) tail (125 ∷ []) ∙ append_assoc head (58 ∷ value) (tail ++ 125 ∷ []))

pub dictionary_text : (fields : Fields) → compact (dictionary fields) ≡ 123 ∷ (pairs_text false (there fields) ++ 125 ∷ [])
dictionary_text fields = ap (λ l. 123 ∷ l) (closed false (there fields))

step : (later : Bool) (name : List ℕ) (o : Option Json) (rest : Pairs) → pairs_text later (in_front name o rest) ≡ field_text later name o ++ pairs_text (later || is_some o) rest
step later name None rest = ap (λ b. pairs_text b rest) (sym (or_false later))
  where
    or_false : (b : Bool) → (b || false) ≡ b
    or_false true = refl
    or_false false = refl
step later name (Some value) rest = ap (λ b. member_text later name value ++ pairs_text b rest) (sym (or_true later))
  where
    or_true : (b : Bool) → (b || true) ≡ true
    or_true true = refl
    or_true false = refl

-- what a field adds, and what is left
pub one_more : (out new : List ℕ) (later : Bool) (name : List ℕ) (o : Option Json) (rest : Fields) → new ≡ out ++ field_text later name o
    → new ++ pairs_text (later || is_some o) (there rest) ≡ out ++ pairs_text later (there ((name, o) ∷ rest))
one_more out new later name o rest e =
    ap (λ l. l ++ pairs_text (later || is_some o) (there rest)) e
    ∙ append_assoc out (field_text later name o) (pairs_text (later || is_some o) (there rest))
    ∙ ap (λ l. out ++ l) (sym (step later name o (there rest)))

-- one member of an object more
pub member_written : (out : List ℕ) (later : Bool) (ms : Pairs) (at : ℕ) (key : List ℕ) (value : Json) → slice_get ms at ≡ Some (key, value)
    → ((((out ++ comma_if later) ++ quoted key) ++ 58 ∷ []) ++ compact value) ++ compact_members true (members_of (drop (at + 1) ms)) ≡ out ++ compact_members later (members_of (drop at ms))
member_written out later ms at key value is =
    let here : drop at ms ≡ (key, value) ∷ drop (at + 1) ms =
    drop_more ms at (key, value) (slice_get_within ms at (key, value) is) ∙ ap (λ (p : List ℕ × Json). p ∷ drop (at + 1) ms) (get_or_from_slice_get ms at (key, value) (key, value) is) in
    simp append_assoc refl ∙ ap (λ (l : Pairs). out ++ compact_members later (members_of l)) (sym here)

-- ---- further members

there_both : (fs gs : Fields) → there (fs ++ gs) ≡ there fs ++ there gs
there_both [] gs = refl
there_both (f ∷ fs) gs = by f.1 (there_both fs gs)
  where
    by : (o : Option Json) → there (fs ++ gs) ≡ there fs ++ there gs → in_front f.0 o (there (fs ++ gs)) ≡ in_front f.0 o (there fs) ++ there gs
    by None h = h
    by (Some v) h = ap (λ ms. (f.0, v) ∷ ms) h

later_both : (ms ns : Pairs) → pairs_text true (ms ++ ns) ≡ pairs_text true ms ++ pairs_text true ns
later_both [] ns = refl
later_both (m ∷ ms) ns =
    ap (λ l. member_text true m.0 m.1 ++ l) (later_both ms ns) ∙ sym (append_assoc (member_text true m.0 m.1) (pairs_text true ms) (pairs_text true ns))

-- fields behind one that has a value
pub further : (k : List ℕ) (v : Json) (fs gs : Fields) → pairs_text false (there ((k, Some v) ∷ (fs ++ gs))) ≡ pairs_text false (there ((k, Some v) ∷ fs)) ++ pairs_text true (there gs)
further k v fs gs =
    ap (λ ms. member_text false k v ++ pairs_text true ms) (there_both fs gs)
    ∙ ap (λ l. member_text false k v ++ l) (later_both (there fs) (there gs))
    ∙ sym (append_assoc (member_text false k v) (pairs_text true (there fs)) (pairs_text true (there gs)))

-- ---- an object whose last members are written one after the other

-- one member behind others
module _ (o p ca qa x : List ℕ) where
  joined_one : ((((o ++ 123 ∷ []) ++ p) ++ ca ++ qa ++ 58 ∷ []) ++ x) ++ 125 ∷ [] ≡ o ++ 123 ∷ ((p ++ ((ca ++ qa ++ 58 ∷ x) ++ [])) ++ 125 ∷ [])
  joined_one = simp (append_assoc, append-nil) refl

  -- two behind others
  joined_two : (cb qb y : List ℕ)
      → ((((((o ++ 123 ∷ []) ++ p) ++ ca ++ qa ++ 58 ∷ []) ++ x) ++ cb ++ qb ++ 58 ∷ []) ++ y) ++ 125 ∷ []
      ≡ o ++ 123 ∷ ((p ++ ((ca ++ qa ++ 58 ∷ x) ++ ((cb ++ qb ++ 58 ∷ y) ++ []))) ++ 125 ∷ [])
  joined_two cb qb y = simp (append_assoc, append-nil) refl

  -- three alone
  joined_three : (cb qb y cc qc z : List ℕ)
      → (((((((o ++ 123 ∷ []) ++ ca ++ qa ++ 58 ∷ []) ++ x) ++ cb ++ qb ++ 58 ∷ []) ++ y) ++ cc ++ qc ++ 58 ∷ []) ++ z) ++ 125 ∷ []
      ≡ o ++ 123 ∷ (((ca ++ qa ++ 58 ∷ x) ++ ((cb ++ qb ++ 58 ∷ y) ++ ((cc ++ qc ++ 58 ∷ z) ++ []))) ++ 125 ∷ [])
  joined_three cb qb y cc qc z = simp (append_assoc, append-nil) refl

pub one_further : (o : List ℕ) (k : List ℕ) (v : Json) (fs : Fields) (a : List ℕ) (x : Json)
    → ((((o ++ 123 ∷ []) ++ pairs_text false (there ((k, Some v) ∷ fs))) ++ comma_if true ++ quoted a ++ 58 ∷ []) ++ compact x) ++ 125 ∷ []
    ≡ o ++ compact (dictionary ((k, Some v) ∷ (fs ++ (a, Some x) ∷ [])))
one_further o k v fs a x =
    joined_one o (pairs_text false (there ((k, Some v) ∷ fs))) (comma_if true) (quoted a) (compact x)
    ∙ ap (λ l. o ++ 123 ∷ (l ++ 125 ∷ [])) (sym (further k v fs ((a, Some x) ∷ [])))
    ∙ ap (λ l. o ++ l) (sym (dictionary_text ((k, Some v) ∷ (fs ++ (a, Some x) ∷ []))))

pub two_further : (o : List ℕ) (k : List ℕ) (v : Json) (fs : Fields) (a b : List ℕ) (x y : Json)
    → ((((((o ++ 123 ∷ []) ++ pairs_text false (there ((k, Some v) ∷ fs))) ++ comma_if true ++ quoted a ++ 58 ∷ []) ++ compact x) ++ comma_if true ++ quoted b ++ 58 ∷ []) ++ compact y) ++ 125 ∷ []
    ≡ o ++ compact (dictionary ((k, Some v) ∷ (fs ++ (a, Some x) ∷ (b, Some y) ∷ [])))
two_further o k v fs a b x y =
    joined_two o (pairs_text false (there ((k, Some v) ∷ fs))) (comma_if true) (quoted a) (compact x) (comma_if true) (quoted b) (compact y)
    ∙ ap (λ l. o ++ 123 ∷ (l ++ 125 ∷ [])) (sym (further k v fs ((a, Some x) ∷ (b, Some y) ∷ [])))
    ∙ ap (λ l. o ++ l) (sym (dictionary_text ((k, Some v) ∷ (fs ++ (a, Some x) ∷ (b, Some y) ∷ []))))

pub three_alone : (o : List ℕ) (a b c : List ℕ) (x y z : Json)
    → (((((((o ++ 123 ∷ []) ++ comma_if false ++ quoted a ++ 58 ∷ []) ++ compact x) ++ comma_if true ++ quoted b ++ 58 ∷ []) ++ compact y) ++ comma_if true ++ quoted c ++ 58 ∷ []) ++ compact z) ++ 125 ∷ []
    ≡ o ++ compact (dictionary ((a, Some x) ∷ (b, Some y) ∷ (c, Some z) ∷ []))
three_alone o a b c x y z =
    joined_three o [] (comma_if false) (quoted a) (compact x) (comma_if true) (quoted b) (compact y) (comma_if true) (quoted c) (compact z)
    ∙ ap (λ l. o ++ l) (sym (dictionary_text ((a, Some x) ∷ (b, Some y) ∷ (c, Some z) ∷ [])))
