-- Sets of keys that are borrowed from the elements so far: which keys they have.
use Rattle.std.proofs.Common.{◌≡◌, ◌∙◌, ℕ, List, [], ◌∷◌, ◌++◌, Bool, true, false, cond, refl, sym}
use Rattle.std.specs.Prelude.{◌&&◌, ◌||◌}
use Rattle.std.specs.List.{list_any}
use Rattle.std.specs.Str.{bytes_eq}
use Rattle.std.specs.Cmp.Lexicographic.{slice_cmp}
use Rattle.std.specs.Ordering.{is_eq, nat_cmp, ordering_then}
use Rattle.std.specs.declared.cmp.Ordering.{Ordering}
use Rattle.std.specs.declared.cmp.Ordering.TheVariants.{Less, Equal, Greater}
use Rattle.std.specs.Borrow.{Bor}
use Rattle.std.proofs.lemmas.List.Folds.{list_any-append}
use Rattle.std.proofs.lemmas.Cmp.{nat_list_eq_equiv}
use Rattle.std.proofs.lemmas.Map.Text.{is_eq-slice_cmp}
use Rattle.wire_fields.specs.fleet_rows.declared.catalog.Edge.{Edge}
use Rattle.wire_fields.specs.fleet_rows.declared.catalog.Resource.{Resource}
use Rattle.wire_fields.specs.wire_spec.Table.{relationship_name}
use Rattle.wire_catalog.specs.Distinct.{IsEdgeKey}

cond_or : (b c : Bool) → cond b true c ≡ c || (b || false)
cond_or true true = refl
cond_or true false = refl
cond_or false true = refl
cond_or false false = refl

module _ {K A : Type 0} (cmp : K → K → Ordering) (test : K → A → Bool) where
  -- the set has the keys of those elements
  abbrev pub HasKeys : List K → List A → Type 0
  HasKeys keys before = (q : K) → list_any (λ k. is_eq (cmp q k)) keys ≡ list_any (test q) before

  pub one_more : (old new : List K) (key : K) (before : List A) (a : A)
      → ((q : K) → list_any (λ k. is_eq (cmp q k)) new ≡ cond (is_eq (cmp key q)) true (list_any (λ k. is_eq (cmp q k)) old))
      → ((q : K) → is_eq (cmp key q) ≡ test q a)
      → HasKeys old before → HasKeys new (before ++ a ∷ [])
  one_more old new key before a updates is has = λ q.
      updates q
      ∙ (λ i. cond (is q i) true (has q i))
      ∙ cond_or (test q a) (list_any (test q) before)
      ∙ sym (list_any-append (test q) before (a ∷ []))

pub flip : (xs ys : List ℕ) → bytes_eq xs ys ≡ bytes_eq ys xs
flip = nat_list_eq_equiv.symm

-- ---- names of resources

abbrev pub NameKey : Type 0
NameKey = Bor (List ℕ) × Bor (List ℕ)

abbrev pub name_cmp : NameKey → NameKey → Ordering
name_cmp x y = ordering_then (slice_cmp nat_cmp x.0.now y.0.now) (slice_cmp nat_cmp x.1.now y.1.now)

abbrev pub is_name_of : NameKey → Resource → Bool
is_name_of q r = bytes_eq q.0.now r.rtype && bytes_eq q.1.now r.title

both_equal : (a b : Ordering) → is_eq (ordering_then a b) ≡ is_eq a && is_eq b
both_equal Less b = refl
both_equal Equal b = refl
both_equal Greater b = refl

pub name_is : (key q : NameKey) (r : Resource) → key.0.now ≡ r.rtype → key.1.now ≡ r.title → is_eq (name_cmp key q) ≡ is_name_of q r
name_is key q r rtype title =
    both_equal (slice_cmp nat_cmp key.0.now q.0.now) (slice_cmp nat_cmp key.1.now q.1.now)
    ∙ (λ i. is_eq-slice_cmp key.0.now q.0.now i && is_eq-slice_cmp key.1.now q.1.now i)
    ∙ (λ i. flip key.0.now q.0.now i && flip key.1.now q.1.now i)
    ∙ (λ i. bytes_eq q.0.now (rtype i) && bytes_eq q.1.now (title i))

-- ---- edges

abbrev pub EdgeKey : Type 0
EdgeKey = Bor (List ℕ) × Bor (List ℕ) × Bor (List ℕ) × Bor (List ℕ) × Bor (List ℕ)

abbrev pub key_cmp : EdgeKey → EdgeKey → Ordering
key_cmp x y = ordering_then (ordering_then (ordering_then (ordering_then (slice_cmp nat_cmp x.0.now y.0.now) (slice_cmp nat_cmp x.1.now y.1.now)) (slice_cmp nat_cmp x.2.now y.2.now)) (slice_cmp nat_cmp x.3.now y.3.now)) (slice_cmp nat_cmp x.4.now y.4.now)

abbrev pub is_key_of : EdgeKey → Edge → Bool
is_key_of q e =
    bytes_eq e.source.rtype q.0.now && bytes_eq e.source.title q.1.now
    && bytes_eq e.target.rtype q.2.now && bytes_eq e.target.title q.3.now
    && bytes_eq (relationship_name e.relationship) q.4.now

all_equal : (a b c d e : Ordering) → is_eq (ordering_then (ordering_then (ordering_then (ordering_then a b) c) d) e) ≡ is_eq a && is_eq b && is_eq c && is_eq d && is_eq e
all_equal Less b c d e = refl
all_equal Greater b c d e = refl
all_equal Equal Less c d e = refl
all_equal Equal Greater c d e = refl
all_equal Equal Equal Less d e = refl
all_equal Equal Equal Greater d e = refl
all_equal Equal Equal Equal Less e = refl
all_equal Equal Equal Equal Greater e = refl
all_equal Equal Equal Equal Equal e = refl

pub key_is : (key q : EdgeKey) (e : Edge) → IsEdgeKey e (key.0.now, key.1.now, key.2.now, key.3.now, key.4.now) → is_eq (key_cmp key q) ≡ is_key_of q e
key_is key q e is =
    all_equal (slice_cmp nat_cmp key.0.now q.0.now) (slice_cmp nat_cmp key.1.now q.1.now) (slice_cmp nat_cmp key.2.now q.2.now) (slice_cmp nat_cmp key.3.now q.3.now) (slice_cmp nat_cmp key.4.now q.4.now)
    ∙ (λ i. is_eq-slice_cmp key.0.now q.0.now i && is_eq-slice_cmp key.1.now q.1.now i && is_eq-slice_cmp key.2.now q.2.now i && is_eq-slice_cmp key.3.now q.3.now i && is_eq-slice_cmp key.4.now q.4.now i)
    ∙ (λ i. bytes_eq (is.0 i) q.0.now && bytes_eq (is.1 i) q.1.now && bytes_eq (is.2 i) q.2.now && bytes_eq (is.3 i) q.3.now && bytes_eq (is.4 i) q.4.now)
