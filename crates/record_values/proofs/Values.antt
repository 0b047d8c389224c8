-- JSON values: what the reader's answers say of the machine's verdict, and the field of a value by its compact text.
use Rattle.std.proofs.Common.{◌≡◌, ℕ, ◌^◌, ◌<◌, ◌≤◌, Bool, true, false, cond, ◌&&◌, leb, List, [], ◌∷◌, length, ◌++◌, Option, Some, None, refl, sym, ap, subst, ◌∙◌, arith}
use Rattle.std.specs.Str.{bytes_eq}
use Rattle.std.proofs.lemmas.Slice.Eq.{bytes_eq-Decides}
use Rattle.std.proofs.lemmas.Bool.{leb-true, le-leb}
use Rattle.json_read.proofs.of_plain_laws.Booleans.{both_true}
use Rattle.json_read.specs.text_spec.Json.{Json, null, boolean, number, string, array, object, levels, Members, members_of, members_list}
use Rattle.json_read.specs.text_spec.Compact.{compact}
use Rattle.json_read.specs.text_spec.JsonText.{Spells, NotJsonAt, TooDeepAt}
use Rattle.json_read.proofs.of_text_spec.JsonLemmas.{members_of-list, members_list-of}
use Rattle.json_read.specs.json_machine.Verdict.{Verdict, spelled, not_json, too_deep, Means}
use Rattle.json_read.specs.json_machine.Machine.{value, verdict}
use Rattle.json_read.specs.json_machine.Values.{IsValue}
use Rattle.json_read.proofs.of_json_machine.OneVerdict.{verdict_is}
use Rattle.json_read.proofs.of_json_machine.Law.{spells_verdict, verdict_means}
use Rattle.json_read.proofs.of_plain_laws.Lists.{bytes_eq-itself}
use Rattle.json_read.proofs.of_json_machine.Spelled.{spells_values, compact_spells}
use Rattle.record_fields.specs.history_spec.Lawful.{IsJson}
use Rattle.record_fields.specs.record_spec.Parts.{bytes_text, json_text}
use Rattle.record_fields.specs.Reading.{◌>>=◌, Shows, bytes_at}
use Rattle.record_fields.proofs.Fields.{IsBytes, bind_some, test_some, some_is, Takes, IsField}
use Rattle.record_fields.proofs.Parts.{counted}
use Rattle.record_values.specs.Fields.{spelled_value, compact_value, json_at, members_if, members_at}

pub spelled_is : (bytes : List ℕ) (v : Json) → Spells bytes v → spelled_value (verdict 127 [] value 0 bytes) ≡ Some v
spelled_is bytes v s = ap spelled_value (spells_verdict bytes v s)

pub not_json_is : (bytes : List ℕ) (at : ℕ) → NotJsonAt bytes at → spelled_value (verdict 127 [] value 0 bytes) ≡ None
not_json_is bytes at s = ap spelled_value (verdict_is bytes (not_json at) s)

pub too_deep_is : (bytes : List ℕ) (at : ℕ) → TooDeepAt bytes at → spelled_value (verdict 127 [] value 0 bytes) ≡ None
too_deep_is bytes at s = ap spelled_value (verdict_is bytes (too_deep at) s)

spelled_some : (w : Verdict) (j : Json) → spelled_value w ≡ Some j → w ≡ spelled j
spelled_some (spelled v) j e = ap spelled (some_is v j e)
spelled_some (not_json at) j e = absurd cc
spelled_some (too_deep at) j e = absurd cc

-- ---- the value of a compact text

pub compact_takes : (most : ℕ) (bytes : List ℕ) (j : Json) → compact_value most bytes ≡ Some j → IsValue j × (levels j ≤ most) × (compact j ≡ bytes)
unfolding compact_value
compact_takes most bytes j e =
    let a = bind_some (spelled_value (verdict 127 [] value 0 bytes)) (λ v. cond (leb (levels v) most && bytes_eq (compact v) bytes) (Some v) None) j e in
    let v = a.0 in
    let g = test_some (leb (levels v) most && bytes_eq (compact v) bytes) (Some v) j a.2 in
    let two = both_true (leb (levels v) most) (bytes_eq (compact v) bytes) g.0 in
    let spells : Spells bytes v = subst (Means bytes) (spelled_some (verdict 127 [] value 0 bytes) v a.1) (verdict_means bytes) in
    subst (λ (k : Json). IsValue k × (levels k ≤ most) × (compact k ≡ bytes)) (some_is v j g.1) ((spells_values bytes v spells).0, leb-true _ _ two.0, (bytes_eq-Decides (compact v) bytes).0 two.1)

pub compact_again : (most : ℕ) (j : Json) → most ≤ 127 → IsValue j → levels j ≤ most → compact_value most (compact j) ≡ Some j
unfolding compact_value
compact_again most j few is within =
    let spells : Spells (compact j) j = compact_spells j is (omega (arith, few, within)) in
    rw (spelled_is (compact j) j spells, le-leb (levels j) most within, bytes_eq-itself (compact j)) refl

-- ---- a value by its compact text

module _ (most : ℕ) (few : most ≤ 127) where
  json_takes : (bytes : List ℕ) (x : Json) (rest : List ℕ) → IsBytes bytes → json_at most bytes ≡ Some (x, rest) → Takes bytes (json_text x) rest × IsJson most x
  unfolding json_at
  json_takes bytes x rest are e =
      let a = bind_some (bytes_at bytes) (λ text. compact_value most text.0 >>= λ j. Some (j, text.1)) (x, rest) e in
      let b = bind_some (compact_value most a.0.0) (λ j. Some (j, a.0.1)) (x, rest) a.2 in
      let t = counted.takes bytes a.0.0 a.0.1 are a.1 in
      let c = compact_takes most a.0.0 b.0 b.1 in
      let whole : Takes bytes (json_text b.0) a.0.1 = subst (λ (l : List ℕ). Takes bytes (bytes_text l) a.0.1) (sym c.2) t.0 in
      let fits : IsJson most b.0 = record { value = c.0; levels = c.1; counted = subst (λ (l : List ℕ). length l < 2 ^ 32) (sym c.2) t.1 } in
      subst (λ (p : Json × List ℕ). Takes bytes (json_text p.0) p.1 × IsJson most p.0) (some_is (b.0, a.0.1) (x, rest) b.2) (whole, fits)

  json_again : (x : Json) (rest : List ℕ) → IsJson most x → json_at most (json_text x ++ rest) ≡ Some (x, rest)
  unfolding json_at
  json_again x rest fits = rw (counted.again (compact x) rest fits.counted, compact_again most x few fits.value fits.levels) refl

  pub json : IsField json_text (json_at most) (IsJson most)
  json = record { takes = json_takes; again = json_again }

  -- ---- an object

  abbrev pub members_text : List (List ℕ × Json) → List ℕ
  members_text ms = json_text (object (members_of ms))

  abbrev pub AreJson : List (List ℕ × Json) → Type 0
  AreJson ms = IsJson most (object (members_of ms))

  members_some : (j : Json) (ms : List (List ℕ × Json)) → members_if j ≡ Some ms → j ≡ object (members_of ms)
  members_some null ms e = absurd cc
  members_some (boolean b) ms e = absurd cc
  members_some (number s) ms e = absurd cc
  members_some (string s) ms e = absurd cc
  members_some (array js) ms e = absurd cc
  members_some (object qs) ms e = ap object (sym (members_of-list qs) ∙ ap members_of (some_is (members_list qs) ms e))

  members_takes : (bytes : List ℕ) (x : List (List ℕ × Json)) (rest : List ℕ) → IsBytes bytes → members_at most bytes ≡ Some (x, rest) → Takes bytes (members_text x) rest × AreJson x
  unfolding members_at
  members_takes bytes x rest are e =
      let a = bind_some (json_at most bytes) (λ j. members_if j.0 >>= λ ms. Some (ms, j.1)) (x, rest) e in
      let b = bind_some (members_if a.0.0) (λ ms. Some (ms, a.0.1)) (x, rest) a.2 in
      let t = json_takes bytes a.0.0 a.0.1 are a.1 in
      let whole = subst (λ (j : Json). Takes bytes (json_text j) a.0.1 × IsJson most j) (members_some a.0.0 b.0 b.1) t in
      subst (λ (p : List (List ℕ × Json) × List ℕ). Takes bytes (members_text p.0) p.1 × AreJson p.0) (some_is (b.0, a.0.1) (x, rest) b.2) whole

  members_again : (x : List (List ℕ × Json)) (rest : List ℕ) → AreJson x → members_at most (members_text x ++ rest) ≡ Some (x, rest)
  unfolding members_at
  members_again x rest fits = rw (json_again (object (members_of x)) rest fits, members_list-of x) refl

  pub members : IsField members_text (members_at most) AreJson
  members = record { takes = members_takes; again = members_again }

-- an object's text, read as a value
members_read : (most : ℕ) (bytes : List ℕ) (j : Json) (ms : List (List ℕ × Json)) (rest : List ℕ) → json_at most bytes ≡ Some (j, rest) → j ≡ object (members_of ms) → members_at most bytes ≡ Some (ms, rest)
unfolding members_at
members_read most bytes j ms rest e is = rw (e, is, members_list-of ms) refl

pub shown_members : {A B : Type 0} (value_of : A → Json) (now : B → List ℕ) (most : ℕ) (bytes : List ℕ) (o : Option (A × B)) (j : A) (ms : List (List ℕ × Json)) (rest : B)
    → Shows (λ x. (value_of x.0, now x.1)) o (json_at most bytes) → o ≡ Some (j, rest) → value_of j ≡ object (members_of ms) → members_at most bytes ≡ Some (ms, now rest)
shown_members {A} {B} value_of now most bytes o j ms rest shows is an_object =
    members_read most bytes (value_of j) ms (now rest) (subst (λ (p : Option (A × B)). Shows (λ x. (value_of x.0, now x.1)) p (json_at most bytes)) is shows) an_object
