-- Of equal keys the last value counts, at the first place.
use Rattle.std.proofs.Common.{◌≡◌, ◌∙◌, ℕ, List, [], ◌∷◌, ◌++◌, map, reverse, refl, sym, ap, Bool, true, false, Option, Some, None, ◌||◌, if◌then◌else◌}
use Rattle.std.specs.List.{list_any}
use Rattle.std.specs.Str.{bytes_eq}
use Rattle.std.proofs.lemmas.List.{reverse-append}
use Rattle.std.proofs.lemmas.Slice.Eq.{bytes_eq-Decides}
use Rattle.history_spec.proofs.of_plain_laws.Booleans.{both_ways}
use Rattle.history_spec.specs.text_spec.Json.{Json, find_member, set_member, settled}
use Rattle.history_spec.specs.wire_spec.Table.{Pairs}
use Rattle.wire_laws.specs.SettledLaws.{with_key, first_keys, LastValuesStandAtFirstPlaces}

-- ---- values

-- the first of two that is there
abbrev first_of : Option Json → Option Json → Option Json
first_of None o = o
first_of (Some j) o = Some j

module _ (q k : List ℕ) (j : Json) where
  find_cases : (a b c : Bool) (m : List ℕ × Json) (ms set : List (List ℕ × Json)) → bytes_eq k m.0 ≡ a → bytes_eq q m.0 ≡ b → bytes_eq q k ≡ c → find_member q set ≡ (if c then Some j else find_member q ms) → find_member q (if a then (m.0, j) ∷ ms else m ∷ set) ≡ (if c then Some j else (if b then Some m.1 else find_member q ms))
  find_cases true true true m ms set ea eb ec next = rw eb refl
  find_cases true true false m ms set ea eb ec next = absurd (both_ways (bytes_eq q k) ((bytes_eq-Decides q k).1 ((bytes_eq-Decides q m.0).0 eb ∙ sym ((bytes_eq-Decides k m.0).0 ea))) ec)
  find_cases true false true m ms set ea eb ec next = absurd (both_ways (bytes_eq q m.0) ((bytes_eq-Decides q m.0).1 ((bytes_eq-Decides q k).0 ec ∙ (bytes_eq-Decides k m.0).0 ea)) eb)
  find_cases true false false m ms set ea eb ec next = rw eb refl
  find_cases false true true m ms set ea eb ec next = absurd (both_ways (bytes_eq k m.0) ((bytes_eq-Decides k m.0).1 (sym ((bytes_eq-Decides q k).0 ec) ∙ (bytes_eq-Decides q m.0).0 eb)) ea)
  find_cases false true false m ms set ea eb ec next = rw eb refl
  find_cases false false true m ms set ea eb ec next = rw eb next
  find_cases false false false m ms set ea eb ec next = rw eb next

  find-set : (ms : List (List ℕ × Json)) → find_member q (set_member k j ms) ≡ (if bytes_eq q k then Some j else find_member q ms)
  find-set [] = refl
  find-set (m ∷ ms) = find_cases (bytes_eq k m.0) (bytes_eq q m.0) (bytes_eq q k) m ms (set_member k j ms) refl refl refl (find-set ms)

module _ (q : List ℕ) where
  append_step : (b : Bool) (m : List ℕ × Json) (ms ns : Pairs) → find_member q (ms ++ ns) ≡ first_of (find_member q ms) (find_member q ns) → (if b then Some m.1 else find_member q (ms ++ ns)) ≡ first_of (if b then Some m.1 else find_member q ms) (find_member q ns)
  append_step true m ms ns next = refl
  append_step false m ms ns next = next

  find-append : (ms ns : Pairs) → find_member q (ms ++ ns) ≡ first_of (find_member q ms) (find_member q ns)
  find-append [] ns = refl
  find-append (m ∷ ms) ns = append_step (bytes_eq q m.0) m ms ns (find-append ms ns)

  regroup : (o d : Option Json) (b : Bool) (j : Json) → first_of o (if b then Some j else d) ≡ first_of (first_of o (if b then Some j else None)) d
  regroup None d true j = refl
  regroup None d false j = refl
  regroup (Some i) d b j = refl

  value_of : (ms done : Pairs) → find_member q (settled done ms) ≡ first_of (find_member q (reverse ms)) (find_member q done)
  value_of [] done = refl
  value_of (m ∷ ms) done =
      value_of ms (set_member m.0 m.1 done)
      ∙ ap (first_of (find_member q (reverse ms))) (find-set q m.0 m.1 done)
      ∙ regroup (find_member q (reverse ms)) (find_member q done) (bytes_eq q m.0) m.1
      ∙ ap (λ o. first_of o (find_member q done)) (sym (find-append (reverse ms) (m ∷ [])) ∙ ap (find_member q) (sym (reverse-append (m ∷ []) ms)))

  first_none : (o : Option Json) → first_of o None ≡ o
  first_none None = refl
  first_none (Some j) = refl

-- ---- places

module _ (k : List ℕ) (j : Json) where
  kept_step : (c : Bool) (l : List ℕ) (keys set : List (List ℕ)) → set ≡ (if c then keys else keys ++ k ∷ []) → l ∷ set ≡ (if c then l ∷ keys else l ∷ (keys ++ k ∷ []))
  kept_step true l keys set h = ap (λ ks. l ∷ ks) h
  kept_step false l keys set h = ap (λ ks. l ∷ ks) h

  key_step : (b : Bool) (m : List ℕ × Json) (ms : Pairs) → map (λ n. n.0) (set_member k j ms) ≡ with_key k (map (λ n. n.0) ms) → map (λ n. n.0) (if b then (m.0, j) ∷ ms else m ∷ set_member k j ms) ≡ (if b || list_any (bytes_eq k) (map (λ n. n.0) ms) then m.0 ∷ map (λ n. n.0) ms else m.0 ∷ (map (λ n. n.0) ms ++ k ∷ []))
  key_step true m ms next = refl
  key_step false m ms next = kept_step (list_any (bytes_eq k) (map (λ n. n.0) ms)) m.0 (map (λ n. n.0) ms) (map (λ n. n.0) (set_member k j ms)) next

  keys-set : (ms : Pairs) → map (λ n. n.0) (set_member k j ms) ≡ with_key k (map (λ n. n.0) ms)
  keys-set [] = refl
  keys-set (m ∷ ms) = key_step (bytes_eq k m.0) m ms (keys-set ms)

keys_of : (ms done : Pairs) → map (λ n. n.0) (settled done ms) ≡ first_keys (map (λ n. n.0) done) (map (λ n. n.0) ms)
keys_of [] done = refl
keys_of (m ∷ ms) done = keys_of ms (set_member m.0 m.1 done) ∙ ap (λ keys. first_keys keys (map (λ n. n.0) ms)) (keys-set m.0 m.1 done)

pub last_values_stand_at_first_places : LastValuesStandAtFirstPlaces
last_values_stand_at_first_places ms = (λ k. value_of k ms [] ∙ first_none k (find_member k (reverse ms)), keys_of ms [])
