-- Members that are set one after the other.
use Rattle.std.proofs.Common.{◌≡◌, ◌∙◌, ℕ, ◌≤◌, List, [], ◌∷◌, ◌++◌, refl, sym, ap, Bool, true, false, Some, None, arith, append_assoc, if◌then◌else◌}
use Rattle.std.specs.List.{AllByRecursion}
use Rattle.std.specs.Str.{IsUtf8, bytes_eq}
use Rattle.text_spec.specs.Json.{Json, members_of, members_levels, find_member, set_member, settled, HasDistinctKeys}
use Rattle.text_spec.proofs.JsonLemmas.{members_levels-set, distinct_keys-set, missed, bytes_eq-symm}
use Rattle.json_machine.specs.Values.{IsValue, AreMemberValues}

-- ---- what holds of each member

abbrev pub IsKeyed : List ℕ × Json → Type 0
IsKeyed m = IsUtf8 m.0 × IsValue m.1

pub keyed-values : (ms : List (List ℕ × Json)) → AllByRecursion IsKeyed ms → AreMemberValues (members_of ms)
keyed-values [] h = tt
keyed-values (m ∷ ms) h = (h.0.0, h.0.1, keyed-values ms h.1)

module _ (k : List ℕ) (j : Json) where
  keyed_step : (b : Bool) (m : List ℕ × Json) (ms set : List (List ℕ × Json)) → IsKeyed m → IsValue j → AllByRecursion IsKeyed ms → AllByRecursion IsKeyed set → AllByRecursion IsKeyed (if b then (m.0, j) ∷ ms else m ∷ set)
  keyed_step true m ms set one new rest all = ((one.0, new), rest)
  keyed_step false m ms set one new rest all = (one, all)

  keyed-set : (ms : List (List ℕ × Json)) → IsUtf8 k → IsValue j → AllByRecursion IsKeyed ms → AllByRecursion IsKeyed (set_member k j ms)
  keyed-set [] u new h = ((u, new), tt)
  keyed-set (m ∷ ms) u new h = keyed_step (bytes_eq k m.0) m ms (set_member k j ms) h.0 new h.1 (keyed-set ms u new h.1)

pub keyed-settled : (ms done : List (List ℕ × Json)) → AllByRecursion IsKeyed done → AllByRecursion IsKeyed ms → AllByRecursion IsKeyed (settled done ms)
keyed-settled [] done d h = d
keyed-settled (m ∷ ms) done d h = keyed-settled ms (set_member m.0 m.1 done) (keyed-set m.0 m.1 done h.0.0 h.0.1 d) h.1

pub distinct-settled : (ms done : List (List ℕ × Json)) → HasDistinctKeys done → HasDistinctKeys (settled done ms)
distinct-settled [] done d = d
distinct-settled (m ∷ ms) done d = distinct-settled ms (set_member m.0 m.1 done) (distinct_keys-set m.0 m.1 done d)

pub levels-settled : (ms done : List (List ℕ × Json)) (n : ℕ) → members_levels (members_of done) ≤ n → members_levels (members_of ms) ≤ n → members_levels (members_of (settled done ms)) ≤ n
levels-settled [] done n d h = d
levels-settled (m ∷ ms) done n d h = levels-settled ms (set_member m.0 m.1 done) n (members_levels-set m.0 m.1 done n d (omega (arith, h))) (omega (arith, h))

-- ---- members of distinct keys stay as they are

absent_step : (b : Bool) (m : List ℕ × Json) (done : List (List ℕ × Json)) (k : List ℕ) (j : Json) → (if b then Some m.1 else find_member k done) ≡ None → (find_member k done ≡ None → set_member k j done ≡ done ++ (k, j) ∷ []) → (if b then (m.0, j) ∷ done else m ∷ set_member k j done) ≡ m ∷ (done ++ (k, j) ∷ [])
absent_step true m done k j h next = cc
absent_step false m done k j h next = ap (λ ms. m ∷ ms) (next h)

-- a key that is absent goes to the end
pub set_member-absent : (done : List (List ℕ × Json)) (k : List ℕ) (j : Json) → find_member k done ≡ None → set_member k j done ≡ done ++ (k, j) ∷ []
set_member-absent [] k j h = refl
set_member-absent (m ∷ done) k j h = absent_step (bytes_eq k m.0) m done k j h (set_member-absent done k j)

-- the key of none of the members ms is found in done
abbrev Apart : List (List ℕ × Json) → List (List ℕ × Json) → Type 0
Apart done [] = Unit {0}
Apart done (m ∷ ms) = (find_member m.0 done ≡ None) × Apart done ms

found_step : (b : Bool) (q : List ℕ) (m : List ℕ × Json) (done : List (List ℕ × Json)) (k : List ℕ) (j : Json) → (if b then Some m.1 else find_member q done) ≡ None → (find_member q done ≡ None → find_member q (done ++ (k, j) ∷ []) ≡ None) → (if b then Some m.1 else find_member q (done ++ (k, j) ∷ [])) ≡ None
found_step true q m done k j h next = h
found_step false q m done k j h next = next h

find-push_absent : (q : List ℕ) (done : List (List ℕ × Json)) (k : List ℕ) (j : Json) → bytes_eq q k ≡ false → find_member q done ≡ None → find_member q (done ++ (k, j) ∷ []) ≡ None
find-push_absent q [] k j other h = rw other refl
find-push_absent q (m ∷ done) k j other h = found_step (bytes_eq q m.0) q m done k j h (find-push_absent q done k j other)

apart-push : (done ms : List (List ℕ × Json)) (k : List ℕ) (j : Json) → Apart done ms → find_member k ms ≡ None → Apart (done ++ (k, j) ∷ []) ms
apart-push done [] k j a h = tt
apart-push done (m ∷ ms) k j a h =
    let first = missed (bytes_eq k m.0) k m.0 m.1 ms refl h in
    (find-push_absent m.0 done k j (bytes_eq-symm k m.0 first.0) a.0, apart-push done ms k j a.1 first.1)

settled-apart : (ms done : List (List ℕ × Json)) → Apart done ms → HasDistinctKeys ms → settled done ms ≡ done ++ ms
settled-apart [] done a d = sym (nil_end done)
  where
    nil_end : (xs : List (List ℕ × Json)) → xs ++ [] ≡ xs
    nil_end [] = refl
    nil_end (x ∷ xs) = ap (λ ys. x ∷ ys) (nil_end xs)
settled-apart (m ∷ ms) done a d =
    ap (λ xs. settled xs ms) (set_member-absent done m.0 m.1 a.0)
    ∙ settled-apart ms (done ++ m ∷ []) (apart-push done ms m.0 m.1 a.1 d.0) d.1
    ∙ append_assoc done (m ∷ []) ms

none-apart : (ms : List (List ℕ × Json)) → Apart [] ms
none-apart [] = tt
none-apart (m ∷ ms) = (refl, none-apart ms)

pub settled-distinct : (ms : List (List ℕ × Json)) → HasDistinctKeys ms → settled [] ms ≡ ms
settled-distinct ms d = settled-apart ms [] (none-apart ms) d
