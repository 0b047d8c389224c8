-- Fields whose values are JSON of so many levels make an object that is JSON of one level more.
use Rattle.std.proofs.Common.{◌≡◌, ℕ, suc, ◌≤◌, List, [], ◌∷◌, arith, sym, subst, Bool, true, ◌&&◌, Option, Some, None}
use Rattle.std.specs.Prelude.{max, nat_lt}
use Rattle.std.specs.List.{AllByRecursion, list_all}
use Rattle.dump_spec.specs.json_machine.Values.{IsValue, AreValues, AreMemberValues}
use Rattle.dump_spec.specs.text_spec.Json.{Json, levels, items_levels, members_levels, items_of, members_of, HasDistinctKeys}
use Rattle.dump_spec.specs.Payloads.{Fields, in_front, there, list, dictionary}
use Rattle.dump_laws.proofs.FoundFields.{are_apart, distinct_keys}
use Rattle.dump_spec.proofs.of_plain_laws.Booleans.{both_true}
use Rattle.dump_spec.proofs.of_text_spec.JsonLemmas.{members_list-of}
use Rattle.dump_spec.proofs.of_table_machine.ReportColumns.{key}

-- JSON of at most so many levels
pub record IsWithin (n : ℕ) (j : Json) : Type 0 where
  pub value : IsValue j
  pub few : levels j ≤ n

abbrev pub IfWithin : ℕ → Option Json → Type 0
IfWithin n None = Unit {0}
IfWithin n (Some j) = IsWithin n j

-- each name is ASCII
abbrev pub are_ascii : Fields → Bool
are_ascii [] = true
are_ascii (field ∷ fields) = list_all (λ x. nat_lt x 128) field.0 && are_ascii fields

-- ---- members

record AreWithin (n : ℕ) (fields : Fields) : Type 0 where
  values : AreMemberValues (members_of (there fields))
  few : members_levels (members_of (there fields)) ≤ n

max_within : (a b n : ℕ) → a ≤ n → b ≤ n → max a b ≤ n
max_within a b n h k = grind arith

members_step : (n : ℕ) (name : List ℕ) (o : Option Json) (fields : Fields) → list_all (λ x. nat_lt x 128) name ≡ true → IfWithin n o → AreWithin n fields
    → AreMemberValues (members_of (in_front name o (there fields))) × (members_levels (members_of (in_front name o (there fields))) ≤ n)
members_step n name None fields a h rest = (rest.values, rest.few)
members_step n name (Some j) fields a h rest = ((key name a, h.value, rest.values), max_within (levels j) (members_levels (members_of (there fields))) n h.few rest.few)

members_within : (n : ℕ) (fields : Fields) → are_ascii fields ≡ true → AllByRecursion (λ field. IfWithin n field.1) fields → AreWithin n fields
members_within n [] a h = record { values = tt; few = omega arith }
members_within n (field ∷ fields) a h =
    let parts = both_true (list_all (λ x. nat_lt x 128) field.0) (are_ascii fields) a in
    let step = members_step n field.0 field.1 fields parts.0 h.0 (members_within n fields parts.1 h.1) in
    record { values = step.0; few = step.1 }

pub dictionary_within : (n : ℕ) (fields : Fields) → are_ascii fields ≡ true → are_apart fields ≡ true → AllByRecursion (λ field. IfWithin n field.1) fields → IsWithin (suc n) (dictionary fields)
dictionary_within n fields a apart h =
    let all = members_within n fields a h in
    record {
      value = (all.values, subst HasDistinctKeys (sym (members_list-of (there fields))) (distinct_keys fields apart));
      few = (let few = all.few in omega (arith, few));
    }

-- ---- items

record ItemsWithin (n : ℕ) (js : List Json) : Type 0 where
  values : AreValues (items_of js)
  few : items_levels (items_of js) ≤ n

items_within : (n : ℕ) (js : List Json) → AllByRecursion (IsWithin n) js → ItemsWithin n js
items_within n [] h = record { values = tt; few = omega arith }
items_within n (j ∷ js) h =
    let rest = items_within n js h.1 in
    record { values = (h.0.value, rest.values); few = max_within (levels j) (items_levels (items_of js)) n h.0.few rest.few }

pub list_within : (n : ℕ) (js : List Json) → AllByRecursion (IsWithin n) js → IsWithin (suc n) (list js)
list_within n js h = let all = items_within n js h in record { value = all.values; few = (let few = all.few in omega (arith, few)) }

pub wider : (n m : ℕ) (j : Json) → n ≤ m → IsWithin n j → IsWithin m j
wider n m j le h = record { value = h.value; few = (let few = h.few in omega (arith, le, few)) }
