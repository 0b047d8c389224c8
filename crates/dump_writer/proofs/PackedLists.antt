-- A packed list is empty exactly if its text has two bytes.
use Rattle.std.proofs.Common.{◌≡◌, ℕ, ◌≤◌, ◌==◌, List, [], ◌∷◌, length, refl, arith, lit≤, Bool, true, false, not, length-append}
use Rattle.std.specs.Prelude.{is_some}
use Rattle.std.specs.List.{AllByRecursion}
use Rattle.dump_laws.specs.dump_spec.json_machine.Values.{IsValue}
use Rattle.dump_laws.specs.dump_spec.text_spec.Compact.{compact, compact_items}
use Rattle.dump_laws.specs.dump_spec.text_spec.Json.{Json, Items, no_items, item, null, boolean, number, string, array, object, items_of}
use Rattle.dump_laws.specs.dump_spec.text_spec.Number.{NumberText, IsNumberText, IsWhole, number_text}
use Rattle.dump_laws.specs.dump_spec.Payloads.{list, if_any}
use Rattle.dump_writer.specs.Shown.{value_text}

-- ---- each value has some byte

whole_has : (w : List ℕ) → IsWhole w → 1 ≤ length w
whole_has [] is = absurd is
whole_has (d ∷ ds) is = omega arith

number_has : (n : NumberText) → IsNumberText n → 1 ≤ length (number_text n)
number_has n is = let one = whole_has n.whole is.0 in simp length-append (omega (arith, one))

value_has : (j : Json) → IsValue j → 1 ≤ length (compact j)
value_has null is = lit≤ tt
value_has (boolean true) is = lit≤ tt
value_has (boolean false) is = lit≤ tt
value_has (number s) is = rw is.2 (number_has is.0 is.1)
value_has (string s) is = omega arith
value_has (array js) is = omega arith
value_has (object ms) is = omega arith

end_has : (later : Bool) (js : Items) → 1 ≤ length (compact_items later js)
end_has later no_items = omega arith
end_has later (item j js) = let rest = end_has true js in simp length-append (omega (arith, rest))

-- ---- so a list with items is longer

not_two : (n : ℕ) → 3 ≤ n → (n == 2) ≡ false
not_two n h = grind arith

longer : (j : Json) (js : List Json) → IsValue j → 3 ≤ length (compact (array (items_of (j ∷ js))))
longer j js is =
    let one = value_has j is in
    let rest = end_has true (items_of js) in
    simp length-append (omega (arith, one, rest))

pub nothing_is_short : (js : List Json) → AllByRecursion IsValue js → (length (compact (array (items_of js))) == 2) ≡ not (is_some (if_any list js))
nothing_is_short [] all = refl
nothing_is_short (j ∷ js) all = not_two (length (compact (array (items_of (j ∷ js))))) (longer j js all.0)

pub nothing_is_empty : (js : List Json) → not (is_some (if_any list js)) ≡ true → value_text (if_any list js) ≡ []
nothing_is_empty [] none = refl
nothing_is_empty (j ∷ js) none = cc

pub something_is_written : (js : List Json) → not (is_some (if_any list js)) ≡ false → value_text (if_any list js) ≡ compact (array (items_of js))
something_is_written [] some = cc
something_is_written (j ∷ js) some = refl
