-- A list is told by the compact text of its array.
use Rattle.std.proofs.Common.{◌≡◌, ◌∙◌, ℕ, ◌≤◌, List, [], ◌++◌, refl, sym, ap, subst, Err}
use Rattle.json_read.specs.text_spec.Json.{Json, Items, array, items_of, items_list, levels}
use Rattle.json_read.specs.text_spec.JsonText.{Spells}
use Rattle.json_read.specs.text_spec.Compact.{compact}
use Rattle.json_read.specs.json_machine.Values.{IsValue}
use Rattle.json_read.proofs.of_text_spec.JsonLemmas.{items_list-of}
use Rattle.json_read.proofs.of_json_machine.Law.{spells_verdict}
use Rattle.json_read.proofs.of_json_machine.Spelled.{compact_spells}
use Rattle.packed_values.specs.Packed.{list_told, list_in, IsPacked, IsArray}
use Rattle.json_read.specs.Found.{IsReadOf}
use Rattle.json_read.specs.declared.fault.ReadFault.{ReadFault}
use Rattle.json_read.specs.declared.fault.ReadFault.TheVariants.{NotJson, TooDeep}

-- what an array's text spells
pub list_spelled : (bytes : List ℕ) (js : List Json) → Spells bytes (array (items_of js)) → list_in bytes ≡ js
unfolding list_in
list_spelled bytes js s = ap list_told (spells_verdict bytes (array (items_of js)) s) ∙ items_list-of js

pub list_packed : (js : List Json) → IsValue (array (items_of js)) → levels (array (items_of js)) ≤ 127 → list_in (compact (array (items_of js))) ≡ js
list_packed js is within = list_spelled (compact (array (items_of js))) js (compact_spells (array (items_of js)) is within)

pub is_packed : (js : List Json) → IsValue (array (items_of js)) → levels (array (items_of js)) ≤ 127 → IsPacked (compact (array (items_of js)))
is_packed js is within =
    let same = list_packed js is within in
    subst (λ (ks : List Json). Spells (compact (array (items_of js))) (array (items_of ks)) × (compact (array (items_of js)) ≡ compact (array (items_of ks)))) (sym same)
    (compact_spells (array (items_of js)) is within, refl)

-- the text of a list, appended to nothing and then fitted
pub written : (none text fitted : List ℕ) (js ks : List Json) → none ≡ [] → text ≡ none ++ compact (array (items_of js)) → fitted ≡ text → js ≡ ks → fitted ≡ compact (array (items_of ks))
written none text fitted js ks empty appended fits same = fits ∙ appended ∙ (λ i. empty i ++ compact (array (items_of (same i))))

-- ---- what the reader gives of a packed text

pub spells_packed : (bytes now : List ℕ) → now ≡ bytes → IsPacked bytes → Spells now (array (items_of (list_in bytes)))
spells_packed bytes now same packed = subst (λ (b : List ℕ). Spells b (array (items_of (list_in bytes)))) (sym same) packed.0

pub is_json : (v : Json) (fault : ReadFault) (at : ℕ) → IsReadOf v (Err fault) → fault ≡ NotJson at → ⊥
is_json v fault at is same = subst (λ (f : ReadFault). IsReadOf v (Err f)) same is

pub is_shallow : (v : Json) (fault : ReadFault) (at : ℕ) → IsReadOf v (Err fault) → fault ≡ TooDeep at → ⊥
is_shallow v fault at is same = subst (λ (f : ReadFault). IsReadOf v (Err f)) same is

pub is_array : (v : Json) (js : Items) → v ≡ array js → IsArray v
is_array v js same = subst IsArray (sym same) tt

items_same : (js ks : Items) → array js ≡ array ks → js ≡ ks
items_same js ks same = cc

pub same_list : (js ks : List Json) → array (items_of js) ≡ array (items_of ks) → js ≡ ks
same_list js ks same = sym (items_list-of js) ∙ ap items_list (items_same (items_of js) (items_of ks) same) ∙ items_list-of ks
