-- Paths: their order is total, and a path leads to the same in an arranged value.
use Rattle.std.proofs.Common.{◌≡◌, ◌∙◌, ℕ, zero, suc, ◌<◌, List, [], ◌∷◌, Bool, true, false, Option, Some, None, refl, sym, ap, if◌then◌else◌}
use Rattle.std.specs.Cmp.{IsTotalOrder, nat_cmp_is}
use Rattle.std.specs.declared.cmp.Ordering.TheVariants.{Less, Equal}
use Rattle.std.specs.Option.{option_and_then, option_map}
use Rattle.std.specs.Ordering.{nat_cmp, ordering_reverse, is_gt}
use Rattle.std.proofs.lemmas.Cmp.{nat_cmp_total, nat_list_cmp_total, lists_total}
use Rattle.fleet_rows.specs.text_spec.Compact.{text_cmp, insert_member, arranged, arranged_items, arranged_members}
use Rattle.fleet_rows.specs.text_spec.Json.{Json, null, boolean, number, string, array, object, Items, no_items, item, Members, no_members, member}
use Rattle.text_laws.proofs.CanonicalLaws.{find-arranged}
use Rattle.fact_paths.specs.Leaves.{Step, key, index, item_at, value_in, value_at, step_cmp, path_cmp, is_leaf}

-- ---- order

step_antisymm : (x y : Step) → step_cmp x y ≡ ordering_reverse (step_cmp y x)
step_antisymm (index m) (index n) = nat_cmp_total.antisymm m n
step_antisymm (index m) (key l) = refl
step_antisymm (key k) (index n) = refl
step_antisymm (key k) (key l) = nat_list_cmp_total.antisymm k l

step_trans : (x y z : Step) → step_cmp x y ≡ Less → step_cmp y z ≡ Less → step_cmp x z ≡ Less
step_trans (index l) (index m) (index n) h g = nat_cmp_total.trans l m n h g
step_trans (index l) (index m) (key n) h g = refl
step_trans (index l) (key m) (index n) h g = cc
step_trans (index l) (key m) (key n) h g = refl
step_trans (key l) (index m) (index n) h g = cc
step_trans (key l) (index m) (key n) h g = cc
step_trans (key l) (key m) (index n) h g = cc
step_trans (key l) (key m) (key n) h g = nat_list_cmp_total.trans l m n h g

step_congr : (x y z : Step) → step_cmp x y ≡ Equal → step_cmp x z ≡ step_cmp y z
step_congr (index l) (index m) (index n) h = nat_cmp_total.congr l m n h
step_congr (index l) (index m) (key n) h = refl
step_congr (index l) (key m) z h = cc
step_congr (key l) (index m) z h = cc
step_congr (key l) (key m) (index n) h = refl
step_congr (key l) (key m) (key n) h = nat_list_cmp_total.congr l m n h

pub step_cmp_total : IsTotalOrder step_cmp
step_cmp_total = record { antisymm = step_antisymm; trans = step_trans; congr = step_congr }

pub path_cmp_total : IsTotalOrder path_cmp
path_cmp_total = lists_total step_cmp_total

pub below : (m n : ℕ) → m < n → nat_cmp m n ≡ Less
below m n h = sym (nat_cmp_is m n Less h)

-- ---- values of which the members are arranged

item_arranged : (n : ℕ) (js : Items) → item_at n (arranged_items js) ≡ option_map arranged (item_at n js)
item_arranged n no_items = refl
item_arranged zero (item j js) = refl
item_arranged (suc n) (item j js) = item_arranged n js

value_in_arranged : (s : Step) (j : Json) → value_in s (arranged j) ≡ option_map arranged (value_in s j)
value_in_arranged (key k) null = refl
value_in_arranged (key k) (boolean b) = refl
value_in_arranged (key k) (number s) = refl
value_in_arranged (key k) (string s) = refl
value_in_arranged (key k) (array js) = refl
value_in_arranged (key k) (object ms) = find-arranged k ms
value_in_arranged (index n) null = refl
value_in_arranged (index n) (boolean b) = refl
value_in_arranged (index n) (number s) = refl
value_in_arranged (index n) (string s) = refl
value_in_arranged (index n) (array js) = item_arranged n js
value_in_arranged (index n) (object ms) = refl

then_arranged : (f : Json → Option Json) (o : Option Json) → ((j : Json) → f (arranged j) ≡ option_map arranged (f j)) → option_and_then f (option_map arranged o) ≡ option_map arranged (option_and_then f o)
then_arranged f None h = refl
then_arranged f (Some j) h = h j

pub value_at_arranged : (path : List Step) (j : Json) → value_at path (arranged j) ≡ option_map arranged (value_at path j)
value_at_arranged [] j = refl
value_at_arranged (s ∷ path) j =
    ap (option_and_then (value_at path)) (value_in_arranged s j) ∙ then_arranged (value_at path) (value_in s j) (value_at_arranged path)

-- ---- leaves of which the members are arranged

branches_step : (b : Bool) (k l : List ℕ) (j i : Json) (ms more : Members) → is_leaf (object (if b then member l i more else member k j (member l i ms))) ≡ false
branches_step true k l j i ms more = refl
branches_step false k l j i ms more = refl

branches : (k : List ℕ) (j : Json) (ms : Members) → is_leaf (object (insert_member k j ms)) ≡ false
branches k j no_members = refl
branches k j (member l i ms) = branches_step (is_gt (text_cmp k l)) k l j i ms (insert_member k j ms)

pub leaf_arranged : (j : Json) → is_leaf j ≡ true → arranged j ≡ j
leaf_arranged null h = refl
leaf_arranged (boolean b) h = refl
leaf_arranged (number s) h = refl
leaf_arranged (string s) h = refl
leaf_arranged (array no_items) h = refl
leaf_arranged (array (item j js)) h = cc
leaf_arranged (object no_members) h = refl
leaf_arranged (object (member k j ms)) h = cc

pub arranged_leaf : (j : Json) → is_leaf (arranged j) ≡ true → arranged j ≡ j
arranged_leaf null h = refl
arranged_leaf (boolean b) h = refl
arranged_leaf (number s) h = refl
arranged_leaf (string s) h = refl
arranged_leaf (array no_items) h = refl
arranged_leaf (array (item j js)) h = cc
arranged_leaf (object no_members) h = refl
arranged_leaf (object (member k j ms)) h =
    let no : is_leaf (object (insert_member k (arranged j) (arranged_members ms))) ≡ false = branches k (arranged j) (arranged_members ms) in
    absurd (let both : false ≡ true = sym no ∙ h in cc)
