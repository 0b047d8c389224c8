-- Members that rise by their keys are arranged already, but for their values.
use Rattle.std.proofs.Common.{◌≡◌, ◌∙◌, ℕ, List, [], ◌∷◌, ◌++◌, map, refl, ap, sym, Bool, true, false, ◌&&◌, Ordering, if◌then◌else◌, append_assoc}
use Rattle.std.specs.Borrow.{Bor}
use Rattle.std.specs.Ordering.{is_lt, is_gt}
use Rattle.std.specs.declared.cmp.Ordering.TheVariants.{Less, Equal, Greater}
use Rattle.table_spec.proofs.of_plain_laws.Booleans.{both_true}
use Rattle.table_spec.proofs.of_plain_laws.Orderings.{less_not_greater}
use Rattle.table_spec.specs.text_spec.Json.{Json, object, Members, member, members_of}
use Rattle.table_spec.specs.text_spec.Compact.{text_cmp, quoted, comma_if, compact, compact_members, insert_member, arranged, arranged_members, canonical}
use Rattle.row_cells.specs.declared.shown.Shown.{Shown}
use Rattle.row_cells.specs.Texts.{rises, members_text, column}

abbrev Pair : Type 0
Pair = List ℕ × Json

abbrev by_value : Pair → Pair
by_value m = (m.0, arranged m.1)

abbrev keys : List Pair → List (List ℕ)
keys = map (λ m. m.0)

first_stays : (b : Bool) (k l : List ℕ) (j i : Json) (ms more : Members) → b ≡ false → (if b then member l i more else member k j (member l i ms)) ≡ member k j (member l i ms)
first_stays true k l j i ms more h = cc
first_stays false k l j i ms more h = refl

risen : (ms : List Pair) → rises (keys ms) ≡ true → arranged_members (members_of ms) ≡ members_of (map by_value ms)
risen [] h = refl
risen (m ∷ []) h = refl
risen (m ∷ n ∷ ms) h =
    let parts = both_true (is_lt (text_cmp m.0 n.0)) (rises (keys (n ∷ ms))) h in
    ap (insert_member m.0 (arranged m.1)) (risen (n ∷ ms) parts.1)
    ∙ first_stays (is_gt (text_cmp m.0 n.0)) m.0 n.0 (arranged m.1) (arranged n.1) (members_of (map by_value ms)) (insert_member m.0 (arranged m.1) (members_of (map by_value ms))) (less_not_greater (text_cmp m.0 n.0) parts.0)

-- the text of members with the closing bracket
closed : (later : Bool) (ms : List Pair) → compact_members later (members_of (map by_value ms)) ≡ members_text later ms ++ 125 ∷ []
closed later [] = refl
closed later (m ∷ ms) =
    let head = comma_if later ++ quoted m.0 in
    let value = compact (arranged m.1) in
    let tail = members_text true ms in
    ap (λ r. head ++ 58 ∷ (value ++ r)) (closed true ms)
    ∙ sym (append_assoc (head ++ 58 ∷ value) tail (125 ∷ []) ∙ append_assoc head (58 ∷ value) (tail ++ 125 ∷ []))

pub object_text : (ms : List Pair) → rises (keys ms) ≡ true → canonical (object (members_of ms)) ≡ 123 ∷ (members_text false ms ++ 125 ∷ [])
object_text ms h = ap (λ l. 123 ∷ l) (ap (compact_members false) (risen ms h) ∙ closed false ms)

-- what stands between two bytes behind a text
pub wrapped : (a b : ℕ) (out t : List ℕ) → out ++ a ∷ [] ++ t ++ b ∷ [] ≡ out ++ a ∷ (t ++ b ∷ [])
wrapped a b out t = append_assoc (out ++ a ∷ []) t (b ∷ []) ∙ append_assoc out (a ∷ []) (t ++ b ∷ [])

pub column_keys : (cs : List (Bor (List ℕ) × Shown)) → map (λ m. m.0) (map column cs) ≡ map (λ c. c.0.now) cs
column_keys [] = refl
column_keys (c ∷ cs) = ap (λ ks. c.0.now ∷ ks) (column_keys cs)
