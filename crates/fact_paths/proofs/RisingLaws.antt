-- The paths of leaves rise.
use Rattle.std.proofs.Common.{◌≡◌, ◌∙◌, ℕ, suc, ◌<◌, List, [], ◌∷◌, ◌++◌, map, Bool, true, false, refl, ap, subst, arith, inl, inr, if◌then◌else◌}
use Rattle.std.specs.declared.cmp.Ordering.TheVariants.{Less}
use Rattle.std.specs.List.Sorted.{IsStrictlySortedBy}
use Rattle.std.specs.Ordering.{ordering_then, is_gt}
use Rattle.std.proofs.lemmas.Cmp.{tied_itself}
use Rattle.fleet_rows.proofs.of_plain_laws.Members.{Among, Among-append_cases, Among-from_map}
use Rattle.fleet_rows.proofs.of_plain_laws.StrictlySorted.{sorted-nil, sorted-cons, sorted-append, sorted-map}
use Rattle.fleet_rows.specs.text_spec.Compact.{text_cmp, insert_member, arranged, arranged_items, arranged_members}
use Rattle.fleet_rows.specs.text_spec.Json.{Json, null, boolean, number, string, array, object, Items, no_items, item, Members, no_members, member}
use Rattle.text_laws.specs.DistinctKeys.{HasDistinctKeysThroughout, HaveDistinctKeys, HoldDistinctKeys}
use Rattle.text_laws.proofs.CanonicalLaws.{arranged-sorted}
use Rattle.text_laws.proofs.MemberLaws.{Leads, AreSorted}
use Rattle.fact_paths.specs.Leaves.{Step, key, index, Leaf, step_cmp, path_cmp, under, leaves_within, item_leaves, member_leaves}
use Rattle.fact_paths.specs.Laws.{PathsRise}
use Rattle.fact_paths.proofs.PathLaws.{below, step_cmp_total}

abbrev paths : List Leaf → List (List Step)
paths ls = map (λ (l : Leaf). l.0) ls

-- ---- each object's members in order

abbrev mutual
  IsOrdered : Json → Type 0
  IsOrdered (array js) = AreOrdered js
  IsOrdered (object ms) = AreSorted ms × HoldOrdered ms
  IsOrdered _ = Unit {0}

  AreOrdered : Items → Type 0
  AreOrdered no_items = Unit {0}
  AreOrdered (item j js) = IsOrdered j × AreOrdered js

  HoldOrdered : Members → Type 0
  HoldOrdered no_members = Unit {0}
  HoldOrdered (member k j ms) = IsOrdered j × HoldOrdered ms

hold_step : (b : Bool) (k l : List ℕ) (j i : Json) (ms more : Members) → IsOrdered j → IsOrdered i × HoldOrdered ms → HoldOrdered more → HoldOrdered (if b then member l i more else member k j (member l i ms))
hold_step true k l j i ms more o h n = (h.0, n)
hold_step false k l j i ms more o h n = (o, h)

hold-insert : (k : List ℕ) (j : Json) (ms : Members) → IsOrdered j → HoldOrdered ms → HoldOrdered (insert_member k j ms)
hold-insert k j no_members o h = (o, tt)
hold-insert k j (member l i ms) o h = hold_step (is_gt (text_cmp k l)) k l j i ms (insert_member k j ms) o h (hold-insert k j ms o h.1)

mutual
  arranged_ordered : (j : Json) → HasDistinctKeysThroughout j → IsOrdered (arranged j)
  arranged_ordered null d = tt
  arranged_ordered (boolean b) d = tt
  arranged_ordered (number s) d = tt
  arranged_ordered (string s) d = tt
  arranged_ordered (array js) d = items_ordered js d
  arranged_ordered (object ms) d = (arranged-sorted ms d.0, members_ordered ms d.1)

  items_ordered : (js : Items) → HaveDistinctKeys js → AreOrdered (arranged_items js)
  items_ordered no_items d = tt
  items_ordered (item j js) d = (arranged_ordered j d.0, items_ordered js d.1)

  members_ordered : (ms : Members) → HoldDistinctKeys ms → HoldOrdered (arranged_members ms)
  members_ordered no_members d = tt
  members_ordered (member k j ms) d = hold-insert k (arranged j) (arranged_members ms) (arranged_ordered j d.0) (members_ordered ms d.1)

-- ---- paths under one step

paths_under : (s : Step) (ls more : List Leaf) → paths (map (under s) ls ++ more) ≡ map (λ (p : List Step). s ∷ p) (paths ls) ++ paths more
paths_under s [] more = refl
paths_under s (l ∷ ls) more = ap (λ ps. (s ∷ l.0) ∷ ps) (paths_under s ls more)

under_keeps : (s : Step) (p q : List Step) → path_cmp p q ≡ Less → path_cmp (s ∷ p) (s ∷ q) ≡ Less
under_keeps s p q h = ap (λ o. ordering_then o (path_cmp p q)) (tied_itself step_cmp_total s) ∙ h

-- paths that all begin with a later step
abbrev AreBehind : Step → List (List Step) → Type 0
AreBehind s ps = (p : List Step) → Among p ps → (t : Step) × (q : List Step) × (step_cmp s t ≡ Less) × (p ≡ t ∷ q)

one_more : (s : Step) (ls more : List Leaf) → IsStrictlySortedBy path_cmp (paths ls) → IsStrictlySortedBy path_cmp (paths more) → AreBehind s (paths more) → IsStrictlySortedBy path_cmp (paths (map (under s) ls ++ more))
one_more s ls more first rest behind =
    rw (paths_under s ls more)
    (sorted-append path_cmp (map (λ (p : List Step). s ∷ p) (paths ls)) (paths more)
    (sorted-map path_cmp path_cmp (λ (p : List Step). s ∷ p) (under_keeps s) (paths ls) first) rest across)
  where
    across : (x y : List Step) → Among x (map (λ (p : List Step). s ∷ p) (paths ls)) → Among y (paths more) → path_cmp x y ≡ Less
    across x y a b =
        let image = Among-from_map (λ (p : List Step). s ∷ p) (paths ls) x a in
        let later = behind y b in
        rw (image.2, later.3) (ap (λ o. ordering_then o (path_cmp image.0 later.1)) later.2)

items_behind : (m i : ℕ) (js : Items) → m < i → AreBehind (index m) (paths (item_leaves i js))
items_behind m i no_items h p a = absurd a
items_behind m i (item j js) h p a =
    elim (Among-append_cases (map (λ (q : List Step). index i ∷ q) (paths (leaves_within j))) (paths (item_leaves (suc i) js)) p (subst (λ ps. Among p ps) (paths_under (index i) (leaves_within j) (item_leaves (suc i) js)) a)) [
      | inl b ↦ (let image = Among-from_map (λ (q : List Step). index i ∷ q) (paths (leaves_within j)) p b in (index i, image.0, below m i h, image.2))
      | inr b ↦ items_behind m (suc i) js (omega arith) p b
    ]

members_behind : (k : List ℕ) (ms : Members) → Leads k ms → AreBehind (key k) (paths (member_leaves ms))
members_behind k no_members h p a = absurd a
members_behind k (member l j ms) h p a =
    elim (Among-append_cases (map (λ (q : List Step). key l ∷ q) (paths (leaves_within j))) (paths (member_leaves ms)) p (subst (λ ps. Among p ps) (paths_under (key l) (leaves_within j) (member_leaves ms)) a)) [
      | inl b ↦ (let image = Among-from_map (λ (q : List Step). key l ∷ q) (paths (leaves_within j)) p b in (key l, image.0, h.0, image.2))
      | inr b ↦ members_behind k ms h.1 p b
    ]

-- ---- all paths

one_path : (p : List Step) → IsStrictlySortedBy path_cmp (p ∷ [])
one_path p = sorted-cons path_cmp p [] (λ y a. absurd a) (sorted-nil path_cmp)

mutual
  within_rises : (j : Json) → IsOrdered j → IsStrictlySortedBy path_cmp (paths (leaves_within j))
  within_rises null o = one_path []
  within_rises (boolean b) o = one_path []
  within_rises (number s) o = one_path []
  within_rises (string s) o = one_path []
  within_rises (array no_items) o = one_path []
  within_rises (array (item j js)) o = items_rise 0 (item j js) o
  within_rises (object no_members) o = one_path []
  within_rises (object (member k j ms)) o = members_rise (member k j ms) o.0 o.1

  items_rise : (i : ℕ) (js : Items) → AreOrdered js → IsStrictlySortedBy path_cmp (paths (item_leaves i js))
  items_rise i no_items o = sorted-nil path_cmp
  items_rise i (item j js) o =
      one_more (index i) (leaves_within j) (item_leaves (suc i) js) (within_rises j o.0) (items_rise (suc i) js o.1) (items_behind i (suc i) js (omega arith))

  members_rise : (ms : Members) → AreSorted ms → HoldOrdered ms → IsStrictlySortedBy path_cmp (paths (member_leaves ms))
  members_rise no_members s o = sorted-nil path_cmp
  members_rise (member k j ms) s o =
      one_more (key k) (leaves_within j) (member_leaves ms) (within_rises j o.0) (members_rise ms s.1 o.1) (members_behind k ms s.0)

pub paths_rise : PathsRise
paths_rise j d = within_rises (arranged j) (arranged_ordered j d)
