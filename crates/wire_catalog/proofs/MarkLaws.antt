-- What is told apart by marks: marks that rise differ, marks that differ do so in any order, and what has them differs.
use Rattle.std.proofs.Common.{◌≡◌, ℕ, ◌+◌, ◌*◌, ◌<◌, ◌≤◌, ◌-◌, List, [], ◌∷◌, length, map, take, drop, get_or, Bool, true, false, refl, arith}
use Rattle.std.specs.Prelude.{nat_eq, nat_lt}
use Rattle.std.specs.List.{IsDistinct, AllByRecursion}
use Rattle.std.specs.List.Sorted.{IsPermutation}
use Rattle.std.specs.Str.{bytes_eq}
use Rattle.std.proofs.lemmas.List.{take_all}
use Rattle.std.proofs.lemmas.List.Sorted.{IsPermutation-sym}
use Rattle.std.proofs.lemmas.Map.Keys.{IsDistinct-IsPermutation}
use Rattle.std.proofs.lemmas.Slice.Eq.{bytes_eq-Decides}
use Rattle.wire_fields.proofs.of_wire_spec.of_plain_laws.Booleans.{both_true}
use Rattle.wire_fields.specs.fleet_rows.declared.catalog.Edge.{Edge}
use Rattle.wire_fields.specs.fleet_rows.declared.catalog.Resource.{Resource}
use Rattle.wire_fields.specs.wire_spec.Table.{is_edge, has_name_of, relationship_name}
use Rattle.wire_catalog.specs.Marks.{next_mark, mark_each, mark_on, resource_mark, edge_mark, rise, rise_from}

-- ---- a front of fewer than four bytes

pub mark_short : (m : ℕ) (bs : List ℕ) → length bs < 4 → mark_on m bs ≡ mark_each m bs
mark_short m [] h = refl
mark_short m (a ∷ []) h = refl
mark_short m (a ∷ b ∷ []) h = refl
mark_short m (a ∷ b ∷ c ∷ []) h = refl
mark_short m (a ∷ b ∷ c ∷ d ∷ bs) h = absurd (omega (arith, h))

-- one step more, as a loop takes it
pub four_more : (m w d : ℕ) (bs : List ℕ) → 4 ≤ length bs → w ≡ get_or bs 0 d + get_or bs 1 d * 256 + get_or bs 2 d * 65536 + get_or bs 3 d * 16777216
    → mark_on (next_mark m w) (take (length bs - 4) (drop 4 bs)) ≡ mark_on m bs
four_more m w d [] h e = absurd (omega (arith, h))
four_more m w d (a ∷ []) h e = absurd (omega (arith, h))
four_more m w d (a ∷ b ∷ []) h e = absurd (omega (arith, h))
four_more m w d (a ∷ b ∷ c ∷ []) h e = absurd (omega (arith, h))
four_more m w d (a ∷ b ∷ c ∷ x ∷ bs) h e =
    let rest : take (length (a ∷ b ∷ c ∷ x ∷ bs) - 4) bs ≡ bs = take_all (length (a ∷ b ∷ c ∷ x ∷ bs) - 4) bs (omega arith) in
    λ i. mark_on (next_mark m (e i)) (rest i)

-- ---- marks

same_flips : (x y : ℕ) → nat_eq x y ≡ nat_eq y x
same_flips x y = grind arith

apart_below : (x y : ℕ) → x < y → nat_eq x y ≡ false
apart_below x y h = grind (arith, h)

below : (x y : ℕ) → nat_lt x y ≡ true → x < y
below x y h = grind (arith, h)

above_all : (s m : ℕ) (ns : List ℕ) → s ≤ m → rise_from m ns ≡ true → AllByRecursion (λ n. nat_eq s n ≡ false) ns
above_all s m [] le up = tt
above_all s m (n ∷ ns) le up =
    let two = both_true (nat_lt m n) (rise_from n ns) up in
    let next = below m n two.0 in
    (apart_below s n (omega (arith, le, next)), above_all s n ns (omega (arith, le, next)) two.1)

risen : (m : ℕ) (ns : List ℕ) → rise_from m ns ≡ true → IsDistinct nat_eq (m ∷ ns)
unfolding IsDistinct
risen m [] up = (tt, tt)
risen m (n ∷ ns) up = (above_all m m (n ∷ ns) (omega arith) up, risen n ns (both_true (nat_lt m n) (rise_from n ns) up).1)

rise-distinct : (ms : List ℕ) → rise ms ≡ true → IsDistinct nat_eq ms
unfolding IsDistinct
rise-distinct [] up = tt
rise-distinct (m ∷ ns) up = risen m ns up

pub rise_apart : (ms ns : List ℕ) → IsPermutation ms ns → rise ns ≡ true → IsDistinct nat_eq ms
rise_apart ms ns p up = IsDistinct-IsPermutation nat_eq same_flips ns ms (IsPermutation-sym ms ns p) (rise-distinct ns up)

-- ---- what has the marks

module _ {A : Type 0} (meets : A → A → Bool) (mark : A → ℕ) (one : (x y : A) → meets x y ≡ true → mark x ≡ mark y) where
  differs : (b : Bool) (x y : A) → meets x y ≡ b → nat_eq (mark x) (mark y) ≡ false → b ≡ false
  differs true x y e h = absurd (let same = one x y e in grind (arith, h, same))
  differs false x y e h = refl

  misses : (x : A) (ys : List A) → AllByRecursion (λ n. nat_eq (mark x) n ≡ false) (map mark ys) → AllByRecursion (λ y. meets x y ≡ false) ys
  misses x [] h = tt
  misses x (y ∷ ys) h = (differs (meets x y) x y refl h.0, misses x ys h.1)

  pub told_apart : (xs : List A) → IsDistinct nat_eq (map mark xs) → IsDistinct meets xs
  unfolding IsDistinct
  told_apart [] h = tt
  told_apart (x ∷ xs) h = (misses x xs h.0, told_apart xs h.1)

one_name : (r q : Resource) → has_name_of r q ≡ true → resource_mark r ≡ resource_mark q
one_name r q e =
    let two = both_true (bytes_eq r.rtype q.rtype) (bytes_eq r.title q.title) e in
    λ i. mark_on (mark_on 0 ((bytes_eq-Decides r.rtype q.rtype).0 two.0 i)) ((bytes_eq-Decides r.title q.title).0 two.1 i)

one_edge : (e f : Edge) → is_edge e f ≡ true → edge_mark e ≡ edge_mark f
one_edge e f h =
    let last = both_true _ _ h in
    let title = both_true _ _ last.0 in
    let rtype = both_true _ _ title.0 in
    let source = both_true _ _ rtype.0 in
    let a = (bytes_eq-Decides e.source.rtype f.source.rtype).0 source.0 in
    let b = (bytes_eq-Decides e.source.title f.source.title).0 source.1 in
    let c = (bytes_eq-Decides e.target.rtype f.target.rtype).0 rtype.1 in
    let d = (bytes_eq-Decides e.target.title f.target.title).0 title.1 in
    let r = (bytes_eq-Decides (relationship_name e.relationship) (relationship_name f.relationship)).0 last.1 in
    λ i. mark_on (mark_on (mark_on (mark_on (mark_on 0 (a i)) (b i)) (c i)) (d i)) (r i)

pub resources_apart : (rs : List Resource) → IsDistinct nat_eq (map resource_mark rs) → IsDistinct has_name_of rs
resources_apart = told_apart has_name_of resource_mark one_name

pub edges_apart : (es : List Edge) → IsDistinct nat_eq (map edge_mark es) → IsDistinct is_edge es
edges_apart = told_apart is_edge edge_mark one_edge
