-- The first report of the least rank, which leaves where there are more than the limit.
use Rattle.std.proofs.Common.{◌≡◌, ◌∙◌, ℕ, ℤ, zero, suc, ◌<◌, ◌≤◌, ◌+◌, ◌⊎◌, List, [], ◌∷◌, length, map, refl, sym, ap, subst, arith, inl, inr, Bool, true, false, if◌then◌else◌, Some, slice_get, get_or}
use Rattle.std.specs.Prelude.{nat_lt}
use Rattle.std.specs.List.{list_any, remove, AllByRecursion}
use Rattle.std.specs.Option.{option_map}
use Rattle.std.specs.List.Sorted.{IsStrictlySortedBy}
use Rattle.std.specs.Ordering.{int_cmp, ordering_then, ordering_reverse, is_gt}
use Rattle.std.specs.declared.cmp.Ordering.{Ordering}
use Rattle.std.specs.declared.cmp.Ordering.TheVariants.{Less, Equal, Greater}
use Rattle.std.proofs.lemmas.Cmp.{int_cmp_total, alike_right}
use Rattle.std.proofs.lemmas.List.{length-map}
use Rattle.std.proofs.lemmas.Option.{slice_get-map, slice_get_read}
use Rattle.checkpoint_spec.proofs.of_plain_laws.Booleans.{or_right}
use Rattle.checkpoint_spec.proofs.of_plain_laws.Orderings.{greater_is}
use Rattle.checkpoint_spec.specs.text_spec.Compact.{text_cmp}
use Rattle.checkpoint_spec.specs.fleet_rows.declared.applied.Applied.{Applied}
use Rattle.checkpoint_spec.specs.history_spec.Trace.{rank_of}
use Rattle.checkpoint_spec.specs.history_spec.Report.{is_below}
use Rattle.checkpoint_spec.proofs.of_history_laws.Limits.{below_on}
use Rattle.checkpoint_spec.proofs.of_history_laws.Members.{Among}
use Rattle.checkpoint_spec.proofs.of_history_laws.Ranks.{not_below_further}
use Rattle.checkpoint_spec.proofs.of_history_laws.StrictlySorted.{sorted-cons, sorted-below, sorted-rest}
use Rattle.checkpoint_spec.specs.table_spec.Sorted.{report_cmp, text_of_report}
use Rattle.checkpoint_spec.specs.table_machine.Steps.{without_least, limited}
use Rattle.kept_nodes.specs.declared.kept.Report.{Report}
use Rattle.kept_nodes.specs.Seen.{report_seen}
use Rattle.kept_nodes.proofs.FoundNodes.{at_place}
use Rattle.kept_nodes.proofs.PutNodes.{image_at}

-- ---- which leaves

any_below : (x y : Applied) (xs : List Applied) (k : ℕ) → slice_get xs k ≡ Some y → is_below y x ≡ true → list_any (λ z. is_below z x) xs ≡ true
any_below x y [] k e h = cc
any_below x y (z ∷ zs) zero e h =
    let same : z ≡ y = cc in
    let first : is_below z x ≡ true = ap (λ w. is_below w x) same ∙ h in rw first refl
any_below x y (z ∷ zs) (suc k) e h = or_right (is_below z x) (list_any (λ w. is_below w x) zs) (any_below x y zs k e h)

none_below : (x : Applied) (xs : List Applied) → ((k : ℕ) (y : Applied) → slice_get xs k ≡ Some y → is_below y x ≡ false) → list_any (λ z. is_below z x) xs ≡ false
none_below x [] h = refl
none_below x (z ∷ zs) h = rw (h 0 z refl) (none_below x zs (λ k y e. h (suc k) y e))

least_leaves : (xs : List Applied) (k : ℕ) (x : Applied) → slice_get xs k ≡ Some x → ((j : ℕ) (y : Applied) → j < k → slice_get xs j ≡ Some y → is_below x y ≡ true)
    → ((j : ℕ) (y : Applied) → k < j → slice_get xs j ≡ Some y → is_below y x ≡ false) → without_least xs ≡ remove xs k
least_leaves [] k x e before behind = cc
least_leaves (z ∷ zs) zero x e before behind =
    let same : z ≡ x = cc in
    let none : list_any (λ y. is_below y z) zs ≡ false = none_below z zs (λ j y at. ap (is_below y) same ∙ behind (suc j) y (omega arith) at) in
    rw none refl
least_leaves (z ∷ zs) (suc k) x e before behind =
    let some : list_any (λ y. is_below y z) zs ≡ true = any_below z x zs k e (before 0 z (omega arith) refl) in
    rw some (ap (λ l. z ∷ l) (least_leaves zs k x e (λ j y h at. before (suc j) y (omega (arith, h)) at) (λ j y h at. behind (suc j) y (omega (arith, h)) at)))

-- ---- the search so far

below_if : (b : Bool) (x y z : Applied) → is_below x z ≡ b → is_below x y ≡ true → is_below z y ≡ false → is_below x z ≡ true
below_if true x y z e h k = e
below_if false x y z e h k = let no : is_below x y ≡ false = not_below_further (rank_of x) (rank_of z) (rank_of y) e k in cc

-- what isn't below what x is below, x is below
below_also : (x y z : Applied) → is_below x y ≡ true → is_below z y ≡ false → is_below x z ≡ true
below_also x y z h k = below_if (is_below x z) x y z refl h k

-- of the first so many reports the one at this place is the first of the least rank
pub record IsLeast (reports : List Report) (up_to least : ℕ) (x : Report) : Type 0 where
  pub there : slice_get reports least ≡ Some x
  pub before : (j : ℕ) (y : Report) → j < least → slice_get reports j ≡ Some y → is_below (report_seen x) (report_seen y) ≡ true
  pub behind : (j : ℕ) (y : Report) → least < j → j < up_to → slice_get reports j ≡ Some y → is_below (report_seen y) (report_seen x) ≡ false

same_at : {X : Type 0} (xs : List X) (j k : ℕ) (x y : X) → j ≡ k → slice_get xs j ≡ Some x → slice_get xs k ≡ Some y → x ≡ y
same_at xs j k x y e h g = let there : Some x ≡ Some y = sym h ∙ ap (slice_get xs) e ∙ g in cc

or_at : (j k : ℕ) → j < k + 1 → (j < k) ⊎ (j ≡ k)
or_at j zero h = inr (omega (arith, h))
or_at zero (suc k) h = inl (omega arith)
or_at (suc j) (suc k) h = elim (or_at j k (omega (arith, h))) [ inl l ↦ inl (omega (arith, l)) | inr e ↦ inr (ap suc e) ]

-- the next isn't below it
pub least_stays : (reports : List Report) (at least : ℕ) (x next : Report) → IsLeast reports at least x → slice_get reports at ≡ Some next → is_below (report_seen next) (report_seen x) ≡ false → IsLeast reports (at + 1) least x
least_stays reports at least x next l e h = record {
  there = l.there;
  before = l.before;
  behind = λ j y low high there. elim (or_at j at high) [
    | inl lower ↦ l.behind j y low lower there
    | inr here ↦ ap (λ (r : Report). is_below (report_seen r) (report_seen x)) (same_at reports j at y next here there e) ∙ h
  ];
}

-- the first alone
first_there : {X : Type 0} (xs : List X) → 0 < length xs → (x : X) × (slice_get xs 0 ≡ Some x)
first_there [] h = absurd (omega (arith, h))
first_there (x ∷ xs) h = (x, refl)

pub first_is_least : (reports : List Report) → 0 < length reports → (x : Report) × IsLeast reports 1 0 x
first_is_least reports h =
    let first = first_there reports h in (
      first.0,
      record { there = first.1; before = λ j y low there. absurd (omega (arith, low)); behind = λ j y low high there. absurd (omega (arith, low, high)) },
    )

-- what is read there is that report
pub least_is : (reports : List Report) (up_to least : ℕ) (x read : Report) → IsLeast reports up_to least x → least < length reports → read ≡ get_or reports least read → x ≡ read
least_is reports up_to least x read l h e = same_at reports least least x read refl l.there (slice_get_read reports (length reports) least read refl h e)

order_of : (j k : ℕ) → (j < k) ⊎ (k ≤ j)
order_of j zero = inr (omega arith)
order_of zero (suc k) = inl (omega arith)
order_of (suc j) (suc k) = elim (order_of j k) [ inl l ↦ inl (omega (arith, l)) | inr g ↦ inr (omega (arith, g)) ]

-- the next is
pub least_moves : (reports : List Report) (at least : ℕ) (x next : Report) → IsLeast reports at least x → slice_get reports at ≡ Some next → is_below (report_seen next) (report_seen x) ≡ true → IsLeast reports (at + 1) at next
least_moves reports at least x next l e h =
    let above : (j : ℕ) (y : Report) → least ≤ j → j < at → slice_get reports j ≡ Some y → is_below (report_seen next) (report_seen y) ≡ true =
    λ j y low high there. elim (or_at least j (omega (arith, low))) [
      | inl lower ↦ below_also (report_seen next) (report_seen x) (report_seen y) h (l.behind j y lower high there)
      | inr here ↦ ap (λ (r : Report). is_below (report_seen next) (report_seen r)) (same_at reports j least y x (sym here) there l.there) ∙ h
    ] in
    record {
      there = e;
      before = λ j y low there. elim (order_of j least) [
        | inl lower ↦ below_on (report_seen next) (report_seen x) (report_seen y) h (l.before j y lower there)
        | inr higher ↦ above j y higher low there
      ];
      behind = λ j y low high there. absurd (omega (arith, low, high));
    }

-- ---- none behind a later stamp is below it

sorted-at : (xs : List Applied) (i j : ℕ) (x y : Applied) → IsStrictlySortedBy report_cmp xs → slice_get xs i ≡ Some x → slice_get xs j ≡ Some y → i < j → report_cmp x y ≡ Less
sorted-at [] i j x y s e f h = cc
sorted-at (z ∷ zs) zero zero x y s e f h = absurd (omega (arith, h))
sorted-at (z ∷ zs) zero (suc j) x y s e f h =
    let same : z ≡ x = cc in
    ap (λ w. report_cmp w y) (sym same) ∙ sorted-below report_cmp z zs s y (at_place zs j y f)
sorted-at (z ∷ zs) (suc i) zero x y s e f h = absurd (omega (arith, h))
sorted-at (z ∷ zs) (suc i) (suc j) x y s e f h = sorted-at zs i j x y (sorted-rest report_cmp z zs s) e f (omega (arith, h))

stamp_behind : (o p : Ordering) (x a y : ℤ) → int_cmp a y ≡ o → ordering_then o p ≡ Less → int_cmp x a ≡ Less → int_cmp x y ≡ Less
stamp_behind Less p x a y e h k = int_cmp_total.trans x a y k e
stamp_behind Equal p x a y e h k = sym (alike_right int_cmp_total a y x e) ∙ k
stamp_behind Greater p x a y e h k = cc

not_below_later : (x y : Report) → int_cmp x.change.stamp y.change.stamp ≡ Less → is_below (report_seen y) (report_seen x) ≡ false
not_below_later x y h =
    let turned : int_cmp y.change.stamp x.change.stamp ≡ Greater = int_cmp_total.antisymm y.change.stamp x.change.stamp ∙ ap ordering_reverse h in
    rw turned refl

pub later_are_above : (reports : List Report) (at least : ℕ) (x next : Report) → IsStrictlySortedBy report_cmp (map report_seen reports) → IsLeast reports at least x → slice_get reports at ≡ Some next
    → is_gt (int_cmp next.change.stamp x.change.stamp) ≡ true → (up_to : ℕ) → IsLeast reports up_to least x
later_are_above reports at least x next s l e later up_to =
    let greater : int_cmp next.change.stamp x.change.stamp ≡ Greater = greater_is (int_cmp next.change.stamp x.change.stamp) later in
    let less : int_cmp x.change.stamp next.change.stamp ≡ Less = int_cmp_total.antisymm x.change.stamp next.change.stamp ∙ ap ordering_reverse greater in
    let seen : (k : ℕ) (r : Report) → slice_get reports k ≡ Some r → slice_get (map report_seen reports) k ≡ Some (report_seen r) =
    λ k r there. slice_get-map report_seen reports k ∙ ap (option_map report_seen) there in
    let behind_next : (j : ℕ) (y : Report) → at < j → slice_get reports j ≡ Some y → is_below (report_seen y) (report_seen x) ≡ false =
    λ j y low there.
    not_below_later x y (stamp_behind (int_cmp next.change.stamp y.change.stamp) (text_cmp (text_of_report (report_seen next).change) (text_of_report (report_seen y).change)) x.change.stamp next.change.stamp y.change.stamp refl
    (sorted-at (map report_seen reports) at j (report_seen next) (report_seen y) s (seen at next e) (seen j y there) low) less) in
    record {
      there = l.there;
      before = l.before;
      behind = λ j y low high there. elim (order_of j at) [
        | inl lower ↦ l.behind j y low lower there
        | inr higher ↦ elim (or_at at j (omega (arith, higher))) [
          | inl behind ↦ behind_next j y behind there
          | inr here ↦ ap (λ (r : Report). is_below (report_seen r) (report_seen x)) (same_at reports j at y next (sym here) there e) ∙ not_below_later x next less
        ]
      ];
    }

-- ---- what is found

within : {X : Type 0} (xs : List X) (k : ℕ) (x : X) → slice_get xs k ≡ Some x → k < length xs
within [] k x e = cc
within (y ∷ ys) zero x e = omega arith
within (y ∷ ys) (suc k) x e = omega (arith, within ys k x e)

pub least_found : (reports : List Report) (least : ℕ) (x : Report) → IsLeast reports (length reports) least x → without_least (map report_seen reports) ≡ remove (map report_seen reports) least
least_found reports least x l =
    least_leaves (map report_seen reports) least (report_seen x) (slice_get-map report_seen reports least ∙ ap (option_map report_seen) l.there)
    (λ j y low there. let r = image_at report_seen reports j y there in ap (is_below (report_seen x)) (sym r.2) ∙ l.before j r.0 low r.1)
    (λ j y low there.
    let r = image_at report_seen reports j y there in
    ap (λ w. is_below w (report_seen x)) (sym r.2) ∙ l.behind j r.0 low (within reports j r.0 r.1) r.1)

-- ---- without it

map-remove : {X Y : Type 0} (f : X → Y) (xs : List X) (k : ℕ) → map f (remove xs k) ≡ remove (map f xs) k
map-remove f [] zero = refl
map-remove f [] (suc k) = refl
map-remove f (x ∷ xs) zero = refl
map-remove f (x ∷ xs) (suc k) = ap (λ ys. f x ∷ ys) (map-remove f xs k)

among-remove : {X : Type 0} (xs : List X) (k : ℕ) (x : X) → Among x (remove xs k) → Among x xs
among-remove [] zero x a = a
among-remove [] (suc k) x a = a
among-remove (y ∷ ys) zero x a = inr a
among-remove (y ∷ ys) (suc k) x (inl e) = inl e
among-remove (y ∷ ys) (suc k) x (inr a) = inr (among-remove ys k x a)

sorted-remove : (xs : List Applied) (k : ℕ) → IsStrictlySortedBy report_cmp xs → IsStrictlySortedBy report_cmp (remove xs k)
sorted-remove [] zero s = s
sorted-remove [] (suc k) s = s
sorted-remove (x ∷ xs) zero s = sorted-rest report_cmp x xs s
sorted-remove (x ∷ xs) (suc k) s =
    sorted-cons report_cmp x (remove xs k) (λ y a. sorted-below report_cmp x xs s y (among-remove xs k y a)) (sorted-remove xs k (sorted-rest report_cmp x xs s))

pub each-remove : {X : Type 0} (P : X → Type 0) (xs : List X) (k : ℕ) → AllByRecursion P xs → AllByRecursion P (remove xs k)
each-remove P [] zero h = h
each-remove P [] (suc k) h = h
each-remove P (x ∷ xs) zero h = h.1
each-remove P (x ∷ xs) (suc k) h = (h.0, each-remove P xs k h.1)

is_above : (a b : ℕ) → a < b → nat_lt a b ≡ true
is_above a b h = grind arith

pub removed_seen : (reports slice new : List Report) (least limit : ℕ) → slice ≡ reports → new ≡ remove reports least → without_least (map report_seen slice) ≡ remove (map report_seen slice) least → limit < length reports
    → map report_seen new ≡ limited (Some limit) (map report_seen reports)
removed_seen reports slice new least limit same e found more =
    let here : without_least (map report_seen reports) ≡ remove (map report_seen reports) least = subst (λ rs. without_least (map report_seen rs) ≡ remove (map report_seen rs) least) same found in
    let number : nat_lt limit (length (map report_seen reports)) ≡ true = ap (nat_lt limit) (length-map reports report_seen) ∙ is_above limit (length reports) more in
    ap (map report_seen) e ∙ map-remove report_seen reports least ∙ sym here
    ∙ ap (λ b. if b then without_least (map report_seen reports) else map report_seen reports) (sym number)

pub removed_in_order : (reports new : List Report) (least : ℕ) → new ≡ remove reports least → IsStrictlySortedBy report_cmp (map report_seen reports) → IsStrictlySortedBy report_cmp (map report_seen new)
removed_in_order reports new least e s =
    subst (IsStrictlySortedBy report_cmp) (sym (ap (map report_seen) e ∙ map-remove report_seen reports least)) (sorted-remove (map report_seen reports) least s)
