-- Of each kind the fault that is told is the first of all.
use Rattle.std.proofs.Common.{◌≡◌, ◌≢◌, ◌∙◌, ◌⊎◌, inl, inr, ℕ, ◌+◌, List, [], ◌∷◌, ◌++◌, length, Bool, true, false, Option, Some, None, arith, refl, sym, subst, map}
use Rattle.std.specs.Prelude.{not, ◌==◌}
use Rattle.std.proofs.lemmas.Bool.Decides.{nat_tests}
use Rattle.query_spec.specs.fleet_rows.declared.row.Entity.{Entity}
use Rattle.query_spec.specs.declared.parts.Field.{Field}
use Rattle.query_spec.specs.declared.parts.Literal.{Literal}
use Rattle.query_spec.specs.declared.parts.Name.{Name}
use Rattle.query_spec.specs.declared.parts.Op.{Op}
use Rattle.query_spec.specs.declared.parts.Order.{Order}
use Rattle.query_spec.specs.declared.parts.Paging.{Paging}
use Rattle.query_spec.specs.declared.parts.Pattern.{Pattern}
use Rattle.query_spec.specs.declared.parts.Scalar.{Scalar}
use Rattle.query_spec.specs.declared.parts.Selected.{Selected}
use Rattle.query_spec.specs.declared.parts.Selected.TheVariants as selected
use Rattle.query_spec.specs.declared.sought.Sought.{Sought}
use Rattle.query_spec.specs.declared.sought.Sought.TheVariants as seek
use Rattle.query_spec.specs.Answer.{entity_name}
use Rattle.query_spec.specs.Ast.{extracted}
use Rattle.query_spec.specs.Check.{Place, first, entity_named, makes_groups, is_bad_literal, unknown_names, shown_list, level_width, entity_fault, compared_fault, operand_fault, operands_fault, sides_fault, array_fault, shown_fault, paged_fault, filter_fault, filters_fault, clause_fault, level_fault}
use Rattle.query_spec.specs.Parts.{name, field_named, unpaged}
use Rattle.query_spec.specs.Query.{Filter, compare, matches, is_null, in_list, in_level, subquery, filters_of, Clause, no_clause, clause, Level, level}
use Rattle.query_laws.specs.Faults.{IsAtOrBefore, IsFirst, SomeOf, InFilter, InFilters, InClause, NoEntity, NoColumn, ShowsNoColumn, NoOrder, SomeLiteral, Ungrouped, TestFault, OwnFault, HasFault}
use Rattle.query_laws.specs.Grammar.{Columns, columns_meaning, FieldForm, field_meaning, literal, literals_from, SelectionForm, selection_meaning, GroupForm, ungrouped, grouped, group_meaning, PartForm, paging_from, FilterForm, conjunction, disjunction, negated, comparison, pattern_test, null_test, in_array, in_select, in_query, subquery_of, FilterForms, last, next, WhereForm, anywhere, such_that, extracting, where_count, filter_meaning, filters_from, where_meaning, extract_meaning, QueryForm, from_all, from_filter, from_extract, query_meaning, RouteForm, route_filter, route_extract, route_meaning}
use Rattle.query_laws.specs.Laws.{FirstFaultsAreTold, FirstFaultsOfRoutesAreTold}
use Rattle.query_laws.proofs.FirstPlaces.{IsIn, IsFrom, Sits, under, apart, here_in, below_in, element_from, none_sits, mapped, widened, fault_sits, true_sits, joined, then_from}
use Rattle.query_laws.proofs.FirstParts.{entity_sits, at_place, within, listed_in, names_sit, selection_sits, grouped_sits, outputs_of, outputs_are, NoOrderBy, orders_fault, parts_sit, no_field_sits, OperandFault, operand_sits, field_in, left_sits, array_sits}
use Rattle.query_laws.proofs.ToldFilters.{query_told, route_told}

-- ---- a test

-- no two kinds of fault have both: what is absurd of a kind
abbrev HeadFault : Sought → Name → Place → Type 0
HeadFault seek.Entity n q = NoEntity q n
HeadFault _ n q = ⊥

abbrev ShownFault : Sought → Option Entity → List Selected → List Name → Place → Type 0
ShownFault seek.Entity e ss g q = ⊥
ShownFault seek.Field e ss g q = SomeOf (ShowsNoColumn e q) ss
ShownFault seek.Operand e ss g q = (makes_groups ss g ≡ true) × SomeOf (Ungrouped g q) ss

abbrev PagedFault : Sought → Option Entity → List Selected → List Name → List Order → Place → Type 0
PagedFault seek.Field e ss g os q = SomeOf (NoColumn e q) g ⊎ SomeOf (NoOrder e ss g q) os
PagedFault _ e ss g os q = ⊥

abbrev SideFault : Sought → List Field → Place → ℕ → Place → Type 0
SideFault seek.Operand fs p n q = (length fs ≢ n) × (q ≡ p)
SideFault _ fs p n q = ⊥

abbrev ArrayFault : Sought → Option Entity → List Field → List Literal → Place → Type 0
ArrayFault seek.Operand e fs ls q = SomeLiteral e q fs ls
ArrayFault _ e fs ls q = ⊥

head_sits : (k : Sought) (n : Name) → Sits (λ q. q ≡ n.place) (entity_fault k n) (HeadFault k n)
head_sits seek.Entity n = entity_sits n
head_sits seek.Field n = none_sits (λ q. q ≡ n.place)
head_sits seek.Operand n = none_sits (λ q. q ≡ n.place)

differ : (a b : ℕ) (t : Bool) → (a == b) ≡ t → not t ≡ true → a ≢ b
differ a b true e h = absurd (let clash : false ≡ true = h in cc)
differ a b false e h = λ same. absurd (let own : (a == b) ≡ true = grind (arith, same) in let clash : true ≡ false = sym own ∙ e in cc)

agree : (a b : ℕ) (t : Bool) → (a == b) ≡ t → a ≢ b → not t ≡ true
agree a b true e h = absurd (h (grind (arith, nat_tests, e)))
agree a b false e h = refl

side_sits : (k : Sought) (fs : List Field) (p : Place) (n : ℕ) → Sits (λ q. q ≡ p) (sides_fault k fs p n) (SideFault k fs p n)
side_sits seek.Operand fs p n =
    fault_sits (not (length fs == n)) p (length fs ≢ n) (differ (length fs) n (length fs == n) refl) (agree (length fs) n (length fs == n) refl)
side_sits seek.Entity fs p n = none_sits (λ q. q ≡ p)
side_sits seek.Field fs p n = none_sits (λ q. q ≡ p)

array_side : (k : Sought) (e : Option Entity) (fs : List Field) (p : Place) (ls : List Scalar) → Sits (IsIn p) (array_fault k e fs (literals_from p 0 ls)) (ArrayFault k e fs (literals_from p 0 ls))
array_side seek.Operand e fs p ls = array_sits e fs p ls
array_side seek.Entity e fs p ls = none_sits (IsIn p)
array_side seek.Field e fs p ls = none_sits (IsIn p)

compared_sits : (k : Sought) (e : Option Entity) (o : Op) (p : Place) (f : FieldForm) (l : Scalar) → Sits (IsIn p) (compared_fault k e o (field_meaning (p ++ 1 ∷ []) f) (literal (p ++ 2 ∷ []) l)) (λ q. TestFault k q e (compare o (field_meaning (p ++ 1 ∷ []) f) (literal (p ++ 2 ∷ []) l)))
compared_sits seek.Entity e o p f l = none_sits (IsIn p)
compared_sits seek.Field e o p f l =
    widened _ (IsIn p) (no_field_sits e (field_meaning (p ++ 1 ∷ []) f)) (λ q h. below_in p (1 ∷ []) q (field_in (p ++ 1 ∷ []) f q h))
compared_sits seek.Operand e o p f l =
    within p (2 ∷ []) (at_place (p ++ 2 ∷ []) (true_sits (is_bad_literal e o (field_meaning (p ++ 1 ∷ []) f) l) (p ++ 2 ∷ [])))

matches_to : (k : Sought) (e : Option Entity) (f : Field) (t : Pattern) (q : Place) → OperandFault k e q f → TestFault k q e (matches f t)
matches_to seek.Entity e f t q h = h
matches_to seek.Field e f t q h = h
matches_to seek.Operand e f t q h = h

matches_from : (k : Sought) (e : Option Entity) (f : Field) (t : Pattern) (q : Place) → TestFault k q e (matches f t) → OperandFault k e q f
matches_from seek.Entity e f t q h = h
matches_from seek.Field e f t q h = h
matches_from seek.Operand e f t q h = h

null_to : (k : Sought) (e : Option Entity) (f : Field) (b : Bool) (q : Place) → OperandFault k e q f → TestFault k q e (is_null f b)
null_to seek.Entity e f b q h = h
null_to seek.Field e f b q h = h
null_to seek.Operand e f b q h = h

null_from : (k : Sought) (e : Option Entity) (f : Field) (b : Bool) (q : Place) → TestFault k q e (is_null f b) → OperandFault k e q f
null_from seek.Entity e f b q h = h
null_from seek.Field e f b q h = h
null_from seek.Operand e f b q h = h

field_sits : (k : Sought) (e : Option Entity) (p : Place) (f : FieldForm) → Sits (IsIn p) (operand_fault k e (field_meaning (p ++ 1 ∷ []) f)) (λ q. OperandFault k e q (field_meaning (p ++ 1 ∷ []) f))
field_sits k e p f =
    widened _ (IsIn p) (operand_sits k e (field_meaning (p ++ 1 ∷ []) f)) (λ q h. below_in p (1 ∷ []) q (field_in (p ++ 1 ∷ []) f q h))

none_of : (e : Option Entity) (q : Place) (fs : List Field) → SomeOf (OperandFault seek.Entity e q) fs → ⊥
none_of e q [] h = h
none_of e q (f ∷ fs) (inl h) = h
none_of e q (f ∷ fs) (inr h) = none_of e q fs h

-- ---- `in`

list_to : (k : Sought) (e : Option Entity) (fs : List Field) (p : Place) (ls : List Literal) (q : Place) → SomeOf (OperandFault k e q) fs ⊎ (SideFault k fs p 1 q ⊎ ArrayFault k e fs ls q) → TestFault k q e (in_list fs p ls)
list_to seek.Entity e fs p ls q (inl h) = absurd (none_of e q fs h)
list_to seek.Entity e fs p ls q (inr (inl h)) = h
list_to seek.Entity e fs p ls q (inr (inr h)) = h
list_to seek.Field e fs p ls q (inl h) = h
list_to seek.Field e fs p ls q (inr (inl h)) = absurd h
list_to seek.Field e fs p ls q (inr (inr h)) = absurd h
list_to seek.Operand e fs p ls q h = h

list_from : (k : Sought) (e : Option Entity) (fs : List Field) (p : Place) (ls : List Literal) (q : Place) → TestFault k q e (in_list fs p ls) → SomeOf (OperandFault k e q) fs ⊎ (SideFault k fs p 1 q ⊎ ArrayFault k e fs ls q)
list_from seek.Entity e fs p ls q h = absurd h
list_from seek.Field e fs p ls q h = inl h
list_from seek.Operand e fs p ls q h = h

abbrev Has : Sought → Option Entity → Filter → Place → Type 0
Has k e f q = InFilter (TestFault k q) (OwnFault k q) e f

abbrev ClauseHas : Sought → Option Entity → Clause → Place → Type 0
ClauseHas k e c q = InClause (TestFault k q) (OwnFault k q) e c

level_to : (k : Sought) (e : Option Entity) (fs : List Field) (p : Place) (l : Level) (q : Place) → SomeOf (OperandFault k e q) fs ⊎ (SideFault k fs p (level_width l) q ⊎ HasFault k l q) → Has k e (in_level fs p l) q
level_to seek.Entity e fs p l q (inl h) = absurd (none_of e q fs h)
level_to seek.Entity e fs p l q (inr (inl h)) = absurd h
level_to seek.Entity e fs p l q (inr (inr h)) = inr h
level_to seek.Field e fs p l q (inl h) = inl h
level_to seek.Field e fs p l q (inr (inl h)) = absurd h
level_to seek.Field e fs p l q (inr (inr h)) = inr h
level_to seek.Operand e fs p l q (inl h) = inl (inl h)
level_to seek.Operand e fs p l q (inr (inl h)) = inl (inr h)
level_to seek.Operand e fs p l q (inr (inr h)) = inr h

level_from : (k : Sought) (e : Option Entity) (fs : List Field) (p : Place) (l : Level) (q : Place) → Has k e (in_level fs p l) q → SomeOf (OperandFault k e q) fs ⊎ (SideFault k fs p (level_width l) q ⊎ HasFault k l q)
level_from seek.Entity e fs p l q (inl h) = absurd h
level_from seek.Field e fs p l q (inl h) = inl h
level_from seek.Operand e fs p l q (inl (inl h)) = inl h
level_from seek.Operand e fs p l q (inl (inr h)) = inr (inl h)
level_from k e fs p l q (inr h) = inr (inr h)

-- the left side, then the right side and what stands in it
two_sides : (p : Place) (a b c : Option Place) {F G H : Place → Type 0} → Sits (IsIn (p ++ 1 ∷ [])) a F → Sits (λ q. q ≡ p ++ 2 ∷ []) b G → Sits (IsIn (p ++ 2 ∷ [])) c H → Sits (IsIn p) (first a (first b c)) (λ q. F q ⊎ (G q ⊎ H q))
two_sides p a b c ha hb hc =
    listed_in p 1
    (then_from p 1 2 a (first b c) (omega arith) ha
    (widened (IsIn (p ++ 2 ∷ [])) (IsFrom p 2)
    (joined (IsIn (p ++ 2 ∷ [])) b c (at_place (p ++ 2 ∷ []) hb) hc
    (λ x y g h. subst (λ z. IsAtOrBefore z y) (sym (hb.stands x g)) (under (p ++ 2 ∷ []) y (hc.stands y h))))
    (element_from p 2)))

-- ---- selections

own_to : (k : Sought) (n : Name) (s : Option (List Selected)) (c : Clause) (g : List Name) (o : Paging) (q : Place)
    → HeadFault k n q ⊎ (ShownFault k (entity_named n.text) (shown_list s) g q ⊎ (ClauseHas k (entity_named n.text) c q ⊎ PagedFault k (entity_named n.text) (shown_list s) g o.order q))
    → HasFault k (level n s c g o) q
own_to seek.Entity n s c g o q (inl h) = inl h
own_to seek.Field n s c g o q (inl h) = absurd h
own_to seek.Operand n s c g o q (inl h) = absurd h
own_to seek.Entity n s c g o q (inr (inl h)) = absurd h
own_to seek.Field n s c g o q (inr (inl h)) = inl (inl h)
own_to seek.Operand n s c g o q (inr (inl h)) = inl h
own_to k n s c g o q (inr (inr (inl h))) = inr h
own_to seek.Entity n s c g o q (inr (inr (inr h))) = absurd h
own_to seek.Field n s c g o q (inr (inr (inr h))) = inl (inr h)
own_to seek.Operand n s c g o q (inr (inr (inr h))) = absurd h

own_from : (k : Sought) (n : Name) (s : Option (List Selected)) (c : Clause) (g : List Name) (o : Paging) (q : Place)
    → HasFault k (level n s c g o) q
    → HeadFault k n q ⊎ (ShownFault k (entity_named n.text) (shown_list s) g q ⊎ (ClauseHas k (entity_named n.text) c q ⊎ PagedFault k (entity_named n.text) (shown_list s) g o.order q))
own_from seek.Entity n s c g o q (inl h) = inl h
own_from seek.Field n s c g o q (inl (inl h)) = inr (inl h)
own_from seek.Field n s c g o q (inl (inr h)) = inr (inr (inr h))
own_from seek.Operand n s c g o q (inl h) = inr (inl h)
own_from k n s c g o q (inr h) = inr (inr (inl h))

head_or_shown : {A : Type 0} (k : Sought) (n : Name) (e : Option Entity) (ss : List Selected) (g : List Name) (x y : Place) → HeadFault k n x → ShownFault k e ss g y → A
head_or_shown seek.Entity n e ss g x y h s = absurd s
head_or_shown seek.Field n e ss g x y h s = absurd h
head_or_shown seek.Operand n e ss g x y h s = absurd h

head_or_paged : {A : Type 0} (k : Sought) (n : Name) (e : Option Entity) (ss : List Selected) (g : List Name) (os : List Order) (x y : Place) → HeadFault k n x → PagedFault k e ss g os y → A
head_or_paged seek.Entity n e ss g os x y h s = absurd s
head_or_paged seek.Field n e ss g os x y h s = absurd h
head_or_paged seek.Operand n e ss g os x y h s = absurd h

-- what stands where in a selection
record Parts (k : Sought) (W : Place → Type 0) (n : Name) (s : Option (List Selected)) (c : Clause) (g : List Name) (o : Paging) : Type 0 where
  head : Sits W (entity_fault k n) (HeadFault k n)
  shown : Sits W (shown_fault k (entity_named n.text) (shown_list s) g) (ShownFault k (entity_named n.text) (shown_list s) g)
  tests : Sits W (clause_fault k (entity_named n.text) c) (ClauseHas k (entity_named n.text) c)
  paged : Sits W (paged_fault k (entity_named n.text) (shown_list s) g o.order) (PagedFault k (entity_named n.text) (shown_list s) g o.order)
  head_first : (x y : Place) → HeadFault k n x → ClauseHas k (entity_named n.text) c y → IsAtOrBefore x y
  shown_tests : (x y : Place) → ShownFault k (entity_named n.text) (shown_list s) g x → ClauseHas k (entity_named n.text) c y → IsAtOrBefore x y
  shown_paged : (x y : Place) → ShownFault k (entity_named n.text) (shown_list s) g x → PagedFault k (entity_named n.text) (shown_list s) g o.order y → IsAtOrBefore x y
  tests_paged : (x y : Place) → ClauseHas k (entity_named n.text) c x → PagedFault k (entity_named n.text) (shown_list s) g o.order y → IsAtOrBefore x y

level_sits : (k : Sought) (W : Place → Type 0) (n : Name) (s : Option (List Selected)) (c : Clause) (g : List Name) (o : Paging) → Parts k W n s c g o → Sits W (level_fault k (level n s c g o)) (HasFault k (level n s c g o))
level_sits k W n s c g o h =
    let e = entity_named n.text in
    let ss = shown_list s in
    mapped W W (HasFault k (level n s c g o))
    (joined W (entity_fault k n) (first (shown_fault k e ss g) (first (clause_fault k e c) (paged_fault k e ss g o.order))) h.head
    (joined W (shown_fault k e ss g) (first (clause_fault k e c) (paged_fault k e ss g o.order)) h.shown
    (joined W (clause_fault k e c) (paged_fault k e ss g o.order) h.tests h.paged h.tests_paged)
    (λ x y a b. elim b [ inl t ↦ h.shown_tests x y a t | inr t ↦ h.shown_paged x y a t ]))
    (λ x y a b. elim b [
      | inl t ↦ head_or_shown k n e ss g x y a t
      | inr (inl t) ↦ h.head_first x y a t
      | inr (inr t) ↦ head_or_paged k n e ss g o.order x y a t
    ]))
    (own_to k n s c g o) (own_from k n s c g o) (λ q r. r)

-- by the columns of groups, and by the orders
on_paged : {A : Type 0} (k : Sought) (e : Option Entity) (ss : List Selected) (g : List Name) (os : List Order) (y : Place)
    → (SomeOf (NoColumn e y) g → A) → (SomeOf (NoOrder e ss g y) os → A) → PagedFault k e ss g os y → A
on_paged seek.Entity e ss g os y to by h = absurd h
on_paged seek.Field e ss g os y to by (inl h) = to h
on_paged seek.Field e ss g os y to by (inr h) = by h
on_paged seek.Operand e ss g os y to by h = absurd h

paged_sits : (k : Sought) (W : Place → Type 0) (e : Option Entity) (ss : List Selected) (g : List Name) (os : List Order)
    → Sits W (unknown_names e g) (λ q. SomeOf (NoColumn e q) g) → Sits W (orders_fault (makes_groups ss g) e ss os) (λ q. SomeOf (NoOrderBy (makes_groups ss g) e ss q) os)
    → ((x y : Place) → SomeOf (NoColumn e x) g → SomeOf (NoOrder e ss g y) os → IsAtOrBefore x y) → Sits W (paged_fault k e ss g os) (PagedFault k e ss g os)
paged_sits seek.Entity W e ss g os names orders before = none_sits W
paged_sits seek.Field W e ss g os names orders before = joined W (unknown_names e g) (orders_fault (makes_groups ss g) e ss os) names orders before
paged_sits seek.Operand W e ss g os names orders before = none_sits W

shown_sits : (k : Sought) (e : Option Entity) (p : Place) (s : SelectionForm) (g : List Name) → Sits (IsIn p) (shown_fault k e (selection_meaning p s) g) (ShownFault k e (selection_meaning p s) g)
shown_sits seek.Entity e p s g = none_sits (IsIn p)
shown_sits seek.Field e p s g = selection_sits e p s
shown_sits seek.Operand e p s g = grouped_sits (makes_groups (selection_meaning p s) g) g p s

groups_sit : (e : Option Entity) (p : Place) (g : GroupForm) → Sits (IsIn p) (unknown_names e (group_meaning p g)) (λ q. SomeOf (NoColumn e q) (group_meaning p g))
groups_sit e p ungrouped = none_sits (IsIn p)
groups_sit e p (grouped s ss) = listed_in p 1 (names_sit e p 1 (s ∷ ss))

-- a filter comes before a group
tests_groups : (k : Sought) (e : Option Entity) (p : Place) (w : WhereForm) (x y : Place) → IsIn (p ++ 2 ∷ []) x → ClauseHas k e (where_meaning (p ++ 2 ∷ []) w) x → IsIn (p ++ (2 + where_count w) ∷ []) y → IsAtOrBefore x y
tests_groups k e p anywhere x y there h behind = absurd h
tests_groups k e p (such_that f) x y there h behind = apart p 2 3 x y (omega arith) there (element_from p 3 y behind)

-- An extract at p: its entity stands before it, and its orders behind.
extract_sits : (k : Sought) (W : Place → Type 0) (n : Name) (p : Place) (s : SelectionForm) (w : WhereForm) (g : GroupForm) (o : Paging)
    → Sits (IsIn (p ++ 2 ∷ [])) (clause_fault k (entity_named n.text) (where_meaning (p ++ 2 ∷ []) w)) (ClauseHas k (entity_named n.text) (where_meaning (p ++ 2 ∷ []) w))
    → ((q : Place) → IsIn p q → W q) → ((q : Place) → q ≡ n.place → W q) → ((q : Place) → IsIn p q → IsAtOrBefore n.place q)
    → ((b : Bool) (e : Option Entity) (ss : List Selected) → Sits W (orders_fault b e ss o.order) (λ q. SomeOf (NoOrderBy b e ss q) o.order))
    → ((b : Bool) (e : Option Entity) (ss : List Selected) (x y : Place) → IsIn p x → SomeOf (NoOrderBy b e ss y) o.order → IsAtOrBefore x y)
    → Sits W (level_fault k (extracted n (extract_meaning p (extracting s w g)) o)) (HasFault k (extracted n (extract_meaning p (extracting s w g)) o))
extract_sits k W n p s w g o tests wide at_head head_before orders orders_last =
    let e = entity_named n.text in
    let ss = selection_meaning (p ++ 1 ∷ []) s in
    let gs = group_meaning (p ++ (2 + where_count w) ∷ []) g in
    let shown = shown_sits k e (p ++ 1 ∷ []) s gs in
    let groups = groups_sit e (p ++ (2 + where_count w) ∷ []) g in
    let b = makes_groups ss gs in
    level_sits k W n (Some ss) (where_meaning (p ++ 2 ∷ []) w) gs o (record {
      head = widened _ W (head_sits k n) at_head;
      shown = widened _ W shown (λ q h. wide q (below_in p (1 ∷ []) q h));
      tests = widened _ W tests (λ q h. wide q (below_in p (2 ∷ []) q h));
      paged =
          paged_sits k W e ss gs o.order (widened _ W groups (λ q h. wide q (below_in p ((2 + where_count w) ∷ []) q h))) (orders b e ss)
          (λ x y h t. orders_last b e ss x y (below_in p ((2 + where_count w) ∷ []) x (groups.stands x h)) t);
      head_first = λ x y h t. subst (λ z. IsAtOrBefore z y) (sym ((head_sits k n).stands x h)) (head_before y (below_in p (2 ∷ []) y (tests.stands y t)));
      shown_tests = λ x y h t. apart p 1 2 x y (omega arith) (shown.stands x h) (element_from p 2 y (tests.stands y t));
      shown_paged = λ x y h t.
          on_paged k e ss gs o.order y (λ a. apart p 1 (2 + where_count w) x y (omega arith) (shown.stands x h) (element_from p (2 + where_count w) y (groups.stands y a)))
          (λ a. orders_last b e ss x y (below_in p (1 ∷ []) x (shown.stands x h)) a) t;
      tests_paged = λ x y h t.
          on_paged k e ss gs o.order y (λ a. tests_groups k e p w x y (tests.stands x h) h (groups.stands y a))
          (λ a. orders_last b e ss x y (below_in p (2 ∷ []) x (tests.stands x h)) a) t;
    })

-- ["from", E, extract, part, ..] at p
from_sits : (k : Sought) (p : Place) (e : List ℕ) (s : SelectionForm) (w : WhereForm) (g : GroupForm) (gs : List PartForm)
    → Sits (IsIn ((p ++ 2 ∷ []) ++ 2 ∷ [])) (clause_fault k (entity_named e) (where_meaning ((p ++ 2 ∷ []) ++ 2 ∷ []) w)) (ClauseHas k (entity_named e) (where_meaning ((p ++ 2 ∷ []) ++ 2 ∷ []) w))
    → Sits (IsIn p) (level_fault k (extracted (name e (p ++ 1 ∷ [])) (extract_meaning (p ++ 2 ∷ []) (extracting s w g)) (paging_from p 3 gs))) (HasFault k (extracted (name e (p ++ 1 ∷ [])) (extract_meaning (p ++ 2 ∷ []) (extracting s w g)) (paging_from p 3 gs)))
from_sits k p e s w g gs tests =
    extract_sits k (IsIn p) (name e (p ++ 1 ∷ [])) (p ++ 2 ∷ []) s w g (paging_from p 3 gs) tests (below_in p (2 ∷ []))
    (λ q h. below_in p (1 ∷ []) q (here_in (p ++ 1 ∷ []) q h))
    (λ q h. apart p 1 2 (p ++ 1 ∷ []) q (omega arith) (here_in (p ++ 1 ∷ []) (p ++ 1 ∷ []) refl) (element_from p 2 q h))
    (λ b en ss. listed_in p 3 (parts_sit b en ss p 3 gs))
    (λ b en ss x y h t. apart p 2 3 x y (omega arith) h ((parts_sit b en ss p 3 gs).stands y t))

-- ["extract", cols, ["select_E", f?]] at p
select_sits : (k : Sought) (p : Place) (c : Columns) (e : List ℕ) (w : WhereForm)
    → Sits (IsIn ((p ++ 2 ∷ []) ++ 1 ∷ [])) (clause_fault k (entity_named e) (where_meaning ((p ++ 2 ∷ []) ++ 1 ∷ []) w)) (ClauseHas k (entity_named e) (where_meaning ((p ++ 2 ∷ []) ++ 1 ∷ []) w))
    → Sits (IsIn p) (level_fault k (level (name e ((p ++ 2 ∷ []) ++ 0 ∷ [])) (Some (map selected.Column (columns_meaning (p ++ 1 ∷ []) c))) (where_meaning ((p ++ 2 ∷ []) ++ 1 ∷ []) w) [] unpaged))
    (HasFault k (level (name e ((p ++ 2 ∷ []) ++ 0 ∷ [])) (Some (map selected.Column (columns_meaning (p ++ 1 ∷ []) c))) (where_meaning ((p ++ 2 ∷ []) ++ 1 ∷ []) w) [] unpaged))
select_sits k p c e w tests =
    let n = name e ((p ++ 2 ∷ []) ++ 0 ∷ []) in
    let en = entity_named e in
    let f = where_meaning ((p ++ 2 ∷ []) ++ 1 ∷ []) w in
    let ss = selection_meaning (p ++ 1 ∷ []) (outputs_of c) in
    let shown = shown_sits k en (p ++ 1 ∷ []) (outputs_of c) [] in
    subst (λ xs. Sits (IsIn p) (level_fault k (level n (Some xs) f [] unpaged)) (HasFault k (level n (Some xs) f [] unpaged))) (sym (outputs_are (p ++ 1 ∷ []) c))
    (level_sits k (IsIn p) n (Some ss) f [] unpaged (record {
      head = widened _ (IsIn p) (head_sits k n) (λ q h. below_in p (2 ∷ []) q (below_in (p ++ 2 ∷ []) (0 ∷ []) q (here_in n.place q h)));
      shown = within p (1 ∷ []) shown;
      tests = within p (2 ∷ []) (within (p ++ 2 ∷ []) (1 ∷ []) tests);
      paged = paged_sits k (IsIn p) en ss [] [] (none_sits (IsIn p)) (listed_in p 3 (parts_sit (makes_groups ss []) en ss p 3 [])) (λ x y h t. absurd h);
      head_first = λ x y h t. apart (p ++ 2 ∷ []) 0 1 x y (omega arith) (here_in n.place x ((head_sits k n).stands x h)) (element_from (p ++ 2 ∷ []) 1 y (tests.stands y t));
      shown_tests = λ x y h t. apart p 1 2 x y (omega arith) (shown.stands x h) (element_from p 2 y (below_in (p ++ 2 ∷ []) (1 ∷ []) y (tests.stands y t)));
      shown_paged = λ x y h t. on_paged k en ss [] [] y (λ a. absurd a) (λ a. absurd a) t;
      tests_paged = λ x y h t. on_paged k en ss [] [] y (λ a. absurd a) (λ a. absurd a) t;
    }))

-- ---- a subquery

sub_to : (k : Sought) (n : Name) (c : Clause) (e : Option Entity) (q : Place) → HeadFault k n q ⊎ ClauseHas k (entity_named n.text) c q → Has k e (subquery n c) q
sub_to seek.Entity n c e q (inl h) = inl h
sub_to seek.Field n c e q (inl h) = absurd h
sub_to seek.Operand n c e q (inl h) = absurd h
sub_to k n c e q (inr h) = inr h

sub_from : (k : Sought) (n : Name) (c : Clause) (e : Option Entity) (q : Place) → Has k e (subquery n c) q → HeadFault k n q ⊎ ClauseHas k (entity_named n.text) c q
sub_from seek.Entity n c e q (inl h) = inl h
sub_from seek.Field n c e q (inl (inl h)) = absurd h
sub_from seek.Field n c e q (inl (inr (inl h))) = absurd h
sub_from seek.Field n c e q (inl (inr (inr h))) = absurd h
sub_from seek.Operand n c e q (inl h) = absurd h.1
sub_from k n c e q (inr h) = inr h

-- ---- filters

mutual
  filter_sits : (k : Sought) (e : Option Entity) (p : Place) (f : FilterForm) → Sits (IsIn p) (filter_fault k e (filter_meaning p f)) (Has k e (filter_meaning p f))
  filter_sits k e p (conjunction f fs) =
      listed_in p 1 (then_from p 1 2 (filter_fault k e (filter_meaning (p ++ 1 ∷ []) f)) (filters_fault k e (filters_of (filters_from p 2 fs))) (omega arith)
      (filter_sits k e (p ++ 1 ∷ []) f) (filters_sit k e p 2 fs))
  filter_sits k e p (disjunction f fs) =
      listed_in p 1 (then_from p 1 2 (filter_fault k e (filter_meaning (p ++ 1 ∷ []) f)) (filters_fault k e (filters_of (filters_from p 2 fs))) (omega arith)
      (filter_sits k e (p ++ 1 ∷ []) f) (filters_sit k e p 2 fs))
  filter_sits k e p (negated f) = within p (1 ∷ []) (filter_sits k e (p ++ 1 ∷ []) f)
  filter_sits k e p (comparison o f l) = compared_sits k e o p f l
  filter_sits k e p (pattern_test f s) =
      let x = field_meaning (p ++ 1 ∷ []) f in
      let t : Pattern = record { text = s; place = p ++ 2 ∷ [] } in
      mapped (IsIn p) (IsIn p) (Has k e (matches x t)) (field_sits k e p f) (matches_to k e x t) (matches_from k e x t) (λ q r. r)
  filter_sits k e p (null_test f b) =
      let x = field_meaning (p ++ 1 ∷ []) f in
      mapped (IsIn p) (IsIn p) (Has k e (is_null x b)) (field_sits k e p f) (null_to k e x b) (null_from k e x b) (λ q r. r)
  filter_sits k e p (in_array c l ls) =
      let fs = map field_named (columns_meaning (p ++ 1 ∷ []) c) in
      let xs = literals_from ((p ++ 2 ∷ []) ++ 1 ∷ []) 0 (l ∷ ls) in
      mapped (IsIn p) (IsIn p) (Has k e (in_list fs (p ++ 2 ∷ []) xs))
      (two_sides p (operands_fault k e fs) (sides_fault k fs (p ++ 2 ∷ []) 1) (array_fault k e fs xs) (left_sits k e (p ++ 1 ∷ []) c)
      (side_sits k fs (p ++ 2 ∷ []) 1) (within (p ++ 2 ∷ []) (1 ∷ []) (array_side k e fs ((p ++ 2 ∷ []) ++ 1 ∷ []) (l ∷ ls))))
      (list_to k e fs (p ++ 2 ∷ []) xs) (list_from k e fs (p ++ 2 ∷ []) xs) (λ q r. r)
  filter_sits k e p (in_select c s n w) =
      let fs = map field_named (columns_meaning (p ++ 1 ∷ []) c) in
      let q = level (name n (((p ++ 2 ∷ []) ++ 2 ∷ []) ++ 0 ∷ [])) (Some (map selected.Column (columns_meaning ((p ++ 2 ∷ []) ++ 1 ∷ []) s))) (where_meaning (((p ++ 2 ∷ []) ++ 2 ∷ []) ++ 1 ∷ []) w) [] unpaged in
      mapped (IsIn p) (IsIn p) (Has k e (in_level fs (p ++ 2 ∷ []) q))
      (two_sides p (operands_fault k e fs) (sides_fault k fs (p ++ 2 ∷ []) (level_width q)) (level_fault k q) (left_sits k e (p ++ 1 ∷ []) c)
      (side_sits k fs (p ++ 2 ∷ []) (level_width q))
      (select_sits k (p ++ 2 ∷ []) s n w (where_sits k (entity_named n) (((p ++ 2 ∷ []) ++ 2 ∷ []) ++ 1 ∷ []) w)))
      (level_to k e fs (p ++ 2 ∷ []) q) (level_from k e fs (p ++ 2 ∷ []) q) (λ q r. r)
  filter_sits k e p (in_query c n (extracting s w g) gs) =
      let fs = map field_named (columns_meaning (p ++ 1 ∷ []) c) in
      let q = extracted (name n ((p ++ 2 ∷ []) ++ 1 ∷ [])) (extract_meaning ((p ++ 2 ∷ []) ++ 2 ∷ []) (extracting s w g)) (paging_from (p ++ 2 ∷ []) 3 gs) in
      mapped (IsIn p) (IsIn p) (Has k e (in_level fs (p ++ 2 ∷ []) q))
      (two_sides p (operands_fault k e fs) (sides_fault k fs (p ++ 2 ∷ []) (level_width q)) (level_fault k q) (left_sits k e (p ++ 1 ∷ []) c)
      (side_sits k fs (p ++ 2 ∷ []) (level_width q))
      (from_sits k (p ++ 2 ∷ []) n s w g gs (where_sits k (entity_named n) (((p ++ 2 ∷ []) ++ 2 ∷ []) ++ 2 ∷ []) w)))
      (level_to k e fs (p ++ 2 ∷ []) q) (level_from k e fs (p ++ 2 ∷ []) q) (λ q r. r)
  filter_sits k e p (subquery_of n w) =
      let m = name n (p ++ 1 ∷ []) in
      let c = where_meaning (p ++ 2 ∷ []) w in
      let tests = where_sits k (entity_named n) (p ++ 2 ∷ []) w in
      mapped (IsIn p) (IsIn p) (Has k e (subquery m c))
      (listed_in p 1 (then_from p 1 2 (entity_fault k m) (clause_fault k (entity_named n) c) (omega arith) (at_place (p ++ 1 ∷ []) (head_sits k m))
      (widened (IsIn (p ++ 2 ∷ [])) (IsFrom p 2) tests (element_from p 2))))
      (sub_to k m c e) (sub_from k m c e) (λ q r. r)

  filters_sit : (k : Sought) (e : Option Entity) (p : Place) (i : ℕ) (fs : FilterForms) → Sits (IsFrom p i) (filters_fault k e (filters_of (filters_from p i fs))) (λ q. InFilters (TestFault k q) (OwnFault k q) e (filters_of (filters_from p i fs)))
  filters_sit k e p i last = none_sits (IsFrom p i)
  filters_sit k e p i (next f fs) =
      then_from p i (i + 1) (filter_fault k e (filter_meaning (p ++ i ∷ []) f)) (filters_fault k e (filters_of (filters_from p (i + 1) fs))) (omega arith)
      (filter_sits k e (p ++ i ∷ []) f) (filters_sit k e p (i + 1) fs)

  where_sits : (k : Sought) (e : Option Entity) (p : Place) (w : WhereForm) → Sits (IsIn p) (clause_fault k e (where_meaning p w)) (ClauseHas k e (where_meaning p w))
  where_sits k e p anywhere = none_sits (IsIn p)
  where_sits k e p (such_that f) = filter_sits k e p f

-- ---- whole queries

no_shown : (k : Sought) (W : Place → Type 0) (e : Option Entity) → Sits W (shown_fault k e [] []) (ShownFault k e [] [])
no_shown seek.Entity W e = none_sits W
no_shown seek.Field W e = none_sits W
no_shown seek.Operand W e = mapped W W (ShownFault seek.Operand e [] []) (none_sits W) (λ q h. absurd h) (λ q h. absurd h.1) (λ q r. r)

none_shown : {A : Type 0} (k : Sought) (e : Option Entity) (q : Place) → ShownFault k e [] [] q → A
none_shown seek.Entity e q h = absurd h
none_shown seek.Field e q h = absurd h
none_shown seek.Operand e q h = absurd h.1

-- all columns are shown, and no rows are grouped
plain_sits : (k : Sought) (n : Name) (c : Clause) (o : Paging)
    → Sits (IsIn []) (clause_fault k (entity_named n.text) c) (ClauseHas k (entity_named n.text) c)
    → ((b : Bool) (e : Option Entity) → Sits (IsIn []) (orders_fault b e [] o.order) (λ q. SomeOf (NoOrderBy b e [] q) o.order))
    → ((x y : Place) → x ≡ n.place → ClauseHas k (entity_named n.text) c y → IsAtOrBefore x y)
    → ((b : Bool) (e : Option Entity) (x y : Place) → ClauseHas k (entity_named n.text) c x → SomeOf (NoOrderBy b e [] y) o.order → IsAtOrBefore x y)
    → Sits (IsIn []) (level_fault k (level n None c [] o)) (HasFault k (level n None c [] o))
plain_sits k n c o tests orders head_before orders_last =
    let e = entity_named n.text in
    level_sits k (IsIn []) n None c [] o (record {
      head = widened _ (IsIn []) (head_sits k n) (λ q h. (q, refl));
      shown = no_shown k (IsIn []) e;
      tests = tests;
      paged = paged_sits k (IsIn []) e [] [] o.order (none_sits (IsIn [])) (orders (makes_groups [] []) e) (λ x y h t. absurd h);
      head_first = λ x y h t. head_before x y ((head_sits k n).stands x h) t;
      shown_tests = λ x y h t. none_shown k e x h;
      shown_paged = λ x y h t. none_shown k e x h;
      tests_paged = λ x y h t. on_paged k e [] [] o.order y (λ a. absurd a) (λ a. orders_last (makes_groups [] []) e x y h a) t;
    })

query_sits : (k : Sought) (f : QueryForm) → Sits (IsIn []) (level_fault k (query_meaning f)) (HasFault k (query_meaning f))
query_sits k (from_all e gs) =
    plain_sits k (name e (1 ∷ [])) no_clause (paging_from [] 2 gs) (none_sits (IsIn [])) (λ b en. listed_in [] 2 (parts_sit b en [] [] 2 gs))
    (λ x y h t. absurd t) (λ b en x y h t. absurd h)
query_sits k (from_filter e f gs) =
    let tests = filter_sits k (entity_named e) (2 ∷ []) f in
    plain_sits k (name e (1 ∷ [])) (clause (filter_meaning (2 ∷ []) f)) (paging_from [] 3 gs) (within [] (2 ∷ []) tests)
    (λ b en. listed_in [] 3 (parts_sit b en [] [] 3 gs))
    (λ x y h t. apart [] 1 2 x y (omega arith) (here_in (1 ∷ []) x h) (element_from [] 2 y (tests.stands y t)))
    (λ b en x y h t. apart [] 2 3 x y (omega arith) (tests.stands x h) ((parts_sit b en [] [] 3 gs).stands y t))
query_sits k (from_extract e (extracting s w g) gs) = from_sits k [] e s w g gs (where_sits k (entity_named e) (2 ∷ 2 ∷ []) w)

route_sits : (k : Sought) (e : List ℕ) (f : RouteForm) → Sits (IsIn []) (level_fault k (route_meaning (name e []) f)) (HasFault k (route_meaning (name e []) f))
route_sits k e (route_filter f) =
    plain_sits k (name e []) (clause (filter_meaning [] f)) unpaged (filter_sits k (entity_named e) [] f) (λ b en. listed_in [] 3 (parts_sit b en [] [] 3 []))
    (λ x y h t. subst (λ z. IsAtOrBefore z y) (sym h) tt) (λ b en x y h t. absurd t)
route_sits k e (route_extract (extracting s w g)) =
    extract_sits k (IsIn []) (name e []) [] s w g unpaged (where_sits k (entity_named e) (2 ∷ []) w) (λ q h. h) (λ q h. (q, refl)) (λ q h. tt)
    (λ b en ss. listed_in [] 3 (parts_sit b en ss [] 3 [])) (λ b en ss x y h t. absurd t)

pub first_faults_are_told : FirstFaultsAreTold
first_faults_are_told k v q h =
    let s = query_told v q h in
    subst (λ x. IsFirst (level_fault k x) (HasFault k x)) (sym s.means) (query_sits k s.form).is_first

pub first_faults_of_routes_are_told : FirstFaultsOfRoutesAreTold
first_faults_of_routes_are_told k e v q h =
    let s = route_told (name (entity_name e) []) v q h in
    subst (λ x. IsFirst (level_fault k x) (HasFault k x)) (sym s.means) (route_sits k (entity_name e) s.form).is_first
