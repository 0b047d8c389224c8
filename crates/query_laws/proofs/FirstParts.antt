-- The first faults among names, outputs, orders, fields and literals that stand side by side.
use Rattle.std.proofs.Common.{◌≡◌, ◌∙◌, ℕ, ◌+◌, List, [], ◌∷◌, ◌++◌, Bool, true, false, Option, Some, None, arith, refl, ap, map, if◌then◌else◌}
use Rattle.std.specs.Prelude.{not, is_some, codes}
use Rattle.std.specs.Str.{bytes_eq}
use Rattle.query_spec.specs.fleet_rows.declared.column.Column.{Column}
use Rattle.query_spec.specs.fleet_rows.declared.row.Entity.{Entity}
use Rattle.query_spec.specs.declared.parts.Field.{Field}
use Rattle.query_spec.specs.declared.parts.Field.TheVariants as field
use Rattle.query_spec.specs.declared.parts.Literal.{Literal}
use Rattle.query_spec.specs.declared.parts.Name.{Name}
use Rattle.query_spec.specs.declared.parts.Op.TheVariants.{Equal}
use Rattle.query_spec.specs.declared.parts.Order.{Order}
use Rattle.query_spec.specs.declared.parts.Scalar.{Scalar}
use Rattle.query_spec.specs.declared.parts.Selected.{Selected}
use Rattle.query_spec.specs.declared.parts.Selected.TheVariants as selected
use Rattle.query_spec.specs.declared.sought.Sought.{Sought}
use Rattle.query_spec.specs.declared.sought.Sought.TheVariants as seek
use Rattle.query_spec.specs.Check.{Place, at_fault, entity_named, column_named, has_parameters, has_facts, has_output, is_grouped, is_bad_literal, unknown_name, unknown_names, unknown_field, unknown_selected, unknown_shown, unknown_outputs, unknown_columns, bad_operand, bad_literals, bad_array, ungrouped_one, first_ungrouped, operand_fault, operands_fault}
use Rattle.query_spec.specs.Parts.{name, field_named}
use Rattle.query_laws.specs.Faults.{SomeOf, NoEntity, NoColumn, NoField, ShowsNoColumn, NoCell, SomeLiteral, Ungrouped}
use Rattle.query_laws.specs.Grammar.{Columns, one, listed, names_from, columns_meaning, FieldForm, named, parameter, fact, field_meaning, literals_from, ShownForm, column, rows, applied, SelectionForm, single, several, shown_meaning, shown_from, selection_meaning, OrderForm, ascending, directed, PartForm, limit, offset, order_by, order_meaning, orders_from, order_of}
use Rattle.query_laws.proofs.FirstPlaces.{IsIn, IsFrom, Sits, here_in, below_in, element_from, later_from, from_in, none_sits, mapped, widened, fault_sits, true_sits, false_sits, some_sits, then_from, alone}

-- ---- one part

none_named : (o : Option Column) → not (is_some o) ≡ true → o ≡ None
none_named None h = refl
none_named (Some c) h = absurd (let clash : false ≡ true = h in cc)

pub column_sits : (e : Option Entity) (n : Name) → Sits (λ q. q ≡ n.place) (unknown_name e n) (λ q. NoColumn e q n)
column_sits e n =
    fault_sits (not (is_some (column_named e n.text))) n.place (column_named e n.text ≡ None) (none_named (column_named e n.text))
    (λ h. ap (λ (o : Option Column). not (is_some o)) h)

no_entity : (o : Option Entity) → not (is_some o) ≡ true → o ≡ None
no_entity None h = refl
no_entity (Some c) h = absurd (let clash : false ≡ true = h in cc)

pub entity_sits : (n : Name) → Sits (λ q. q ≡ n.place) (at_fault (not (is_some (entity_named n.text))) n.place) (λ q. NoEntity q n)
entity_sits n =
    fault_sits (not (is_some (entity_named n.text))) n.place (entity_named n.text ≡ None) (no_entity (entity_named n.text))
    (λ h. ap (λ (o : Option Entity). not (is_some o)) h)

pub at_place : (p : Place) {told : Option Place} {F : Place → Type 0} → Sits (λ q. q ≡ p) told F → Sits (IsIn p) told F
at_place p h = widened (λ q. q ≡ p) (IsIn p) h (here_in p)

-- within an element
pub within : (p c : Place) {told : Option Place} {F : Place → Type 0} → Sits (IsIn (p ++ c)) told F → Sits (IsIn p) told F
within p c h = widened (IsIn (p ++ c)) (IsIn p) h (below_in p c)

pub listed_in : (p : Place) (i : ℕ) {told : Option Place} {F : Place → Type 0} → Sits (IsFrom p i) told F → Sits (IsIn p) told F
listed_in p i h = widened (IsFrom p i) (IsIn p) h (from_in p i)

-- ---- names

pub names_sit : (e : Option Entity) (p : Place) (i : ℕ) (ss : List (List ℕ)) → Sits (IsFrom p i) (unknown_names e (names_from p i ss)) (λ q. SomeOf (NoColumn e q) (names_from p i ss))
names_sit e p i [] = none_sits (IsFrom p i)
names_sit e p i (s ∷ ss) =
    then_from p i (i + 1) (unknown_name e (name s (p ++ i ∷ []))) (unknown_names e (names_from p (i + 1) ss)) (omega arith)
    (at_place (p ++ i ∷ []) (column_sits e (name s (p ++ i ∷ [])))) (names_sit e p (i + 1) ss)

-- ---- what is shown

shown_one : (e : Option Entity) (p : Place) (s : ShownForm) → Sits (IsIn p) (unknown_selected e (shown_meaning p s)) (λ q. ShowsNoColumn e q (shown_meaning p s))
shown_one e p (column s) = at_place p (column_sits e (name s p))
shown_one e p rows = none_sits (IsIn p)
shown_one e p (applied f s) = within p (2 ∷ []) (at_place (p ++ 2 ∷ []) (column_sits e (name s (p ++ 2 ∷ []))))

shown_sit : (e : Option Entity) (p : Place) (i : ℕ) (ss : List ShownForm) → Sits (IsFrom p i) (unknown_shown e (shown_from p i ss)) (λ q. SomeOf (ShowsNoColumn e q) (shown_from p i ss))
shown_sit e p i [] = none_sits (IsFrom p i)
shown_sit e p i (s ∷ ss) =
    then_from p i (i + 1) (unknown_selected e (shown_meaning (p ++ i ∷ []) s)) (unknown_shown e (shown_from p (i + 1) ss)) (omega arith)
    (shown_one e (p ++ i ∷ []) s) (shown_sit e p (i + 1) ss)

pub selection_sits : (e : Option Entity) (p : Place) (s : SelectionForm) → Sits (IsIn p) (unknown_shown e (selection_meaning p s)) (λ q. SomeOf (ShowsNoColumn e q) (selection_meaning p s))
selection_sits e p (single s) = alone p (unknown_name e (name s p)) (at_place p (column_sits e (name s p)))
selection_sits e p (several s ss) = listed_in p 0 (shown_sit e p 0 (s ∷ ss))

ungrouped_sits : (g : List Name) (p : Place) (s : ShownForm) → Sits (IsIn p) (ungrouped_one g (shown_meaning p s)) (λ q. Ungrouped g q (shown_meaning p s))
ungrouped_sits g p (column s) = at_place p (false_sits (is_grouped g s) p)
ungrouped_sits g p rows = none_sits (IsIn p)
ungrouped_sits g p (applied f s) = none_sits (IsIn p)

ungrouped_sit : (g : List Name) (p : Place) (i : ℕ) (ss : List ShownForm) → Sits (IsFrom p i) (first_ungrouped g (shown_from p i ss)) (λ q. SomeOf (Ungrouped g q) (shown_from p i ss))
ungrouped_sit g p i [] = none_sits (IsFrom p i)
ungrouped_sit g p i (s ∷ ss) =
    then_from p i (i + 1) (ungrouped_one g (shown_meaning (p ++ i ∷ []) s)) (first_ungrouped g (shown_from p (i + 1) ss)) (omega arith)
    (ungrouped_sits g (p ++ i ∷ []) s) (ungrouped_sit g p (i + 1) ss)

ungrouped_selection : (g : List Name) (p : Place) (s : SelectionForm) → Sits (IsIn p) (first_ungrouped g (selection_meaning p s)) (λ q. SomeOf (Ungrouped g q) (selection_meaning p s))
ungrouped_selection g p (single s) = alone p (ungrouped_one g (shown_meaning p (column s))) (ungrouped_sits g p (column s))
ungrouped_selection g p (several s ss) = listed_in p 0 (ungrouped_sit g p 0 (s ∷ ss))

-- where rows are grouped
pub if_grouped : (b : Bool) (R : Place → Type 0) (told : Option Place) {F : Place → Type 0} → Sits R told F → Sits R (if b then told else None) (λ q. (b ≡ true) × F q)
if_grouped true R told {F = F} h = mapped R R (λ q. (true ≡ true) × F q) h (λ q f. (refl, f)) (λ q f. f.1) (λ q r. r)
if_grouped false R told {F = F} h =
    mapped R R (λ q. (false ≡ true) × F q) (none_sits R) (λ q f. absurd f) (λ q f. let clash : false ≡ true = f.0 in cc) (λ q r. r)

pub grouped_sits : (b : Bool) (g : List Name) (p : Place) (s : SelectionForm) → Sits (IsIn p) (if b then first_ungrouped g (selection_meaning p s) else None) (λ q. (b ≡ true) × SomeOf (Ungrouped g q) (selection_meaning p s))
grouped_sits b g p s = if_grouped b (IsIn p) (first_ungrouped g (selection_meaning p s)) (ungrouped_selection g p s)

-- columns of a level within are outputs too
columns_are : (p : Place) (i : ℕ) (ss : List (List ℕ)) → map selected.Column (names_from p i ss) ≡ shown_from p i (map column ss)
columns_are p i [] = refl
columns_are p i (s ∷ ss) = ap (λ xs. selected.Column (name s (p ++ i ∷ [])) ∷ xs) (columns_are p (i + 1) ss)

abbrev pub outputs_of : Columns → SelectionForm
outputs_of (one s) = single s
outputs_of (listed s ss) = several (column s) (map column ss)

pub outputs_are : (p : Place) (c : Columns) → map selected.Column (columns_meaning p c) ≡ selection_meaning p (outputs_of c)
outputs_are p (one s) = refl
outputs_are p (listed s ss) = columns_are p 0 (s ∷ ss)

-- ---- orders

-- the name of an order isn't there
abbrev pub NoOrderBy : Bool → Option Entity → List Selected → Place → Order → Type 0
NoOrderBy b e ss q o = ((if b then has_output ss o.column.text else is_some (column_named e o.column.text)) ≡ false) × (q ≡ o.column.place)

abbrev pub orders_fault : Bool → Option Entity → List Selected → List Order → Option Place
orders_fault b e ss os = if b then unknown_outputs ss os else unknown_columns e os

output_one : (e : Option Entity) (ss : List Selected) (p : Place) (o : OrderForm) → Sits (IsIn p) (at_fault (not (has_output ss (order_meaning p o).column.text)) (order_meaning p o).column.place) (λ q. NoOrderBy true e ss q (order_meaning p o))
output_one e ss p (ascending s) = at_place p (false_sits (has_output ss s) p)
output_one e ss p (directed s b) = within p (0 ∷ []) (at_place (p ++ 0 ∷ []) (false_sits (has_output ss s) (p ++ 0 ∷ [])))

order_one : (e : Option Entity) (ss : List Selected) (p : Place) (o : OrderForm) → Sits (IsIn p) (unknown_name e (order_meaning p o).column) (λ q. NoOrderBy false e ss q (order_meaning p o))
order_one e ss p (ascending s) = at_place p (false_sits (is_some (column_named e s)) p)
order_one e ss p (directed s b) = within p (0 ∷ []) (at_place (p ++ 0 ∷ []) (false_sits (is_some (column_named e s)) (p ++ 0 ∷ [])))

orders_sit : (b : Bool) (e : Option Entity) (ss : List Selected) (p : Place) (i : ℕ) (os : List OrderForm) → Sits (IsFrom p i) (orders_fault b e ss (orders_from p i os)) (λ q. SomeOf (NoOrderBy b e ss q) (orders_from p i os))
orders_sit true e ss p i [] = none_sits (IsFrom p i)
orders_sit false e ss p i [] = none_sits (IsFrom p i)
orders_sit true e ss p i (o ∷ os) =
    then_from p i (i + 1)
    (at_fault (not (has_output ss (order_meaning (p ++ i ∷ []) o).column.text)) (order_meaning (p ++ i ∷ []) o).column.place)
    (unknown_outputs ss (orders_from p (i + 1) os)) (omega arith) (output_one e ss (p ++ i ∷ []) o) (orders_sit true e ss p (i + 1) os)
orders_sit false e ss p i (o ∷ os) =
    then_from p i (i + 1) (unknown_name e (order_meaning (p ++ i ∷ []) o).column) (unknown_columns e (orders_from p (i + 1) os)) (omega arith)
    (order_one e ss (p ++ i ∷ []) o) (orders_sit false e ss p (i + 1) os)

pub parts_sit : (b : Bool) (e : Option Entity) (ss : List Selected) (p : Place) (i : ℕ) (gs : List PartForm) → Sits (IsFrom p i) (orders_fault b e ss (order_of p i gs)) (λ q. SomeOf (NoOrderBy b e ss q) (order_of p i gs))
parts_sit true e ss p i [] = none_sits (IsFrom p i)
parts_sit false e ss p i [] = none_sits (IsFrom p i)
parts_sit b e ss p i (limit n ∷ gs) = widened (IsFrom p (i + 1)) (IsFrom p i) (parts_sit b e ss p (i + 1) gs) (λ q h. later_from p i (i + 1) q (omega arith) h)
parts_sit b e ss p i (offset n ∷ gs) = widened (IsFrom p (i + 1)) (IsFrom p i) (parts_sit b e ss p (i + 1) gs) (λ q h. later_from p i (i + 1) q (omega arith) h)
parts_sit b e ss p i (order_by o os ∷ gs) =
    widened (IsIn (p ++ i ∷ [])) (IsFrom p i)
    (within (p ++ i ∷ []) (1 ∷ []) (listed_in ((p ++ i ∷ []) ++ 1 ∷ []) 0 (orders_sit b e ss ((p ++ i ∷ []) ++ 1 ∷ []) 0 (o ∷ os))))
    (element_from p i)

-- ---- fields

abbrev pub field_place : Field → Place
field_place (field.Column n) = n.place
field_place (field.Parameter n) = n.place
field_place (field.Fact n) = n.place
field_place (field.Tag p) = p
field_place (field.NodeState p) = p

pub no_field_sits : (e : Option Entity) (f : Field) → Sits (λ q. q ≡ field_place f) (unknown_field e f) (λ q. NoField e q f)
no_field_sits e (field.Column n) = column_sits e n
no_field_sits e (field.Parameter n) = false_sits (has_parameters e) n.place
no_field_sits e (field.Fact n) = false_sits (has_facts e) n.place
no_field_sits e (field.Tag p) = false_sits (has_parameters e) p
no_field_sits e (field.NodeState p) = none_sits (λ q. q ≡ p)

no_cell_sits : (f : Field) → Sits (λ q. q ≡ field_place f) (bad_operand f) (λ q. NoCell q f)
no_cell_sits (field.Column n) = none_sits (λ q. q ≡ n.place)
no_cell_sits (field.Parameter n) = none_sits (λ q. q ≡ n.place)
no_cell_sits (field.Fact n) = none_sits (λ q. q ≡ n.place)
no_cell_sits (field.Tag p) = some_sits p
no_cell_sits (field.NodeState p) = some_sits p

-- the fault of an operand of `~`, `null?` or `in`
abbrev pub OperandFault : Sought → Option Entity → Place → Field → Type 0
OperandFault seek.Entity e q f = ⊥
OperandFault seek.Field e q f = NoField e q f
OperandFault seek.Operand e q f = NoCell q f

pub operand_sits : (k : Sought) (e : Option Entity) (f : Field) → Sits (λ q. q ≡ field_place f) (operand_fault k e f) (λ q. OperandFault k e q f)
operand_sits seek.Entity e f = none_sits (λ q. q ≡ field_place f)
operand_sits seek.Field e f = no_field_sits e f
operand_sits seek.Operand e f = no_cell_sits f

named_by : (a b : Bool) (n : Name) → field_place (if a then field.Tag n.place else (if b then field.NodeState n.place else field.Column n)) ≡ n.place
named_by true b n = refl
named_by false true n = refl
named_by false false n = refl

pub named_there : (n : Name) → field_place (field_named n) ≡ n.place
unfolding field_named
named_there n = named_by (bytes_eq n.text (codes "tag")) (bytes_eq n.text (codes "node_state")) n

pub field_in : (p : Place) (f : FieldForm) (q : Place) → q ≡ field_place (field_meaning p f) → IsIn p q
field_in p (named s) q h = here_in p q (h ∙ named_there (name s p))
field_in p (parameter s) q h = (1 ∷ [], h)
field_in p (fact s) q h = (1 ∷ [], h)

operand_there : (k : Sought) (e : Option Entity) (n : Name) → Sits (IsIn n.place) (operand_fault k e (field_named n)) (λ q. OperandFault k e q (field_named n))
operand_there k e n =
    widened (λ q. q ≡ field_place (field_named n)) (IsIn n.place) (operand_sits k e (field_named n))
    (λ q h. here_in n.place q (h ∙ named_there n))

operands_sit : (k : Sought) (e : Option Entity) (p : Place) (i : ℕ) (ss : List (List ℕ)) → Sits (IsFrom p i) (operands_fault k e (map field_named (names_from p i ss))) (λ q. SomeOf (OperandFault k e q) (map field_named (names_from p i ss)))
operands_sit k e p i [] = none_sits (IsFrom p i)
operands_sit k e p i (s ∷ ss) =
    then_from p i (i + 1) (operand_fault k e (field_named (name s (p ++ i ∷ [])))) (operands_fault k e (map field_named (names_from p (i + 1) ss)))
    (omega arith) (operand_there k e (name s (p ++ i ∷ []))) (operands_sit k e p (i + 1) ss)

pub left_sits : (k : Sought) (e : Option Entity) (p : Place) (c : Columns) → Sits (IsIn p) (operands_fault k e (map field_named (columns_meaning p c))) (λ q. SomeOf (OperandFault k e q) (map field_named (columns_meaning p c)))
left_sits k e p (one s) = alone p (operand_fault k e (field_named (name s p))) (operand_there k e (name s p))
left_sits k e p (listed s ss) = listed_in p 0 (operands_sit k e p 0 (s ∷ ss))

-- ---- literals

literals_sit : (e : Option Entity) (f : Field) (p : Place) (i : ℕ) (ls : List Scalar) → Sits (IsFrom p i) (bad_literals e f (literals_from p i ls)) (λ q. SomeOf (λ (l : Literal). (is_bad_literal e Equal f l.value ≡ true) × (q ≡ l.place)) (literals_from p i ls))
literals_sit e f p i [] = none_sits (IsFrom p i)
literals_sit e f p i (l ∷ ls) =
    then_from p i (i + 1) (at_fault (is_bad_literal e Equal f l) (p ++ i ∷ [])) (bad_literals e f (literals_from p (i + 1) ls)) (omega arith)
    (at_place (p ++ i ∷ []) (true_sits (is_bad_literal e Equal f l) (p ++ i ∷ []))) (literals_sit e f p (i + 1) ls)

pub array_sits : (e : Option Entity) (fs : List Field) (p : Place) (ls : List Scalar) → Sits (IsIn p) (bad_array e fs (literals_from p 0 ls)) (λ q. SomeLiteral e q fs (literals_from p 0 ls))
array_sits e [] p ls = none_sits (IsIn p)
array_sits e (f ∷ fs) p ls = listed_in p 0 (literals_sit e f p 0 ls)
