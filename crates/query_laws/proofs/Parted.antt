-- Parts of queries that hold none: what is written by a form of the grammar is read as its meaning.
use Rattle.std.proofs.Common.{◌≡◌, ◌∙◌, ◌<◌, ◌≤◌, ℕ, ◌+◌, List, [], ◌∷◌, ◌++◌, true, false, Option, Some, None, Ok, arith, refl, sym, ap, append_assoc, map}
use Rattle.std.specs.Prelude.{nat_lt}
use Rattle.std.specs.List.{list_any, AllByRecursion}
use Rattle.std.specs.Str.Parse.{digits_value}
use Rattle.std.proofs.lemmas.Bool.Decides.{nat_tests}
use Rattle.std.proofs.lemmas.List.{append-nil}
use Rattle.json_machine.specs.text_spec.Json as json
use Rattle.json_machine.specs.text_spec.Json.{Json, Items}
use Rattle.query_spec.specs.declared.parts.Function.{Function}
use Rattle.query_spec.specs.declared.parts.Function.TheVariants.{Count, Sum, Min, Max}
use Rattle.query_spec.specs.declared.parts.Order.{Order}
use Rattle.query_spec.specs.declared.parts.Paging.{Paging}
use Rattle.query_spec.specs.declared.parts.Scalar.{Scalar}
use Rattle.query_spec.specs.declared.parts.Scalar.TheVariants as scalar
use Rattle.query_spec.specs.declared.parts.Selected.{Selected}
use Rattle.query_spec.specs.Ast.{names_at, columns_at, fields_at, left_at, field_at, literal_at, literals_at, selected_at, selection_at, shown_at, order_at, orders_at, count_at, below_limit, paging_at}
use Rattle.query_spec.specs.Parts.{field_named, output_name, is_function, clashes, unpaged, are_digits}
use Rattle.query_spec.specs.Words.{field_word, part_word, function_named, function_name}
use Rattle.query_laws.specs.Grammar.{Columns, one, listed, texts_value, columns_value, names_from, columns_meaning, FieldForm, named, parameter, fact, field_value, field_meaning, literal_value, literals_value, literal, literals_from, ShownForm, column, rows, applied, SelectionForm, single, several, shown_value, shown_values, selection_value, shown_meaning, shown_from, selection_meaning, output, is_applied, collide, AreApart, IsSelection, OrderForm, ascending, directed, PartForm, limit, offset, order_by, order_value, orders_value, parts_value, order_meaning, orders_from, order_of, offset_of, limit_of, paging_from, limits, offsets, order_lists, IsCount, IsPart, IsPaging}

-- ---- names, fields and literals

pub names_written : (p : List ℕ) (i : ℕ) (ss : List (List ℕ)) → names_at p i (texts_value ss) ≡ Ok (names_from p i ss)
names_written p i [] = refl
names_written p i (s ∷ ss) = rw (names_written p (i + 1) ss) refl

pub columns_written : (p : List ℕ) (c : Columns) → columns_at p (columns_value c) ≡ Ok (columns_meaning p c)
columns_written p (one s) = refl
columns_written p (listed s ss) = names_written p 0 (s ∷ ss)

fields_written : (p : List ℕ) (i : ℕ) (ss : List (List ℕ)) → fields_at p i (texts_value ss) ≡ Ok (map field_named (names_from p i ss))
fields_written p i [] = refl
fields_written p i (s ∷ ss) = rw (fields_written p (i + 1) ss) refl

pub left_written : (p : List ℕ) (c : Columns) → left_at p (columns_value c) ≡ Ok (map field_named (columns_meaning p c))
left_written p (one s) = refl
left_written p (listed s ss) = fields_written p 0 (s ∷ ss)

pub field_written : (p : List ℕ) (f : FieldForm) → field_at p (field_value f) ≡ Ok (field_meaning p f)
unfolding field_word
field_written p (named s) = refl
field_written p (parameter s) = refl
field_written p (fact s) = refl

pub literal_written : (p : List ℕ) (l : Scalar) → literal_at p (literal_value l) ≡ Ok (literal p l)
literal_written p (scalar.Text s) = refl
literal_written p (scalar.Num s) = refl
literal_written p (scalar.Bool b) = refl

pub literals_written : (p : List ℕ) (i : ℕ) (ls : List Scalar) → literals_at p i (literals_value ls) ≡ Ok (literals_from p i ls)
literals_written p i [] = refl
literals_written p i (l ∷ ls) = rw (literal_written (p ++ i ∷ []) l, literals_written p (i + 1) ls) refl

-- ---- what is shown

-- the outputs of the forms, wherever these stand
abbrev pub Shows : List ShownForm → List Selected → Type 0
Shows [] [] = Unit {0}
Shows [] (x ∷ xs) = ⊥
Shows (s ∷ ss) [] = ⊥
Shows (s ∷ ss) (x ∷ xs) = (output_name x ≡ output s) × (is_function x ≡ is_applied s) × Shows ss xs

pub shows-more : (ss : List ShownForm) (xs : List Selected) (s : ShownForm) (p : List ℕ) → Shows ss xs → Shows (ss ++ s ∷ []) (xs ++ shown_meaning p s ∷ [])
shows-more [] [] (column s) p h = (refl, refl, tt)
shows-more [] [] rows p h = (refl, refl, tt)
shows-more [] [] (applied f s) p h = (refl, refl, tt)
shows-more (t ∷ ss) (x ∷ xs) s p h = (h.0, h.1, shows-more ss xs s p h.2)
shows-more [] (x ∷ xs) s p h = absurd h
shows-more (t ∷ ss) [] s p h = absurd h

-- the reader tells collisions from the outputs so far
any-same : (s : ShownForm) (y : Selected) → output_name y ≡ output s → is_function y ≡ is_applied s → (ss : List ShownForm) (xs : List Selected) → Shows ss xs → list_any (clashes y) xs ≡ list_any (collide s) ss
any-same s y n f [] [] h = refl
any-same s y n f (t ∷ ss) (x ∷ xs) h = rw (n, f, h.0, h.1, any-same s y n f ss xs h.2) refl
any-same s y n f [] (x ∷ xs) h = absurd h
any-same s y n f (t ∷ ss) [] h = absurd h

pub clash-same : (s : ShownForm) (p : List ℕ) (ss : List ShownForm) (xs : List Selected) → Shows ss xs → list_any (clashes (shown_meaning p s)) xs ≡ list_any (collide s) ss
clash-same (column s) p ss xs h = any-same (column s) (shown_meaning p (column s)) refl refl ss xs h
clash-same rows p ss xs h = any-same rows (shown_meaning p rows) refl refl ss xs h
clash-same (applied f s) p ss xs h = any-same (applied f s) (shown_meaning p (applied f s)) refl refl ss xs h

pub function_known : (f : Function) → function_named (function_name f) ≡ Some f
unfolding function_named
function_known Count = refl
function_known Sum = refl
function_known Min = refl
function_known Max = refl

selected_written : (p : List ℕ) (earlier : List Selected) (s : ShownForm) → list_any (clashes (shown_meaning p s)) earlier ≡ false → selected_at p earlier (shown_value s) ≡ Ok (shown_meaning p s)
unfolding function_named
selected_written p earlier (column s) h = rw h refl
selected_written p earlier rows h = rw h refl
selected_written p earlier (applied f s) h = rw (function_known f, h) refl

selection_written : (p : List ℕ) (i : ℕ) (es : List ShownForm) (earlier : List Selected) (ss : List ShownForm) → Shows es earlier → AreApart es ss → selection_at p i earlier (shown_values ss) ≡ Ok (earlier ++ shown_from p i ss)
selection_written p i es earlier [] h a = ap Ok (sym (append-nil earlier))
selection_written p i es earlier (s ∷ ss) h a =
    let apart : list_any (clashes (shown_meaning (p ++ i ∷ []) s)) earlier ≡ false = clash-same s (p ++ i ∷ []) es earlier h ∙ a.0 in
    rw (selected_written (p ++ i ∷ []) earlier s apart)
    (selection_written p (i + 1) (es ++ s ∷ []) (earlier ++ shown_meaning (p ++ i ∷ []) s ∷ []) ss (shows-more es earlier s (p ++ i ∷ []) h) a.1
    ∙ ap Ok (append_assoc earlier (shown_meaning (p ++ i ∷ []) s ∷ []) (shown_from p (i + 1) ss)))

pub shown_written : (p : List ℕ) (s : SelectionForm) → IsSelection s → shown_at p (selection_value s) ≡ Ok (selection_meaning p s)
shown_written p (single s) h = refl
shown_written p (several s ss) h = selection_written p 0 [] [] (s ∷ ss) tt h

-- ---- paging

count_written : (p n : List ℕ) → IsCount n → count_at p (json.number n) ≡ Ok (digits_value 10 n)
count_written p n h = let digits : are_digits n ≡ true = h.0 in rw digits (below p (digits_value 10 n) h.1)
  where
    below : (p : List ℕ) (v : ℕ) → v < 9223372036854775808 → below_limit p v ≡ Ok v
    below p v h = let e : nat_lt v 9223372036854775808 ≡ true = grind (arith, nat_tests) in rw e refl

order_written : (p : List ℕ) (o : OrderForm) → order_at p (order_value o) ≡ Ok (order_meaning p o)
order_written p (ascending s) = refl
order_written p (directed s true) = refl
order_written p (directed s false) = refl

orders_written : (p : List ℕ) (i : ℕ) (os : List OrderForm) → orders_at p i (orders_value os) ≡ Ok (orders_from p i os)
orders_written p i [] = refl
orders_written p i (o ∷ os) = rw (order_written (p ++ i ∷ []) o, orders_written p (i + 1) os) refl

abbrev pub paging : List Order → Option ℕ → Option ℕ → Paging
paging os o l = record { order = os; offset = o; limit = l; include_total = false }

-- what stands already, and else what comes
abbrev pub or_order : List Order → List Order → List Order
or_order [] ys = ys
or_order (x ∷ xs) ys = x ∷ xs

abbrev pub or_number : Option ℕ → Option ℕ → Option ℕ
or_number None o = o
or_number (Some n) o = Some n

abbrev pub has_number : Option ℕ → ℕ
has_number None = 0
has_number (Some n) = 1

abbrev pub has_order : List Order → ℕ
has_order [] = 0
has_order (x ∷ xs) = 1

paging_goes : (p : List ℕ) (i : ℕ) (os : List Order) (o l : Option ℕ) (gs : List PartForm) → AllByRecursion IsPart gs → has_order os + order_lists gs ≤ 1 → has_number o + offsets gs ≤ 1 → has_number l + limits gs ≤ 1 → paging_at p i (paging os o l) (parts_value gs) ≡ Ok (paging (or_order os (order_of p i gs)) (or_number o (offset_of gs)) (or_number l (limit_of gs)))
unfolding part_word
paging_goes p i [] None None [] a x y z = refl
paging_goes p i [] None (Some l) [] a x y z = refl
paging_goes p i [] (Some o) None [] a x y z = refl
paging_goes p i [] (Some o) (Some l) [] a x y z = refl
paging_goes p i (q ∷ os) None None [] a x y z = refl
paging_goes p i (q ∷ os) None (Some l) [] a x y z = refl
paging_goes p i (q ∷ os) (Some o) None [] a x y z = refl
paging_goes p i (q ∷ os) (Some o) (Some l) [] a x y z = refl
paging_goes p i os o None (limit n ∷ gs) a x y z =
    rw (count_written ((p ++ i ∷ []) ++ 1 ∷ []) n a.0)
    (paging_goes p (i + 1) os o (Some (digits_value 10 n)) gs a.1 x y (omega arith))
paging_goes p i os o (Some l) (limit n ∷ gs) a x y z = absurd (omega arith)
paging_goes p i os None l (offset n ∷ gs) a x y z =
    rw (count_written ((p ++ i ∷ []) ++ 1 ∷ []) n a.0)
    (paging_goes p (i + 1) os (Some (digits_value 10 n)) l gs a.1 x (omega arith) z)
paging_goes p i os (Some o) l (offset n ∷ gs) a x y z = absurd (omega arith)
paging_goes p i [] o l (order_by q qs ∷ gs) a x y z =
    rw (orders_written ((p ++ i ∷ []) ++ 1 ∷ []) 0 (q ∷ qs))
    (paging_goes p (i + 1) (orders_from ((p ++ i ∷ []) ++ 1 ∷ []) 0 (q ∷ qs)) o l gs a.1 (omega arith) y z)
paging_goes p i (r ∷ os) o l (order_by q qs ∷ gs) a x y z = absurd (omega arith)

pub paging_written : (p : List ℕ) (i : ℕ) (gs : List PartForm) → IsPaging gs → paging_at p i unpaged (parts_value gs) ≡ Ok (paging_from p i gs)
paging_written p i gs h = paging_goes p i [] None None gs h.parts (omega arith) (omega arith) (omega arith)
