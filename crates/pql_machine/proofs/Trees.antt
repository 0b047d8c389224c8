-- Law 1: the machine reads the tokens of each tree as the query that the tree means.
use Rattle.std.proofs.Common.{◌≡◌, ◌∙◌, ℕ, suc, List, [], ◌∷◌, ◌++◌, refl, sym, ap, subst, Bool, true, false, Some, None, append_assoc, if◌then◌else◌}
use Rattle.std.proofs.lemmas.List.{append-nil}
use Rattle.pql_spec.specs.query_spec.declared.parts.Function.{Function}
use Rattle.pql_spec.specs.query_spec.declared.parts.Function.TheVariants.{Count as counts}
use Rattle.pql_spec.specs.query_spec.declared.parts.Literal.{Literal}
use Rattle.pql_spec.specs.query_spec.declared.parts.Name.{Name}
use Rattle.pql_spec.specs.query_spec.declared.parts.Order.{Order}
use Rattle.pql_spec.specs.query_spec.declared.parts.Selected.{Selected}
use Rattle.pql_spec.specs.query_spec.declared.parts.Selected.TheVariants.{Column as plain, Rows as rows_counted, Function as applied}
use Rattle.pql_spec.specs.query_spec.Query.{Filter, subquery, Clause, no_clause, clause}
use Rattle.pql_spec.specs.query_spec.Words.{function_named}
use Rattle.pql_spec.specs.declared.token.Token.{Token}
use Rattle.pql_spec.specs.declared.token.Token.TheVariants.{Word as word, Literal as literal, OpenBracket as open_bracket, CloseBracket as close_bracket, OpenBrace as open_brace, CloseBrace as close_brace, OpenParen as open_paren, CloseParen as close_paren, Comma as comma, In as in_word, Group as group_word, Order as order_word, By as by_word, Limit as limit_word, Offset as offset_word}
use Rattle.pql_spec.specs.Grammar.{Tail, among, among_rows, level_with, pattern, is_count, number_of, Test, compared, differing, matching, null_test, not_null_test, test_text, test_value, names_text, literals_text, Left, one, several, left_text, left_columns, Count, no_count, count, count_text, IsCount, Item, column, row_count, function, item_text, item_value, IsItem, items_text, item_values, AreItems, IsNext, IsFresh, Columns, no_columns, columns, columns_text, columns_value, AreColumns, has_columns, Group, no_group, group_text, MayGroup, Direction, unsaid, said, direction_word, direction_text, descends, Ordered, ordered, ordered_text, ordered_value, orders_text, order_values, OrderPart, no_order, order_text, Page, page_text, empty, with_group, with_order, with_limit, with_offset, add_group, add_order, add_limit, add_offset, page_value, IsPage, join_all, join_any, Operand, test, listed, selected, negated, Ands, no_and, Ors, no_or, or_then, Body, no_body, operand_text, ands_text, ors_text, body_text, operand_value, and_values, or_values, body_value, IsOperand, AreAnds, AreOrs, IsBody, Tree, text, value, IsTree}
use Rattle.pql_spec.specs.Grammar as grammar
use Rattle.pql_machine.proofs.Fresh.{name-fresh}
use Rattle.pql_machine.specs.Machine as machine
use Rattle.pql_machine.specs.Machine.{Pending, Frame, parens, implicit, inner, Head, Owner, outermost, right_of, PagingStage, group_next, group_behind, order_next, order_behind, order_directed, limit_count, behind_limit, offset_count, behind_offset, Column, column_next, column_behind, in_function, in_argument, column_closed, Gone, goes, ends, opens, counts_rows, column_step, inner_goes, head_goes, Mode, operand, left_next, left_behind, in_expected, right, literal_next, literal_behind, inner_columns, inner_brace, State, start, headed, head_columns, head_brace, body, within, done, paged, complete, nothing, negate, finish, region, level_done, from_end, from_offset, from_limit, from_order, is_there, may_group, level_ends, clause_ends, parens_end, region_ends, done_step, step, and_then, read}

module _ (h : Head) (fs : List Frame) (p : Pending) (n : ℕ) where
  read-left : (cs ds : List Name) (d : Name) (r : List Token) → read (within h fs p n (left_next cs)) (names_text ds (word d ∷ close_bracket ∷ r)) ≡ read (within h fs p n (in_expected (cs ++ (ds ++ d ∷ [])))) r
  read-left cs [] d r = refl
  read-left cs (c ∷ ds) d r =
      read-left (cs ++ c ∷ []) ds d r ∙ ap (λ xs. read (within h fs p n (in_expected xs)) r) (append_assoc cs (c ∷ []) (ds ++ d ∷ []))

  read-side : (l : Left) (r : List Token) → read (within h fs p n operand) (left_text l (in_word ∷ r)) ≡ read (within h fs p n (right (left_columns l))) r
  read-side (one c) r = refl
  read-side (several at cs c) r = read-left [] cs c (in_word ∷ r)

  read-literals : (cs : List Name) (at : List ℕ) (ks ls : List Literal) (m : Literal) (r : List Token) → read (within h fs p n (literal_next cs at ks)) (literals_text ls (literal m ∷ close_bracket ∷ r)) ≡ read (finish h fs p n (among cs at (ks ++ (ls ++ m ∷ [])))) r
  read-literals cs at ks [] m r = refl
  read-literals cs at ks (l ∷ ls) m r =
      read-literals cs at (ks ++ l ∷ []) ls m r ∙ ap (λ xs. read (finish h fs p n (among cs at xs)) r) (append_assoc ks (l ∷ []) (ls ++ m ∷ []))

  read-test : (c : Name) (t : Test) (r : List Token) → read (within h fs p n operand) (word c ∷ test_text t r) ≡ read (finish h fs p n (test_value c t)) r
  read-test c (compared op l) r = refl
  read-test c (differing l) r = refl
  read-test c (matching s at) r = refl
  read-test c null_test r = refl
  read-test c not_null_test r = refl

-- ---- columns

-- one more column; what follows is a comma or a bracket
module _ (at : List Selected → Column → State) (law : (cs : List Selected) (k : Column) (d : List Selected) (l : Column) (t : Token) → column_step cs k t ≡ Some (goes d l) → step (at cs k) t ≡ Some (at d l)) where
  one-on : (s q : State) (t : Token) (r : List Token) → step s t ≡ Some q → read s (t ∷ r) ≡ read q r
  one-on s q t r e = ap (λ o. and_then o (λ q. read q r)) e

  word-is : (cs : List Selected) (c : Name) → IsFresh cs (plain c) → column_step cs column_next (word c) ≡ Some (goes cs (column_behind c))
  word-is cs c w = ap (λ b. if b then None else Some (goes cs (column_behind c))) w

  opens-is : (cs : List Selected) (c : Name) (g : Function) → function_named c.text ≡ Some g → IsFresh cs (applied g c) → opens (function_named c.text) cs c ≡ Some (goes cs (in_function c g))
  opens-is cs c g e w = ap (λ o. opens o cs c) e ∙ ap (λ b. if b then None else Some (goes cs (in_function c g))) w

  -- where a column has been read
  abbrev behind-item : Item → Column
  behind-item (column c) = column_behind c
  behind-item (row_count f) = column_closed f rows_counted
  behind-item (function f g c) = column_closed f (applied g c)

  on : (cs : List Selected) (k : Column) (d : List Selected) (l : Column) (t : Token) (r : List Token) → column_step cs k t ≡ Some (goes d l) → read (at cs k) (t ∷ r) ≡ read (at d l) r
  on cs k d l t r e = one-on (at cs k) (at d l) t r (law cs k d l t e)

  read-item : (x : Item) (cs : List Selected) (r : List Token) → IsNext cs x → read (at cs column_next) (item_text x r) ≡ read (at cs (behind-item x)) r
  read-item (column c) cs r i = on cs column_next cs (column_behind c) (word c) r (word-is cs c i.1)
  read-item (row_count f) cs r i =
      on cs column_next cs (column_behind f) (word f) (open_paren ∷ close_paren ∷ r) (word-is cs f (name-fresh f counts f cs i.0 i.1))
      ∙ on cs (column_behind f) cs (in_function f counts) open_paren (close_paren ∷ r) (opens-is cs f counts i.0 i.1)
      ∙ on cs (in_function f counts) cs (column_closed f rows_counted) close_paren r refl
  read-item (function f g c) cs r i =
      on cs column_next cs (column_behind f) (word f) (open_paren ∷ word c ∷ close_paren ∷ r) (word-is cs f (name-fresh f g c cs i.0 i.1))
      ∙ on cs (column_behind f) cs (in_function f g) open_paren (word c ∷ close_paren ∷ r) (opens-is cs f g i.0 i.1)
      ∙ on cs (in_function f g) cs (in_argument f g c) (word c) (close_paren ∷ r) refl
      ∙ on cs (in_argument f g c) cs (column_closed f (applied g c)) close_paren r refl

  comma-item : (x : Item) (cs : List Selected) → column_step cs (behind-item x) comma ≡ Some (goes (cs ++ item_value x ∷ []) column_next)
  comma-item (column c) cs = refl
  comma-item (row_count f) cs = refl
  comma-item (function f g c) cs = refl

  bracket-item : (x : Item) (cs : List Selected) → column_step cs (behind-item x) close_bracket ≡ Some (ends (cs ++ item_value x ∷ []))
  bracket-item (column c) cs = refl
  bracket-item (row_count f) cs = refl
  bracket-item (function f g c) cs = refl

  module _ (closed : List Selected → State) (end : (cs : List Selected) (k : Column) (d : List Selected) (t : Token) → column_step cs k t ≡ Some (ends d) → step (at cs k) t ≡ Some (closed d)) where
    read-items : (xs : List Item) (x : Item) (cs : List Selected) (r : List Token) → AreItems cs xs → IsNext (cs ++ item_values xs) x → read (at cs column_next) (items_text xs (item_text x (close_bracket ∷ r))) ≡ read (closed (cs ++ (item_values xs ++ item_value x ∷ []))) r
    read-items [] x cs r i j =
        read-item x cs (close_bracket ∷ r) (subst (λ z. IsNext z x) (append-nil cs) j)
        ∙ one-on (at cs (behind-item x)) (closed (cs ++ item_value x ∷ [])) close_bracket r (end cs (behind-item x) (cs ++ item_value x ∷ []) close_bracket (bracket-item x cs))
    read-items (y ∷ xs) x cs r i j =
        read-item y cs (comma ∷ items_text xs (item_text x (close_bracket ∷ r))) i.0
        ∙ one-on (at cs (behind-item y)) (at (cs ++ item_value y ∷ []) column_next) comma (items_text xs (item_text x (close_bracket ∷ r))) (law cs (behind-item y) (cs ++ item_value y ∷ []) column_next comma (comma-item y cs))
        ∙ read-items xs x (cs ++ item_value y ∷ []) r i.1 (subst (λ z. IsNext z x) (sym (append_assoc cs (item_value y ∷ []) (item_values xs))) j)
        ∙ ap (λ ds. read (closed ds) r) (append_assoc cs (item_value y ∷ []) (item_values xs ++ item_value x ∷ []))

inner-law : (h : Head) (fs : List Frame) (p : Pending) (n : ℕ) (ls : List Name) (e : Name) (cs : List Selected) (k : Column) (d : List Selected) (l : Column) (t : Token) → column_step cs k t ≡ Some (goes d l) → step (within h fs p n (inner_columns ls e cs k)) t ≡ Some (within h fs p n (inner_columns ls e d l))
inner-law h fs p n ls e cs k d l t x = ap (inner_goes h fs p n ls e) x

inner-end-law : (h : Head) (fs : List Frame) (p : Pending) (n : ℕ) (ls : List Name) (e : Name) (cs : List Selected) (k : Column) (d : List Selected) (t : Token) → column_step cs k t ≡ Some (ends d) → step (within h fs p n (inner_columns ls e cs k)) t ≡ Some (within h fs p n (inner_brace ls e d))
inner-end-law h fs p n ls e cs k d t x = ap (inner_goes h fs p n ls e) x

head-law : (e : Name) (cs : List Selected) (k : Column) (d : List Selected) (l : Column) (t : Token) → column_step cs k t ≡ Some (goes d l) → step (head_columns e cs k) t ≡ Some (head_columns e d l)
head-law e cs k d l t x = ap (head_goes e) x

head-end-law : (e : Name) (cs : List Selected) (k : Column) (d : List Selected) (t : Token) → column_step cs k t ≡ Some (ends d) → step (head_columns e cs k) t ≡ Some (head_brace e d)
head-end-law e cs k d t x = ap (head_goes e) x

-- ---- behind a clause

count_step : (b : Bool) (q : State) → b ≡ true → (if b then Some q else None) ≡ Some q
count_step true q h = refl
count_step false q h = absurd (never h)
  where
    never : false ≡ true → ⊥
    never h = cc

module _ (h : Head) (o : Owner) (k : Clause) where
  -- how a state goes on with these parts
  abbrev EndsAt : State → Tail → Type 0
  EndsAt s g = (r : List Token) → read s (close_brace ∷ r) ≡ read (level_done h o k g) r

  abbrev OffsetAt : State → Tail → Type 0
  OffsetAt s g = EndsAt s g × ((r : List Token) → read s (offset_word ∷ r) ≡ read (paged h o k g offset_count) r)

  abbrev LimitAt : State → Tail → Type 0
  LimitAt s g = OffsetAt s g × ((r : List Token) → read s (limit_word ∷ r) ≡ read (paged h o k g limit_count) r)

  abbrev OrderAt : State → Tail → Type 0
  OrderAt s g = LimitAt s g × ((r : List Token) → read s (order_word ∷ r) ≡ read (paged h o k g machine.order_by) r)

  read-offset : (s : State) (g : Tail) (l : Count) (r : List Token) → IsCount l → OffsetAt s g → read s (count_text offset_word l (close_brace ∷ r)) ≡ read (level_done h o k (add_offset g l)) r
  read-offset s g no_count r i f = f.0 r
  read-offset s g (count d at) r i f =
      f.1 (literal (grammar.number_literal d at) ∷ close_brace ∷ r)
      ∙ ap (λ x. and_then x (λ q. read q (close_brace ∷ r))) (count_step (is_count d) (paged h o k (with_offset g (number_of d)) behind_offset) i)

  read-limit : (s : State) (g : Tail) (m l : Count) (r : List Token) → IsCount m → IsCount l → LimitAt s g → read s (count_text limit_word m (count_text offset_word l (close_brace ∷ r))) ≡ read (level_done h o k (add_offset (add_limit g m) l)) r
  read-limit s g no_count l r i j f = read-offset s g l r j f.0
  read-limit s g (count d at) l r i j f =
      f.1 (literal (grammar.number_literal d at) ∷ count_text offset_word l (close_brace ∷ r))
      ∙ ap (λ x. and_then x (λ q. read q (count_text offset_word l (close_brace ∷ r)))) (count_step (is_count d) (paged h o k (with_limit g (number_of d)) behind_limit) i)
      ∙ read-offset (paged h o k (with_limit g (number_of d)) behind_limit) (with_limit g (number_of d)) l r j ((λ r. refl), (λ r. refl))

  -- where an order's item has been read
  abbrev behind-ordered : List Order → Ordered → PagingStage
  behind-ordered os (ordered c unsaid) = order_behind os c
  behind-ordered os (ordered c (said b)) = order_directed os c b

  read-ordered : (g : Tail) (os : List Order) (x : Ordered) (r : List Token) → read (paged h o k g (order_next os)) (ordered_text x r) ≡ read (paged h o k g (behind-ordered os x)) r
  read-ordered g os (ordered c unsaid) r = refl
  read-ordered g os (ordered c (said true)) r = refl
  read-ordered g os (ordered c (said false)) r = refl

  comma-ordered : (g : Tail) (os : List Order) (x : Ordered) (r : List Token) → read (paged h o k g (behind-ordered os x)) (comma ∷ r) ≡ read (paged h o k g (order_next (os ++ ordered_value x ∷ []))) r
  comma-ordered g os (ordered c unsaid) r = refl
  comma-ordered g os (ordered c (said b)) r = refl

  -- behind the last item, where limit, offset or the brace follow
  limit-ordered : (g : Tail) (os : List Order) (x : Ordered) → LimitAt (paged h o k g (behind-ordered os x)) (with_order g (os ++ ordered_value x ∷ []))
  limit-ordered g os (ordered c unsaid) = (((λ r. refl), (λ r. refl)), (λ r. refl))
  limit-ordered g os (ordered c (said b)) = (((λ r. refl), (λ r. refl)), (λ r. refl))

  read-orders : (g : Tail) (xs : List Ordered) (x : Ordered) (os : List Order) (m l : Count) (r : List Token) → IsCount m → IsCount l → read (paged h o k g (order_next os)) (orders_text xs (ordered_text x (count_text limit_word m (count_text offset_word l (close_brace ∷ r))))) ≡ read (level_done h o k (add_offset (add_limit (with_order g (os ++ (order_values xs ++ ordered_value x ∷ []))) m) l)) r
  read-orders g [] x os m l r i j =
      read-ordered g os x _ ∙ read-limit (paged h o k g (behind-ordered os x)) (with_order g (os ++ ordered_value x ∷ [])) m l r i j (limit-ordered g os x)
  read-orders g (y ∷ xs) x os m l r i j =
      read-ordered g os y (comma ∷ orders_text xs (ordered_text x (count_text limit_word m (count_text offset_word l (close_brace ∷ r)))))
      ∙ comma-ordered g os y (orders_text xs (ordered_text x (count_text limit_word m (count_text offset_word l (close_brace ∷ r)))))
      ∙ read-orders g xs x (os ++ ordered_value y ∷ []) m l r i j
      ∙ ap (λ ps. read (level_done h o k (add_offset (add_limit (with_order g ps) m) l)) r) (append_assoc os (ordered_value y ∷ []) (order_values xs ++ ordered_value x ∷ []))

  read-order : (s : State) (g : Tail) (x : OrderPart) (m l : Count) (r : List Token) → IsCount m → IsCount l → OrderAt s g → read s (order_text x (count_text limit_word m (count_text offset_word l (close_brace ∷ r)))) ≡ read (level_done h o k (add_offset (add_limit (add_order g x) m) l)) r
  read-order s g no_order m l r i j f = read-limit s g m l r i j f.0
  read-order s g (grammar.order_by xs x) m l r i j f =
      f.1 (by_word ∷ orders_text xs (ordered_text x (count_text limit_word m (count_text offset_word l (close_brace ∷ r)))))
      ∙ read-orders g xs x [] m l r i j

  order-group : (g : Tail) (cs : List Name) (c : Name) → OrderAt (paged h o k g (group_behind cs c)) (with_group g (cs ++ c ∷ []))
  order-group g cs c = ((((λ r. refl), (λ r. refl)), (λ r. refl)), (λ r. refl))

  read-group : (g : Tail) (cs ds : List Name) (d : Name) (x : OrderPart) (m l : Count) (r : List Token) → IsCount m → IsCount l → read (paged h o k g (group_next cs)) (names_text ds (word d ∷ order_text x (count_text limit_word m (count_text offset_word l (close_brace ∷ r))))) ≡ read (level_done h o k (add_offset (add_limit (add_order (with_group g (cs ++ (ds ++ d ∷ []))) x) m) l)) r
  read-group g cs [] d x m l r i j = read-order (paged h o k g (group_behind cs d)) (with_group g (cs ++ d ∷ [])) x m l r i j (order-group g cs d)
  read-group g cs (c ∷ ds) d x m l r i j =
      read-group g (cs ++ c ∷ []) ds d x m l r i j
      ∙ ap (λ ps. read (level_done h o k (add_offset (add_limit (add_order (with_group g ps) x) m) l)) r) (append_assoc cs (c ∷ []) (ds ++ d ∷ []))

  -- s stands behind the clause
  read-page : (s : State) (b : Bool) (p : Page) (r : List Token) → IsPage b p → OrderAt s empty → (b ≡ true → (r : List Token) → read s (group_word ∷ r) ≡ read (paged h o k empty machine.group_by) r) → read s (page_text p (close_brace ∷ r)) ≡ read (level_done h o k (page_value p)) r
  read-page s b p r i f v = by_group p.group i.0 b refl
    where
      rest : List Token
      rest = order_text p.order (count_text limit_word p.limit (count_text offset_word p.offset (close_brace ∷ r)))

      by_group : (q : Group) → MayGroup b q → (c : Bool) → b ≡ c → read s (group_text q (order_text p.order (count_text limit_word p.limit (count_text offset_word p.offset (close_brace ∷ r))))) ≡ read (level_done h o k (add_offset (add_limit (add_order (add_group empty q) p.order) p.limit) p.offset)) r
      by_group no_group a c e = read-order s empty p.order p.limit p.offset r i.1 i.2 f
      by_group (grammar.group_by cs d) a true e =
          v e (by_word ∷ names_text cs (word d ∷ order_text p.order (count_text limit_word p.limit (count_text offset_word p.offset (close_brace ∷ r)))))
          ∙ read-group empty [] cs d p.order p.limit p.offset r i.1 i.2
      by_group (grammar.group_by cs d) a false e = absurd (never b a e)
        where
          never : (b : Bool) → MayGroup b (grammar.group_by cs d) → b ≡ false → ⊥
          never true a e = absurd (wrong e)
            where
              wrong : true ≡ false → ⊥
              wrong h = cc
          never false a e = a

-- ---- operands, regions, bodies

-- what is pending behind these groups
abbrev behind_ors : Pending → Ors → Pending
behind_ors p no_or = p
behind_ors p (or_then o t u) = behind_ors (record { any = p.any ++ join_all p.all ∷ []; all = operand_value o ∷ and_values t }) u

pub region-ors : (u : Ors) (any all : List Filter) → region (behind_ors (record { any = any; all = all }) u) ≡ join_any (any ++ join_all all ∷ or_values u)
region-ors no_or any all = refl
region-ors (or_then o t u) any all =
    region-ors u (any ++ join_all all ∷ []) (operand_value o ∷ and_values t)
    ∙ ap join_any (append_assoc any (join_all all ∷ []) (join_all (operand_value o ∷ and_values t) ∷ or_values u))

-- the body of braces is read behind this state
abbrev behind : Head → List Frame → Body → State
behind h fs no_body = body h fs
behind h fs (grammar.body o t u) = done h fs (behind_ors (record { any = []; all = operand_value o ∷ and_values t }) u)

module _ (h : Head) where
  -- a body that begins with an operand
  body-operand : (o : Operand) (fs : List Frame) (r : List Token) → read (body h fs) (operand_text o r) ≡ read (within h fs nothing 0 operand) (operand_text o r)
  body-operand (test c t) fs r = refl
  body-operand (listed (one c) at ls m) fs r = refl
  body-operand (listed (several to cs c) at ls m) fs r = refl
  body-operand (selected (one d) e at xs x b g) fs r = refl
  body-operand (selected (several to ds d) e at xs x b g) fs r = refl
  body-operand (grammar.implicit e b) fs r = refl
  body-operand (negated o) fs r = refl
  body-operand (grammar.parens o t u) fs r = refl

  parens-end : (o : Operand) (t : Ands) (u : Ors) (fs : List Frame) (p : Pending) (n : ℕ) (r : List Token) → read (done h (parens p n ∷ fs) (behind_ors (record { any = []; all = operand_value o ∷ and_values t }) u)) (close_paren ∷ r) ≡ read (finish h fs p n (operand_value (grammar.parens o t u))) r
  parens-end o t u fs p n r = ap (λ f. read (finish h fs p n f) r) (region-ors u [] (operand_value o ∷ and_values t))

  implicit-end : (b : Body) (fs : List Frame) (e : Name) (p : Pending) (n : ℕ) (r : List Token) → read (behind h (implicit e p n ∷ fs) b) (close_brace ∷ r) ≡ read (finish h fs p n (subquery e (body_value b))) r
  implicit-end no_body fs e p n r = refl
  implicit-end (grammar.body o t u) fs e p n r = ap (λ f. read (finish h fs p n (subquery e (clause f))) r) (region-ors u [] (operand_value o ∷ and_values t))

  inner-end : (b : Body) (fs : List Frame) (ls : List Name) (e : Name) (cs : List Selected) (p : Pending) (n : ℕ) (g : Page) (r : List Token) → IsPage true g → read (behind h (inner ls e cs p n ∷ fs) b) (page_text g (close_brace ∷ r)) ≡ read (finish h fs p n (among_rows ls e (level_with e (Some cs) (body_value b) (page_value g)))) r
  inner-end no_body fs ls e cs p n g r i =
      read-page h (right_of fs ls e cs p n) no_clause (body h (inner ls e cs p n ∷ fs)) true g r i ((((λ r. refl), (λ r. refl)), (λ r. refl)), (λ r. refl)) (λ e r. refl)
  inner-end (grammar.body o t u) fs ls e cs p n g r i =
      read-page h (right_of fs ls e cs p n) (clause (region (behind_ors (record { any = []; all = operand_value o ∷ and_values t }) u))) (behind h (inner ls e cs p n ∷ fs) (grammar.body o t u)) true g r i ((((λ r. refl), (λ r. refl)), (λ r. refl)), (λ r. refl)) (λ e r. refl)
      ∙ ap (λ f. read (finish h fs p n (among_rows ls e (level_with e (Some cs) (clause f) (page_value g)))) r) (region-ors u [] (operand_value o ∷ and_values t))

  mutual
    pub read-operand : (o : Operand) (fs : List Frame) (p : Pending) (n : ℕ) (r : List Token) → IsOperand o → read (within h fs p n operand) (operand_text o r) ≡ read (finish h fs p n (operand_value o)) r
    read-operand (test c t) fs p n r i = read-test h fs p n c t r
    read-operand (listed l at ls m) fs p n r i =
        read-side h fs p n l (open_bracket at ∷ literals_text ls (literal m ∷ close_bracket ∷ r))
        ∙ read-literals h fs p n (left_columns l) at [] ls m r
    read-operand (selected l e at xs x b g) fs p n r i =
        read-side h fs p n l (word e ∷ open_bracket at ∷ items_text xs (item_text x (close_bracket ∷ open_brace ∷ body_text b (page_text g (close_brace ∷ r)))))
        ∙ read-items (λ cs k. within h fs p n (inner_columns (left_columns l) e cs k)) (inner-law h fs p n (left_columns l) e) (λ cs. within h fs p n (inner_brace (left_columns l) e cs)) (inner-end-law h fs p n (left_columns l) e) xs x [] (open_brace ∷ body_text b (page_text g (close_brace ∷ r))) i.2 i.3
        ∙ read-body b (inner (left_columns l) e (item_values xs ++ item_value x ∷ []) p n ∷ fs) (page_text g (close_brace ∷ r)) i.0
        ∙ inner-end b fs (left_columns l) e (item_values xs ++ item_value x ∷ []) p n g r i.1
    read-operand (grammar.implicit e b) fs p n r i =
        read-body b (implicit e p n ∷ fs) (close_brace ∷ r) i
        ∙ implicit-end b fs e p n r
    read-operand (negated o) fs p n r i = read-operand o fs p (suc n) r i
    read-operand (grammar.parens o t u) fs p n r i =
        read-operand o (parens p n ∷ fs) nothing 0 (ands_text t (ors_text u (close_paren ∷ r))) i.0
        ∙ read-ands t (parens p n ∷ fs) [] (operand_value o ∷ []) (ors_text u (close_paren ∷ r)) i.1
        ∙ read-ors u (parens p n ∷ fs) [] (operand_value o ∷ and_values t) (close_paren ∷ r) i.2
        ∙ parens-end o t u fs p n r

    read-ands : (t : Ands) (fs : List Frame) (any all : List Filter) (r : List Token) → AreAnds t → read (done h fs (record { any = any; all = all })) (ands_text t r) ≡ read (done h fs (record { any = any; all = all ++ and_values t })) r
    read-ands no_and fs any all r i = ap (λ x. read (done h fs (record { any = any; all = x })) r) (sym (append-nil all))
    read-ands (grammar.and_then o t) fs any all r i =
        read-operand o fs (record { any = any; all = all }) 0 (ands_text t r) i.0
        ∙ read-ands t fs any (all ++ operand_value o ∷ []) r i.1
        ∙ ap (λ x. read (done h fs (record { any = any; all = x })) r) (append_assoc all (operand_value o ∷ []) (and_values t))

    read-ors : (u : Ors) (fs : List Frame) (any all : List Filter) (r : List Token) → AreOrs u → read (done h fs (record { any = any; all = all })) (ors_text u r) ≡ read (done h fs (behind_ors (record { any = any; all = all }) u)) r
    read-ors no_or fs any all r i = refl
    read-ors (or_then o t u) fs any all r i =
        read-operand o fs (record { any = any ++ join_all all ∷ []; all = [] }) 0 (ands_text t (ors_text u r)) i.0
        ∙ read-ands t fs (any ++ join_all all ∷ []) (operand_value o ∷ []) (ors_text u r) i.1
        ∙ read-ors u fs (any ++ join_all all ∷ []) (operand_value o ∷ and_values t) r i.2

    read-body : (b : Body) (fs : List Frame) (r : List Token) → IsBody b → read (body h fs) (body_text b r) ≡ read (behind h fs b) r
    read-body no_body fs r i = refl
    read-body (grammar.body o t u) fs r i =
        body-operand o fs (ands_text t (ors_text u r))
        ∙ read-operand o fs nothing 0 (ands_text t (ors_text u r)) i.0
        ∙ read-ands t fs [] (operand_value o ∷ []) (ors_text u r) i.1
        ∙ read-ors u fs [] (operand_value o ∷ and_values t) r i.2

-- ---- whole queries

read-head : (e : Name) (c : Columns) (r : List Token) → AreColumns c → read start (word e ∷ columns_text c (open_brace ∷ r)) ≡ read (body (record { entity = e; columns = columns_value c }) []) r
read-head e no_columns r i = refl
read-head e (columns at xs x) r i = read-items (λ cs k. head_columns e cs k) (head-law e) (λ cs. head_brace e cs) (head-end-law e) xs x [] (open_brace ∷ r) i.0 i.1

-- a head with columns may be grouped
groups : (b : Bool) (h : Head) (k : Clause) (s : State) → is_there h.columns ≡ b → ((r : List Token) → read s (group_word ∷ r) ≡ and_then (if is_there h.columns then Some (paged h outermost k empty machine.group_by) else None) (λ q. read q r)) → b ≡ true → (r : List Token) → read s (group_word ∷ r) ≡ read (paged h outermost k empty machine.group_by) r
groups b h k s e f t r = f r ∙ ap (λ o. and_then o (λ q. read q r)) (count_step (is_there h.columns) (paged h outermost k empty machine.group_by) (e ∙ t))

outer-end : (h : Head) (b : Body) (c : Bool) (g : Page) → is_there h.columns ≡ c → IsPage c g → read (behind h [] b) (page_text g (close_brace ∷ [])) ≡ Some (level_with h.entity h.columns (body_value b) (page_value g))
outer-end h no_body c g e i =
    read-page h outermost no_clause (body h []) c g [] i ((((λ r. refl), (λ r. refl)), (λ r. refl)), (λ r. refl)) (groups c h no_clause (body h []) e (λ r. refl))
outer-end h (grammar.body o t u) c g e i =
    let k = clause (region (behind_ors (record { any = []; all = operand_value o ∷ and_values t }) u)) in
    read-page h outermost k (behind h [] (grammar.body o t u)) c g [] i ((((λ r. refl), (λ r. refl)), (λ r. refl)), (λ r. refl)) (groups c h k (behind h [] (grammar.body o t u)) e (λ r. refl))
    ∙ ap (λ f. Some (level_with h.entity h.columns (clause f) (page_value g))) (region-ors u [] (operand_value o ∷ and_values t))

pub has-columns : (c : Columns) → is_there (columns_value c) ≡ has_columns c
has-columns no_columns = refl
has-columns (columns at xs x) = refl

-- law 1
pub read-tree : (t : Tree) → IsTree t → read start (text t) ≡ Some (value t)
read-tree t i =
    read-head t.entity t.columns _ i.2
    ∙ read-body (record { entity = t.entity; columns = columns_value t.columns }) t.body [] _ i.0
    ∙ outer-end (record { entity = t.entity; columns = columns_value t.columns }) t.body (has_columns t.columns) t.page (has-columns t.columns) i.1
