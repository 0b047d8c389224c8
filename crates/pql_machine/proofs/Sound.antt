-- Law 3: what the machine reads has a tree. `Rest` says what is left of the tokens behind each state: within an operand,
use Rattle.std.proofs.Common.{◌≡◌, ◌∙◌, ◌⊎◌, inl, inr, ℕ, suc, List, [], ◌∷◌, ◌++◌, refl, sym, ap, subst, Bool, true, false, Option, Some, None, append_assoc}
use Rattle.std.specs.List.{list_any}
use Rattle.pql_spec.specs.query_spec.Ast.{order}
use Rattle.pql_spec.specs.query_spec.declared.parts.Function.{Function}
use Rattle.pql_spec.specs.query_spec.declared.parts.Function.TheVariants.{Count as counts, Sum as sums, Min as least_of, Max as greatest_of}
use Rattle.pql_spec.specs.query_spec.declared.parts.Literal.{Literal}
use Rattle.pql_spec.specs.query_spec.declared.parts.Name.{Name}
use Rattle.pql_spec.specs.query_spec.declared.parts.Order.{Order}
use Rattle.pql_spec.specs.query_spec.declared.parts.Scalar.{Scalar}
use Rattle.pql_spec.specs.query_spec.declared.parts.Scalar.TheVariants.{Text as string, Num as number, Bool as boolean}
use Rattle.pql_spec.specs.query_spec.declared.parts.Selected.{Selected}
use Rattle.pql_spec.specs.query_spec.declared.parts.Selected.TheVariants.{Column as plain, Rows as rows_counted, Function as applied}
use Rattle.pql_spec.specs.query_spec.Parts.{field_named, clashes}
use Rattle.pql_spec.specs.query_spec.Query.{Filter, matches, subquery, Clause, no_clause, clause, Level}
use Rattle.pql_spec.specs.query_spec.Words.{function_named}
use Rattle.pql_spec.specs.declared.token.Token.{Token}
use Rattle.pql_spec.specs.declared.token.Token.TheVariants.{Word as word, Literal as literal, OpenBracket as open_bracket, CloseBracket as close_bracket, OpenBrace as open_brace, CloseBrace as close_brace, OpenParen as open_paren, CloseParen as close_paren, Comma as comma, Bang as bang, Tilde as tilde, Comparison as comparison, Differs as differs, And as and_word, Or as or_word, In as in_word, Is as is_word, Not as not_word, Null as null_word, Group as group_word, Order as order_word, By as by_word, Asc as asc_word, Desc as desc_word, Limit as limit_word, Offset as offset_word}
use Rattle.pql_spec.specs.Grammar.{Tail, among, among_rows, level_with, pattern, is_count, number_of, text_literal, number_literal, Test, compared, differing, matching, null_test, not_null_test, names_text, literals_text, Left, one, several, left_text, left_columns, Count, no_count, count, count_text, IsCount, Item, column, row_count, function, item_text, item_value, IsItem, items_text, item_values, AreItems, IsNext, IsFresh, Columns, no_columns, columns, columns_text, columns_value, AreColumns, has_columns, Group, no_group, group_text, MayGroup, Direction, unsaid, said, direction_word, Ordered, ordered, ordered_text, ordered_value, orders_text, order_values, OrderPart, no_order, order_text, Page, page_text, empty, with_group, with_order, with_limit, with_offset, add_group, add_order, add_limit, add_offset, page_value, IsPage, join_all, join_any, Operand, test, listed, selected, negated, Ands, no_and, Ors, no_or, or_then, Body, no_body, operand_text, ands_text, ors_text, body_text, operand_value, and_values, or_values, body_value, IsOperand, AreAnds, AreOrs, IsBody, Tree, text, value, IsTree}
use Rattle.pql_spec.specs.Grammar as grammar
use Rattle.pql_machine.specs.Machine.{Pending, Frame, parens, implicit, inner, Head, Owner, outermost, right_of, PagingStage, group_by, group_next, group_behind, order_by, order_next, order_behind, order_directed, limit_count, behind_limit, offset_count, behind_offset, Column, column_next, column_behind, in_function, in_argument, column_closed, Gone, goes, ends, opens, counts_rows, column_step, inner_goes, head_goes, Mode, operand, named, compare_to, differ_from, match_with, null_or_not, not_null, left_next, left_behind, in_expected, right, literal_next, literal_behind, inner_bracket, inner_columns, inner_brace, State, start, headed, head_columns, head_brace, body, within, done, paged, complete, nothing, negate, finish, region, level_done, from_end, from_offset, from_limit, from_order, is_there, may_group, level_ends, clause_ends, parens_end, operand_begins, with_text, with_count, mode_step, stage_step, body_step, region_ends, done_step, step, ended, read}
use Rattle.std.proofs.lemmas.List.{append-nil}
use Rattle.pql_machine.proofs.Trees.{has-columns}
use Rattle.pql_spec.proofs.of_plain_laws.Options.{none_some, some_same, choose}
use Rattle.pql_machine.proofs.Cases.{bound}

-- that its tokens so far and those that are left begin with the tokens of an operand; behind one, what may follow it in each
-- region that is open.

-- ---- what is left

abbrev push : Pending → ℕ → Filter → Pending
push p n f = record { any = p.any; all = p.all ++ negate n f ∷ [] }

-- the filter of a region where these follow
abbrev joins : Pending → Ands → Ors → Filter
joins p t u = join_any (p.any ++ join_all (p.all ++ and_values t) ∷ or_values u)

abbrev Behind : Token → (List Token → Type 0) → List Token → Type 0
Behind t P r = (rest : List Token) × (r ≡ t ∷ rest) × P rest

abbrev Region : Pending → (Filter → List Token → Type 0) → List Token → Type 0
Region p P r = (t : Ands) × (u : Ors) × (rest : List Token) × AreAnds t × AreOrs u × (r ≡ ands_text t (ors_text u rest)) × P (joins p t u) rest

abbrev Pages : Bool → (Tail → List Token → Type 0) → List Token → Type 0
Pages b P r = (g : Page) × (rest : List Token) × IsPage b g × (r ≡ page_text g (close_brace ∷ rest)) × P (page_value g) rest

-- v is the whole query
abbrev After : Head → List Frame → Pending → List Token → Level → Type 0
After h [] p r v = Region p (λ f x. Pages (is_there h.columns) (λ g y. (y ≡ []) × (v ≡ level_with h.entity h.columns (clause f) g)) x) r
After h (parens s n ∷ fs) p r v = Region p (λ f x. Behind close_paren (λ y. After h fs (push s n f) y v) x) r
After h (implicit e s n ∷ fs) p r v = Region p (λ f x. Behind close_brace (λ y. After h fs (push s n (subquery e (clause f))) y v) x) r
After h (inner ls e cs s n ∷ fs) p r v = Region p (λ f x. Pages true (λ g y. After h fs (push s n (among_rows ls e (level_with e (Some cs) (clause f) g))) y v) x) r

-- behind a level
abbrev Owned : Head → Owner → Clause → Tail → List Token → Level → Type 0
Owned h outermost k g r v = (r ≡ []) × (v ≡ level_with h.entity h.columns k g)
Owned h (right_of fs ls e cs p n) k g r v = After h fs (push p n (among_rows ls e (level_with e (Some cs) k g))) r v

-- behind what stands in braces
abbrev Braced : Head → List Frame → Clause → List Token → Level → Type 0
Braced h [] k r v = Pages (is_there h.columns) (λ g y. Owned h outermost k g y v) r
Braced h (parens s n ∷ fs) k r v = ⊥
Braced h (implicit e s n ∷ fs) k r v = Behind close_brace (λ y. After h fs (push s n (subquery e k)) y v) r
Braced h (inner ls e cs s n ∷ fs) k r v = Pages true (λ g y. Owned h (right_of fs ls e cs s n) k g y v) r

-- behind the filter of a region
abbrev Closed : Head → List Frame → Level → Filter → List Token → Type 0
Closed h [] v f r = Braced h [] (clause f) r v
Closed h (parens s n ∷ fs) v f r = Behind close_paren (λ y. After h fs (push s n f) y v) r
Closed h (implicit e s n ∷ fs) v f r = Braced h (implicit e s n ∷ fs) (clause f) r v
Closed h (inner ls e cs s n ∷ fs) v f r = Braced h (inner ls e cs s n ∷ fs) (clause f) r v

-- the tokens begin with those of an operand
abbrev Begun : Head → List Frame → Pending → ℕ → List Token → Level → Type 0
Begun h fs p n r v = (o : Operand) × (rest : List Token) × IsOperand o × (r ≡ operand_text o rest) × After h fs (push p n (operand_value o)) rest v

abbrev Sided : List Name → (Left → Type 0) → Type 0
Sided cs P = (l : Left) → left_columns l ≡ cs → P l

-- columns of a level: those so far, in a token list of which Q tells, and the one that is read
abbrev Partial : (List Token → Type 0) → List Selected → Column → List Token → Type 0
Partial Q ds column_next r = Q r
Partial Q ds (column_behind c) r = IsFresh ds (plain c) → Q (word c ∷ r)
Partial Q ds (in_function c g) r = function_named c.text ≡ Some g → IsFresh ds (applied g c) → Q (word c ∷ open_paren ∷ r)
Partial Q ds (in_argument c g d) r =
    function_named c.text ≡ Some g → IsFresh ds (applied g d) → Q (word c ∷ open_paren ∷ word d ∷ r)
Partial Q ds (column_closed c x) r = (y : Item) → IsItem y → item_value y ≡ x → IsFresh ds x → Q (item_text y r)

abbrev ColumnsRest : (List Token → Type 0) → List Selected → Column → List Token → Type 0
ColumnsRest Q ds k r = (xs : List Item) → item_values xs ≡ ds → AreItems [] xs → Partial (λ y. Q (items_text xs y)) ds k r

abbrev ColumnsEnd : (List Token → Type 0) → List Selected → List Token → Type 0
ColumnsEnd Q es r = (xs : List Item) (x : Item) → AreItems [] xs → IsNext (item_values xs) x → item_values xs ++ item_value x ∷ [] ≡ es → Q (items_text xs (item_text x (close_bracket ∷ r)))

-- an operand whose level behind `in` is read, with its columns
abbrev InColumns : Head → List Frame → Pending → ℕ → List Name → Name → List ℕ → Level → List Token → Type 0
InColumns h fs p n cs e at v y = Sided cs (λ l. Begun h fs p n (left_text l (in_word ∷ word e ∷ open_bracket at ∷ y)) v)

abbrev InMode : Head → List Frame → Pending → ℕ → Mode → List Token → Level → Type 0
InMode h fs p n operand r v = Begun h fs p n r v
InMode h fs p n (named c) r v = Begun h fs p n (word c ∷ r) v
InMode h fs p n (compare_to c op) r v = Begun h fs p n (word c ∷ comparison op ∷ r) v
InMode h fs p n (differ_from c) r v = Begun h fs p n (word c ∷ differs ∷ r) v
InMode h fs p n (match_with c) r v = Begun h fs p n (word c ∷ tilde ∷ r) v
InMode h fs p n (null_or_not c) r v = Begun h fs p n (word c ∷ is_word ∷ r) v
InMode h fs p n (not_null c) r v = Begun h fs p n (word c ∷ is_word ∷ not_word ∷ r) v
InMode h fs p n (left_next cs) r v = (at : List ℕ) → Begun h fs p n (open_bracket at ∷ names_text cs r) v
InMode h fs p n (left_behind cs c) r v = (at : List ℕ) → Begun h fs p n (open_bracket at ∷ names_text cs (word c ∷ r)) v
InMode h fs p n (in_expected cs) r v = Sided cs (λ l. Begun h fs p n (left_text l r) v)
InMode h fs p n (right cs) r v = Sided cs (λ l. Begun h fs p n (left_text l (in_word ∷ r)) v)
InMode h fs p n (literal_next cs at ls) r v = Sided cs (λ l. Begun h fs p n (left_text l (in_word ∷ open_bracket at ∷ literals_text ls r)) v)
InMode h fs p n (literal_behind cs at ls m) r v = Sided cs (λ l. Begun h fs p n (left_text l (in_word ∷ open_bracket at ∷ literals_text ls (literal m ∷ r))) v)
InMode h fs p n (inner_bracket cs e) r v = Sided cs (λ l. Begun h fs p n (left_text l (in_word ∷ word e ∷ r)) v)
InMode h fs p n (inner_columns cs e ds k) r v = (at : List ℕ) → ColumnsRest (InColumns h fs p n cs e at v) ds k r
InMode h fs p n (inner_brace cs e es) r v = (at : List ℕ) → ColumnsEnd (InColumns h fs p n cs e at v) es r

module _ (h : Head) (o : Owner) (k : Clause) (v : Level) where
  abbrev EndRest : Tail → List Token → Type 0
  EndRest g r = (rest : List Token) × (r ≡ close_brace ∷ rest) × Owned h o k g rest v

  abbrev OffsetRest : Tail → List Token → Type 0
  OffsetRest g r = (l : Count) × (rest : List Token) × IsCount l × (r ≡ count_text offset_word l (close_brace ∷ rest)) × Owned h o k (add_offset g l) rest v

  abbrev LimitRest : Tail → List Token → Type 0
  LimitRest g r = (m : Count) × (x : List Token) × IsCount m × (r ≡ count_text limit_word m x) × OffsetRest (add_limit g m) x

  abbrev OrderRest : Tail → List Token → Type 0
  OrderRest g r = (q : OrderPart) × (x : List Token) × (r ≡ order_text q x) × LimitRest (add_order g q) x

  abbrev Names : Tail → List Name → List Token → Type 0
  Names g cs r = (ds : List Name) × (d : Name) × (x : List Token) × (r ≡ names_text ds (word d ∷ x)) × OrderRest (with_group g (cs ++ (ds ++ d ∷ []))) x

  abbrev Orders : Tail → List Order → List Token → Type 0
  Orders g os r = (ps : List Ordered) × (p : Ordered) × (x : List Token) × (r ≡ orders_text ps (ordered_text p x)) × LimitRest (with_order g (os ++ (order_values ps ++ ordered_value p ∷ []))) x

  abbrev InStage : Tail → PagingStage → List Token → Type 0
  InStage g group_by r = Behind by_word (Names g []) r
  InStage g (group_next cs) r = Names g cs r
  InStage g (group_behind cs c) r = Names g cs (word c ∷ r)
  InStage g order_by r = Behind by_word (Orders g []) r
  InStage g (order_next os) r = Orders g os r
  InStage g (order_behind os c) r = Orders g os (word c ∷ r)
  InStage g (order_directed os c b) r = Orders g os (word c ∷ direction_word b ∷ r)
  InStage g limit_count r = (s : List ℕ) × (at : List ℕ) × (x : List Token) × (is_count s ≡ true) × (r ≡ literal (number_literal s at) ∷ x) × OffsetRest (with_limit g (number_of s)) x
  InStage g behind_limit r = OffsetRest g r
  InStage g offset_count r = (s : List ℕ) × (at : List ℕ) × (rest : List Token) × (is_count s ≡ true) × (r ≡ literal (number_literal s at) ∷ close_brace ∷ rest) × Owned h o k (with_offset g (number_of s)) rest v
  InStage g behind_offset r = EndRest g r

-- what stands in the outermost braces
abbrev Inside : Head → List Token → Level → Type 0
Inside h r v = (b : Body) × (g : Page) × IsBody b × IsPage (is_there h.columns) g × (r ≡ body_text b (page_text g (close_brace ∷ []))) × (v ≡ level_with h.entity h.columns (body_value b) (page_value g))

abbrev Headed : Name → Level → List Token → Type 0
Headed e v r = (c : Columns) × (rest : List Token) × AreColumns c × (r ≡ columns_text c (open_brace ∷ rest)) × Inside (record { entity = e; columns = columns_value c }) rest v

abbrev Rest : State → List Token → Level → Type 0
Rest start r v = (t : Tree) × IsTree t × (r ≡ text t) × (v ≡ value t)
Rest (headed e) r v = Headed e v r
Rest (head_columns e cs k) r v = (at : List ℕ) → ColumnsRest (λ y. Headed e v (open_bracket at ∷ y)) cs k r
Rest (head_brace e cs) r v = (at : List ℕ) → ColumnsEnd (λ y. Headed e v (open_bracket at ∷ y)) cs r
Rest (body h fs) r v = Braced h fs no_clause r v ⊎ Begun h fs nothing 0 r v
Rest (within h fs p n m) r v = InMode h fs p n m r v
Rest (done h fs p) r v = After h fs p r v
Rest (paged h o k g x) r v = InStage h o k v g x r
Rest (complete q) r v = (r ≡ []) × (v ≡ q)

-- ---- tools

names-snoc : (cs : List Name) (c : Name) (r : List Token) → names_text (cs ++ c ∷ []) r ≡ names_text cs (word c ∷ comma ∷ r)
names-snoc [] c r = refl
names-snoc (b ∷ cs) c r = ap (λ x. word b ∷ comma ∷ x) (names-snoc cs c r)

literals-snoc : (ls : List Literal) (m : Literal) (r : List Token) → literals_text (ls ++ m ∷ []) r ≡ literals_text ls (literal m ∷ comma ∷ r)
literals-snoc [] m r = refl
literals-snoc (l ∷ ls) m r = ap (λ x. literal l ∷ comma ∷ x) (literals-snoc ls m r)

item_values-snoc : (xs : List Item) (y : Item) → item_values (xs ++ y ∷ []) ≡ item_values xs ++ item_value y ∷ []
item_values-snoc [] y = refl
item_values-snoc (x ∷ xs) y = ap (λ z. item_value x ∷ z) (item_values-snoc xs y)

items_text-snoc : (xs : List Item) (y : Item) (r : List Token) → items_text (xs ++ y ∷ []) r ≡ items_text xs (item_text y (comma ∷ r))
items_text-snoc [] y r = refl
items_text-snoc (x ∷ xs) y r = ap (λ z. item_text x (comma ∷ z)) (items_text-snoc xs y r)

items-snoc : (xs : List Item) (y : Item) (earlier : List Selected) → AreItems earlier xs → IsNext (earlier ++ item_values xs) y → AreItems earlier (xs ++ y ∷ [])
items-snoc [] y earlier a i = (subst (λ z. IsNext z y) (append-nil earlier) i, tt)
items-snoc (x ∷ xs) y earlier a i =
    (a.0, items-snoc xs y (earlier ++ item_value x ∷ []) a.1 (subst (λ z. IsNext z y) (sym (append_assoc earlier (item_value x ∷ []) (item_values xs))) i))

-- ---- columns

module _ (Q : List Token → Type 0) where
  -- a comma behind a column
  next-item : (ds : List Selected) (x : Item) (r : List Token) → ColumnsRest Q (ds ++ item_value x ∷ []) column_next r → (xs : List Item) → item_values xs ≡ ds → AreItems [] xs → IsNext ds x → Q (items_text xs (item_text x (comma ∷ r)))
  next-item ds x r h xs e a i = subst Q (items_text-snoc xs x r) (h (xs ++ x ∷ []) (item_values-snoc xs x ∙ ap (λ z. z ++ item_value x ∷ []) e) (items-snoc xs x [] a (subst (λ z. IsNext z x) (sym e) i)))

  last-item : (ds : List Selected) (x : Item) (r : List Token) → ColumnsEnd Q (ds ++ item_value x ∷ []) r → (xs : List Item) → item_values xs ≡ ds → AreItems [] xs → IsNext ds x → Q (items_text xs (item_text x (close_bracket ∷ r)))
  last-item ds x r h xs e a i = h xs x a (subst (λ z. IsNext z x) (sym e) i) (ap (λ z. z ++ item_value x ∷ []) e)

  -- what was made of the columns
  abbrev Went : Gone → List Token → Type 0
  Went (goes ds k) r = ColumnsRest Q ds k r
  Went (ends ds) r = ColumnsEnd Q ds r

  went : (a b : Gone) (r : List Token) → Some a ≡ Some b → Went b r → Went a r
  went a b r e h = subst (λ z. Went z r) (some_same a b e) h

  opens-sound : (o : Option Function) (ds : List Selected) (c : Name) (b : Gone) (r : List Token) → function_named c.text ≡ o → opens o ds c ≡ Some b → Went b r → ColumnsRest Q ds (column_behind c) (open_paren ∷ r)
  opens-sound None ds c b r f e h = none_some b e
  opens-sound (Some g) ds c b r f e h = choose (list_any (clashes (applied g c)) ds) None (Some (goes ds (in_function c g))) (Some b) (ColumnsRest Q ds (column_behind c) (open_paren ∷ r)) e
      (λ i x. none_some b x)
      (λ i x xs y a w. went (goes ds (in_function c g)) b r x h xs y a f i)

  counts-sound : (g : Function) (ds : List Selected) (c : Name) (b : Gone) (r : List Token) → counts_rows g ds c ≡ Some b → Went b r → ColumnsRest Q ds (in_function c g) (close_paren ∷ r)
  counts-sound counts ds c b r e h = λ xs x a f w. went (goes ds (column_closed c rows_counted)) b r e h xs x a (row_count c) f refl w
  counts-sound sums ds c b r e h = none_some b e
  counts-sound least_of ds c b r e h = none_some b e
  counts-sound greatest_of ds c b r e h = none_some b e

  column-sound : (ds : List Selected) (k : Column) (t : Token) (b : Gone) (r : List Token) → column_step ds k t ≡ Some b → Went b r → ColumnsRest Q ds k (t ∷ r)
  column-sound ds column_next (word c) b r e h = choose (list_any (clashes (plain c)) ds) None (Some (goes ds (column_behind c))) (Some b) (ColumnsRest Q ds column_next (word c ∷ r)) e
      (λ i x. none_some b x)
      (λ i x xs y a. went (goes ds (column_behind c)) b r x h xs y a i)
  column-sound ds column_next _ b r e h = none_some b e
  column-sound ds (column_behind c) comma b r e h = λ xs x a w. next-item ds (column c) r (went (goes (ds ++ plain c ∷ []) column_next) b r e h) xs x a (tt, w)
  column-sound ds (column_behind c) close_bracket b r e h = λ xs x a w. last-item ds (column c) r (went (ends (ds ++ plain c ∷ [])) b r e h) xs x a (tt, w)
  column-sound ds (column_behind c) open_paren b r e h = opens-sound (function_named c.text) ds c b r refl e h
  column-sound ds (column_behind c) _ b r e h = none_some b e
  column-sound ds (in_function c g) (word d) b r e h = went (goes ds (in_argument c g d)) b r e h
  column-sound ds (in_function c g) close_paren b r e h = counts-sound g ds c b r e h
  column-sound ds (in_function c g) _ b r e h = none_some b e
  column-sound ds (in_argument c g d) close_paren b r e h = λ xs x a f w. went (goes ds (column_closed c (applied g d))) b r e h xs x a (function c g d) f refl w
  column-sound ds (in_argument c g d) _ b r e h = none_some b e
  column-sound ds (column_closed c y) comma b r e h = λ xs x a z i w u.
      next-item ds z r (subst (λ q. ColumnsRest Q (ds ++ q ∷ []) column_next r) (sym w) (went (goes (ds ++ y ∷ []) column_next) b r e h)) xs x a (i, subst (IsFresh ds) (sym w) u)
  column-sound ds (column_closed c y) close_bracket b r e h = λ xs x a z i w u.
      last-item ds z r (subst (λ q. ColumnsEnd Q (ds ++ q ∷ []) r) (sym w) (went (ends (ds ++ y ∷ [])) b r e h)) xs x a (i, subst (IsFresh ds) (sym w) u)
  column-sound ds (column_closed c y) _ b r e h = none_some b e

module _ (v : Level) where
  arrive : (s q : State) (r : List Token) → Some s ≡ Some q → Rest q r v → Rest s r v
  arrive s q r e h = subst (λ x. Rest x r v) (some_same s q e) h

  begun_as : (h : Head) (fs : List Frame) (p : Pending) (n : ℕ) (x y : List Token) → x ≡ y → Begun h fs p n x v → Begun h fs p n y v
  begun_as h fs p n x y e b = subst (λ z. Begun h fs p n z v) e b

  -- an operand that is read to its end
  ended_operand : (h : Head) (fs : List Frame) (p : Pending) (n : ℕ) (o : Operand) (r : List Token) → IsOperand o → After h fs (push p n (operand_value o)) r v → Begun h fs p n (operand_text o r) v
  ended_operand h fs p n o r i a = (o, r, i, refl, a)

  -- ---- paging

  counted : (s : Scalar) (f : ℕ → State) (q : State) (r : List Token) (P : Type 0) → with_count s f ≡ Some q → Rest q r v → ((d : List ℕ) → is_count d ≡ true → s ≡ number d → Rest (f (number_of d)) r v → P) → P
  counted (number d) f q r P e a go = choose (is_count d) (Some (f (number_of d))) None (Some q) P e (λ i g. go d i refl (arrive (f (number_of d)) q r g a)) (λ i g. none_some q g)
  counted (string d) f q r P e a go = none_some q e
  counted (boolean d) f q r P e a go = none_some q e

  literal-is : (l : Literal) (s : Scalar) → l.value ≡ s → literal l ≡ literal (record { value = s; place = l.place })
  literal-is l s e = ap (λ x. literal (record { value = x; place = l.place })) e

  level_done-owned : (h : Head) (o : Owner) (k : Clause) (g : Tail) (r : List Token) → Rest (level_done h o k g) r v → Owned h o k g r v
  level_done-owned h outermost k g r a = a
  level_done-owned h (right_of fs ls e cs p n) k g r a = a

  module _ (h : Head) (o : Owner) (k : Clause) where
    from_end-sound : (g : Tail) (t : Token) (q : State) (r : List Token) → from_end h o k g t ≡ Some q → Rest q r v → EndRest h o k v g (t ∷ r)
    from_end-sound g close_brace q r e a = (r, refl, level_done-owned h o k g r (arrive (level_done h o k g) q r e a))
    from_end-sound g _ q r e a = none_some q e

    from_offset-sound : (g : Tail) (t : Token) (q : State) (r : List Token) → from_offset h o k g t ≡ Some q → Rest q r v → OffsetRest h o k v g (t ∷ r)
    from_offset-sound g offset_word q r e a =
        let b = arrive (paged h o k g offset_count) q r e a in
        (count b.0 b.1, b.2, b.3, ap (λ x. offset_word ∷ x) b.4, b.5)
    from_offset-sound g t q r e a =
        let b = from_end-sound g t q r e a in
        (no_count, b.0, tt, b.1, b.2)

    from_limit-sound : (g : Tail) (t : Token) (q : State) (r : List Token) → from_limit h o k g t ≡ Some q → Rest q r v → LimitRest h o k v g (t ∷ r)
    from_limit-sound g limit_word q r e a =
        let b = arrive (paged h o k g limit_count) q r e a in
        (count b.0 b.1, b.2, b.3, ap (λ x. limit_word ∷ x) b.4, b.5)
    from_limit-sound g t q r e a = (no_count, t ∷ r, tt, refl, from_offset-sound g t q r e a)

    from_order-sound : (g : Tail) (t : Token) (q : State) (r : List Token) → from_order h o k g t ≡ Some q → Rest q r v → OrderRest h o k v g (t ∷ r)
    from_order-sound g order_word q r e a =
        let b = arrive (paged h o k g order_by) q r e a in
        let c = b.2 in
        (grammar.order_by c.0 c.1, c.2, ap (λ x. order_word ∷ x) (b.1 ∙ ap (λ x. by_word ∷ x) c.3), c.4)
    from_order-sound g t q r e a = (no_order, t ∷ r, refl, from_limit-sound g t q r e a)

    pages_of : (b : Bool) (q : Group) (x r : List Token) → MayGroup b q → r ≡ group_text q x → OrderRest h o k v (add_group empty q) x → Pages b (λ g y. Owned h o k g y v) r
    pages_of b q x r i e a =
        let m = a.3 in
        let l = m.4 in (
          record { group = q; order = a.0; limit = m.0; offset = l.0 },
          l.1,
          (i, m.2, l.2),
          e ∙ ap (group_text q) (a.2 ∙ ap (order_text a.0) (m.3 ∙ ap (count_text limit_word m.0) l.3)),
          l.4,
        )

    may : (b : Bool) (cs : List Name) (c : Name) → b ≡ true → MayGroup b (grammar.group_by cs c)
    may true cs c e = tt
    may false cs c e = absurd (wrong e)
      where
        wrong : false ≡ true → ⊥
        wrong h = cc

    level_ends-sound : (t : Token) (q : State) (r : List Token) → level_ends h o k t ≡ Some q → Rest q r v → Pages (may_group h o) (λ g y. Owned h o k g y v) (t ∷ r)
    level_ends-sound group_word q r e a = choose (may_group h o) (Some (paged h o k empty group_by)) None (Some q) (Pages (may_group h o) (λ g y. Owned h o k g y v) (group_word ∷ r)) e
        (λ i x.
        let b = arrive (paged h o k empty group_by) q r x a in
        let c = b.2 in
        pages_of (may_group h o) (grammar.group_by c.0 c.1) c.2 (group_word ∷ r) (may (may_group h o) c.0 c.1 i) (ap (λ x. group_word ∷ x) (b.1 ∙ ap (λ x. by_word ∷ x) c.3)) c.4)
        (λ i x. none_some q x)
    level_ends-sound t q r e a = pages_of (may_group h o) no_group (t ∷ r) (t ∷ r) tt refl (from_order-sound empty t q r e a)

    -- one more column of a group, one more of an order
    more_names : (g : Tail) (cs : List Name) (c : Name) (r : List Token) → Names h o k v g (cs ++ c ∷ []) r → Names h o k v g cs (word c ∷ comma ∷ r)
    more_names g cs c r a = (
      c ∷ a.0,
      a.1,
      a.2,
      ap (λ x. word c ∷ comma ∷ x) a.3,
      subst (λ ds. OrderRest h o k v (with_group g ds) a.2) (append_assoc cs (c ∷ []) (a.0 ++ a.1 ∷ [])) a.4,
    )

    more_orders : (g : Tail) (os : List Order) (x : Ordered) (r : List Token) → Orders h o k v g (os ++ ordered_value x ∷ []) r → Orders h o k v g os (ordered_text x (comma ∷ r))
    more_orders g os x r a = (
      x ∷ a.0,
      a.1,
      a.2,
      ap (λ y. ordered_text x (comma ∷ y)) a.3,
      subst (λ ps. LimitRest h o k v (with_order g ps) a.2) (append_assoc os (ordered_value x ∷ []) (order_values a.0 ++ ordered_value a.1 ∷ [])) a.4,
    )

    stage-sound : (g : Tail) (x : PagingStage) (t : Token) (q : State) (r : List Token) → stage_step h o k g x t ≡ Some q → Rest q r v → InStage h o k v g x (t ∷ r)
    stage-sound g group_by by_word q r e a = (r, refl, arrive (paged h o k g (group_next [])) q r e a)
    stage-sound g group_by _ q r e a = none_some q e
    stage-sound g (group_next cs) (word c) q r e a = arrive (paged h o k g (group_behind cs c)) q r e a
    stage-sound g (group_next cs) _ q r e a = none_some q e
    stage-sound g (group_behind cs c) comma q r e a = more_names g cs c r (arrive (paged h o k g (group_next (cs ++ c ∷ []))) q r e a)
    stage-sound g (group_behind cs c) t q r e a = ([], c, t ∷ r, refl, from_order-sound (with_group g (cs ++ c ∷ [])) t q r e a)
    stage-sound g order_by by_word q r e a = (r, refl, arrive (paged h o k g (order_next [])) q r e a)
    stage-sound g order_by _ q r e a = none_some q e
    stage-sound g (order_next os) (word c) q r e a = arrive (paged h o k g (order_behind os c)) q r e a
    stage-sound g (order_next os) _ q r e a = none_some q e
    stage-sound g (order_behind os c) comma q r e a = more_orders g os (ordered c unsaid) r (arrive (paged h o k g (order_next (os ++ order c false ∷ []))) q r e a)
    stage-sound g (order_behind os c) asc_word q r e a = arrive (paged h o k g (order_directed os c false)) q r e a
    stage-sound g (order_behind os c) desc_word q r e a = arrive (paged h o k g (order_directed os c true)) q r e a
    stage-sound g (order_behind os c) t q r e a = ([], ordered c unsaid, t ∷ r, refl, from_limit-sound (with_order g (os ++ order c false ∷ [])) t q r e a)
    stage-sound g (order_directed os c b) comma q r e a = more_orders g os (ordered c (said b)) r (arrive (paged h o k g (order_next (os ++ order c b ∷ []))) q r e a)
    stage-sound g (order_directed os c b) t q r e a = ([], ordered c (said b), t ∷ r, refl, from_limit-sound (with_order g (os ++ order c b ∷ [])) t q r e a)
    stage-sound g limit_count (literal l) q r e a = counted l.value (λ n. paged h o k (with_limit g n) behind_limit) q r (InStage h o k v g limit_count (literal l ∷ r)) e a
        (λ d i w b. (d, l.place, r, i, (λ j. literal-is l (number d) w j ∷ r), b))
    stage-sound g limit_count _ q r e a = none_some q e
    stage-sound g behind_limit t q r e a = from_offset-sound g t q r e a
    stage-sound g offset_count (literal l) q r e a = counted l.value (λ n. paged h o k (with_offset g n) behind_offset) q r (InStage h o k v g offset_count (literal l ∷ r)) e a
        (λ d i w b. (d, l.place, b.0, i, (λ j. literal-is l (number d) w j ∷ b.1 j), b.2))
    stage-sound g offset_count _ q r e a = none_some q e
    stage-sound g behind_offset t q r e a = from_end-sound g t q r e a

  -- ---- behind what stands in braces and in parentheses

  clause_ends-sound : (h : Head) (fs : List Frame) (k : Clause) (t : Token) (q : State) (r : List Token) → clause_ends h fs k t ≡ Some q → Rest q r v → Braced h fs k (t ∷ r) v
  clause_ends-sound h [] k t q r e a = level_ends-sound h outermost k t q r e a
  clause_ends-sound h (parens p n ∷ fs) k t q r e a = none_some q e
  clause_ends-sound h (implicit d p n ∷ fs) k close_brace q r e a = (r, refl, arrive (finish h fs p n (subquery d k)) q r e a)
  clause_ends-sound h (implicit d p n ∷ fs) k _ q r e a = none_some q e
  clause_ends-sound h (inner ls d cs p n ∷ fs) k t q r e a = level_ends-sound h (right_of fs ls d cs p n) k t q r e a

  -- a region that ends there: nothing follows in it
  whole : (p : Pending) → joins p no_and no_or ≡ region p
  whole p = ap (λ x. join_any (p.any ++ join_all x ∷ [])) (append-nil p.all)

  whole_region : (p : Pending) (P : Filter → List Token → Type 0) (r : List Token) → P (region p) r → Region p P r
  whole_region p P r a = (no_and, no_or, r, tt, tt, refl, subst (λ f. P f r) (sym (whole p)) a)

  parens-sound : (h : Head) (fs : List Frame) (p : Pending) (q : State) (r : List Token) → parens_end h fs (region p) ≡ Some q → Rest q r v → After h fs p (close_paren ∷ r) v
  parens-sound h [] p q r e a = none_some q e
  parens-sound h (parens s n ∷ fs) p q r e a = whole_region p (Closed h (parens s n ∷ fs) v) (close_paren ∷ r) (r, refl, arrive (finish h fs s n (region p)) q r e a)
  parens-sound h (implicit d s n ∷ fs) p q r e a = none_some q e
  parens-sound h (inner ls d cs s n ∷ fs) p q r e a = none_some q e

  braced_after : (h : Head) (fs : List Frame) (p : Pending) (r : List Token) → Braced h fs (clause (region p)) r v → After h fs p r v
  braced_after h [] p r a = whole_region p (Closed h [] v) r a
  braced_after h (parens s n ∷ fs) p r a = absurd a
  braced_after h (implicit d s n ∷ fs) p r a = whole_region p (Closed h (implicit d s n ∷ fs) v) r a
  braced_after h (inner ls d cs s n ∷ fs) p r a = whole_region p (Closed h (inner ls d cs s n ∷ fs) v) r a

  region_ends-sound : (h : Head) (fs : List Frame) (p : Pending) (t : Token) (q : State) (r : List Token) → region_ends h fs (region p) t ≡ Some q → Rest q r v → After h fs p (t ∷ r) v
  region_ends-sound h fs p close_paren q r e a = parens-sound h fs p q r e a
  region_ends-sound h fs p t q r e a = braced_after h fs p (t ∷ r) (clause_ends-sound h fs (clause (region p)) t q r e a)

  -- a further operand, or a further group, stands before what follows
  and_region : (p : Pending) (P : Filter → List Token → Type 0) (o : Operand) (r rest : List Token) → IsOperand o → r ≡ operand_text o rest → Region (push p 0 (operand_value o)) P rest → Region p P (and_word ∷ r)
  and_region p P o r rest i e a = (
    grammar.and_then o a.0,
    a.1,
    a.2,
    (i, a.3),
    a.4,
    ap (λ x. and_word ∷ x) (e ∙ ap (operand_text o) a.5),
    subst (λ x. P (join_any (p.any ++ join_all x ∷ or_values a.1)) a.2) (append_assoc p.all (operand_value o ∷ []) (and_values a.0)) a.6,
  )

  or_region : (p : Pending) (P : Filter → List Token → Type 0) (o : Operand) (r rest : List Token) → IsOperand o → r ≡ operand_text o rest → Region (push (record { any = p.any ++ join_all p.all ∷ []; all = [] }) 0 (operand_value o)) P rest → Region p P (or_word ∷ r)
  or_region p P o r rest i e a = (
    no_and,
    or_then o a.0 a.1,
    a.2,
    tt,
    (i, a.3, a.4),
    ap (λ x. or_word ∷ x) (e ∙ ap (operand_text o) a.5),
    subst (λ x. P (join_any x) a.2)
        (append_assoc p.any (join_all p.all ∷ []) (join_all (operand_value o ∷ and_values a.0) ∷ or_values a.1)
        ∙ ap (λ x. p.any ++ join_all x ∷ or_values (or_then o a.0 a.1)) (sym (append-nil p.all))) a.6,
  )

  after_and : (h : Head) (fs : List Frame) (p : Pending) (r : List Token) → Begun h fs p 0 r v → After h fs p (and_word ∷ r) v
  after_and h [] p r b = and_region p (Closed h [] v) b.0 r b.1 b.2 b.3 b.4
  after_and h (parens s n ∷ fs) p r b = and_region p (Closed h (parens s n ∷ fs) v) b.0 r b.1 b.2 b.3 b.4
  after_and h (implicit d s n ∷ fs) p r b = and_region p (Closed h (implicit d s n ∷ fs) v) b.0 r b.1 b.2 b.3 b.4
  after_and h (inner ls d cs s n ∷ fs) p r b = and_region p (Closed h (inner ls d cs s n ∷ fs) v) b.0 r b.1 b.2 b.3 b.4

  after_or : (h : Head) (fs : List Frame) (p : Pending) (r : List Token) → Begun h fs (record { any = p.any ++ join_all p.all ∷ []; all = [] }) 0 r v → After h fs p (or_word ∷ r) v
  after_or h [] p r b = or_region p (Closed h [] v) b.0 r b.1 b.2 b.3 b.4
  after_or h (parens s n ∷ fs) p r b = or_region p (Closed h (parens s n ∷ fs) v) b.0 r b.1 b.2 b.3 b.4
  after_or h (implicit d s n ∷ fs) p r b = or_region p (Closed h (implicit d s n ∷ fs) v) b.0 r b.1 b.2 b.3 b.4
  after_or h (inner ls d cs s n ∷ fs) p r b = or_region p (Closed h (inner ls d cs s n ∷ fs) v) b.0 r b.1 b.2 b.3 b.4

  done-sound : (h : Head) (fs : List Frame) (p : Pending) (t : Token) (q : State) (r : List Token) → done_step h fs p t ≡ Some q → Rest q r v → After h fs p (t ∷ r) v
  done-sound h fs p and_word q r e a = after_and h fs p r (arrive (within h fs p 0 operand) q r e a)
  done-sound h fs p or_word q r e a = after_or h fs p r (arrive (within h fs (record { any = p.any ++ join_all p.all ∷ []; all = [] }) 0 operand) q r e a)
  done-sound h fs p t q r e a = region_ends-sound h fs p t q r e a

  -- ---- operands

  -- the groups of a region within which an operand has begun
  parens_operand : (h : Head) (fs : List Frame) (p : Pending) (n : ℕ) (r : List Token) → Begun h (parens p n ∷ fs) nothing 0 r v → Begun h fs p n (open_paren ∷ r) v
  parens_operand h fs p n r b =
      let a = b.4 in (
        grammar.parens b.0 a.0 a.1,
        a.6.0,
        (b.2, a.3, a.4),
        ap (λ x. open_paren ∷ x) (b.3 ∙ ap (operand_text b.0) (a.5 ∙ ap (λ x. ands_text a.0 (ors_text a.1 x)) a.6.1)),
        a.6.2,
      )

  operand_begins-sound : (h : Head) (fs : List Frame) (p : Pending) (n : ℕ) (t : Token) (q : State) (r : List Token) → operand_begins h fs p n t ≡ Some q → Rest q r v → Begun h fs p n (t ∷ r) v
  operand_begins-sound h fs p n (word c) q r e a = arrive (within h fs p n (named c)) q r e a
  operand_begins-sound h fs p n (open_bracket at) q r e a = arrive (within h fs p n (left_next [])) q r e a at
  operand_begins-sound h fs p n bang q r e a =
      let b = arrive (within h fs p (suc n) operand) q r e a in
      (negated b.0, b.1, b.2, ap (λ x. bang ∷ x) b.3, b.4)
  operand_begins-sound h fs p n open_paren q r e a = parens_operand h fs p n r (arrive (within h (parens p n ∷ fs) nothing 0 operand) q r e a)
  operand_begins-sound h fs p n _ q r e a = none_some q e

  module _ (h : Head) (fs : List Frame) (p : Pending) (n : ℕ) where
    -- an operand whose last token is read
    last : (o : Operand) (q : State) (r : List Token) → IsOperand o → Some (finish h fs p n (operand_value o)) ≡ Some q → Rest q r v → Begun h fs p n (operand_text o r) v
    last o q r i e a = ended_operand h fs p n o r i (arrive (finish h fs p n (operand_value o)) q r e a)

    implicit-sound : (c : Name) (r : List Token) → Rest (body h (implicit c p n ∷ fs)) r v → Begun h fs p n (word c ∷ open_brace ∷ r) v
    implicit-sound c r (inl b) = (grammar.implicit c no_body, b.0, tt, ap (λ x. word c ∷ open_brace ∷ x) b.1, b.2)
    implicit-sound c r (inr b) =
        let a = b.4 in (
          grammar.implicit c (grammar.body b.0 a.0 a.1),
          a.6.0,
          (b.2, a.3, a.4),
          ap (λ x. word c ∷ open_brace ∷ x) (b.3 ∙ ap (operand_text b.0) (a.5 ∙ ap (λ x. ands_text a.0 (ors_text a.1 x)) a.6.1)),
          a.6.2,
        )

    -- columns of `in`, whichever way they are written, and those of the level
    inner-sound : (l : Left) (d : Name) (at : List ℕ) (xs : List Item) (x : Item) (r : List Token) → AreItems [] xs → IsNext (item_values xs) x → Rest (body h (inner (left_columns l) d (item_values xs ++ item_value x ∷ []) p n ∷ fs)) r v → Begun h fs p n (left_text l (in_word ∷ word d ∷ open_bracket at ∷ items_text xs (item_text x (close_bracket ∷ open_brace ∷ r)))) v
    inner-sound l d at xs x r i j (inl b) = (
      selected l d at xs x no_body b.0,
      b.1,
      (tt, b.2, i, j),
      ap (λ y. left_text l (in_word ∷ word d ∷ open_bracket at ∷ items_text xs (item_text x (close_bracket ∷ open_brace ∷ y)))) b.3,
      b.4,
    )
    inner-sound l d at xs x r i j (inr b) =
        let a = b.4 in
        let g = a.6 in (
          selected l d at xs x (grammar.body b.0 a.0 a.1) g.0,
          g.1,
          ((b.2, a.3, a.4), g.2, i, j),
          ap (λ y. left_text l (in_word ∷ word d ∷ open_bracket at ∷ items_text xs (item_text x (close_bracket ∷ open_brace ∷ y))))
              (b.3 ∙ ap (operand_text b.0) (a.5 ∙ ap (λ y. ands_text a.0 (ors_text a.1 y)) g.3)),
          g.4,
        )

    brace-sound : (cs : List Name) (d : Name) (es : List Selected) (r : List Token) → Rest (body h (inner cs d es p n ∷ fs)) r v → InMode h fs p n (inner_brace cs d es) (open_brace ∷ r) v
    brace-sound cs d es r a at xs x i j e l s =
        inner-sound l d at xs x r i j (subst (λ y. Rest (body h (inner (left_columns l) d y p n ∷ fs)) r v) (sym e) (subst (λ y. Rest (body h (inner y d es p n ∷ fs)) r v) (sym s) a))

    gone-sound : (cs : List Name) (d : Name) (ds : List Selected) (k : Column) (t : Token) (o : Option Gone) (q : State) (r : List Token) → column_step ds k t ≡ o → inner_goes h fs p n cs d o ≡ Some q → Rest q r v → InMode h fs p n (inner_columns cs d ds k) (t ∷ r) v
    gone-sound cs d ds k t None q r c e a = none_some q e
    gone-sound cs d ds k t (Some (goes es l)) q r c e a = λ at. column-sound (InColumns h fs p n cs d at v) ds k t (goes es l) r c (arrive (within h fs p n (inner_columns cs d es l)) q r e a at)
    gone-sound cs d ds k t (Some (ends es)) q r c e a = λ at. column-sound (InColumns h fs p n cs d at v) ds k t (ends es) r c (arrive (within h fs p n (inner_brace cs d es)) q r e a at)

    text-sound : (c : Name) (l : Literal) (s : Scalar) (q : State) (r : List Token) → l.value ≡ s → with_text s (λ s. finish h fs p n (matches (field_named c) (pattern s l.place))) ≡ Some q → Rest q r v → Begun h fs p n (word c ∷ tilde ∷ literal l ∷ r) v
    text-sound c l (string s) q r w e a =
        let same : l ≡ text_literal s l.place = ap (λ x. record { value = x; place = l.place }) w in
        subst (λ x. Begun h fs p n (word c ∷ tilde ∷ literal x ∷ r) v) (sym same)
        (ended_operand h fs p n (test c (matching s l.place)) r tt (arrive (finish h fs p n (matches (field_named c) (pattern s l.place))) q r e a))
    text-sound c l (number s) q r w e a = none_some q e
    text-sound c l (boolean b) q r w e a = none_some q e

    list_end-sound : (cs : List Name) (at : List ℕ) (ls : List Literal) (m : Literal) (q : State) (r : List Token) → Some (finish h fs p n (among cs at (ls ++ m ∷ []))) ≡ Some q → Rest q r v → Sided cs (λ l. Begun h fs p n (left_text l (in_word ∷ open_bracket at ∷ literals_text ls (literal m ∷ close_bracket ∷ r))) v)
    list_end-sound cs at ls m q r e a l s =
        ended_operand h fs p n (listed l at ls m) r tt (subst (λ x. After h fs (push p n (among x at (ls ++ m ∷ []))) r v) (sym s) (arrive (finish h fs p n (among cs at (ls ++ m ∷ []))) q r e a))

    mode-sound : (m : Mode) (t : Token) (q : State) (r : List Token) → mode_step h fs p n m t ≡ Some q → Rest q r v → InMode h fs p n m (t ∷ r) v
    mode-sound operand t q r e a = operand_begins-sound h fs p n t q r e a
    mode-sound (named c) (comparison op) q r e a = arrive (within h fs p n (compare_to c op)) q r e a
    mode-sound (named c) differs q r e a = arrive (within h fs p n (differ_from c)) q r e a
    mode-sound (named c) tilde q r e a = arrive (within h fs p n (match_with c)) q r e a
    mode-sound (named c) is_word q r e a = arrive (within h fs p n (null_or_not c)) q r e a
    mode-sound (named c) in_word q r e a = arrive (within h fs p n (right (c ∷ []))) q r e a (one c) refl
    mode-sound (named c) open_brace q r e a = implicit-sound c r (arrive (body h (implicit c p n ∷ fs)) q r e a)
    mode-sound (named c) _ q r e a = none_some q e
    mode-sound (compare_to c op) (literal l) q r e a = last (test c (compared op l)) q r tt e a
    mode-sound (compare_to c op) _ q r e a = none_some q e
    mode-sound (differ_from c) (literal l) q r e a = last (test c (differing l)) q r tt e a
    mode-sound (differ_from c) _ q r e a = none_some q e
    mode-sound (match_with c) (literal l) q r e a = text-sound c l l.value q r refl e a
    mode-sound (match_with c) _ q r e a = none_some q e
    mode-sound (null_or_not c) null_word q r e a = last (test c null_test) q r tt e a
    mode-sound (null_or_not c) not_word q r e a = arrive (within h fs p n (not_null c)) q r e a
    mode-sound (null_or_not c) _ q r e a = none_some q e
    mode-sound (not_null c) null_word q r e a = last (test c not_null_test) q r tt e a
    mode-sound (not_null c) _ q r e a = none_some q e
    mode-sound (left_next cs) (word c) q r e a = arrive (within h fs p n (left_behind cs c)) q r e a
    mode-sound (left_next cs) _ q r e a = none_some q e
    mode-sound (left_behind cs c) comma q r e a = λ at.
        begun_as h fs p n _ _ (ap (λ x. open_bracket at ∷ x) (names-snoc cs c r)) (arrive (within h fs p n (left_next (cs ++ c ∷ []))) q r e a at)
    mode-sound (left_behind cs c) close_bracket q r e a = λ at. arrive (within h fs p n (in_expected (cs ++ c ∷ []))) q r e a (several at cs c) refl
    mode-sound (left_behind cs c) _ q r e a = none_some q e
    mode-sound (in_expected cs) in_word q r e a = arrive (within h fs p n (right cs)) q r e a
    mode-sound (in_expected cs) _ q r e a = none_some q e
    mode-sound (right cs) (open_bracket at) q r e a = arrive (within h fs p n (literal_next cs at [])) q r e a
    mode-sound (right cs) (word d) q r e a = arrive (within h fs p n (inner_bracket cs d)) q r e a
    mode-sound (right cs) _ q r e a = none_some q e
    mode-sound (literal_next cs at ls) (literal l) q r e a = arrive (within h fs p n (literal_behind cs at ls l)) q r e a
    mode-sound (literal_next cs at ls) _ q r e a = none_some q e
    mode-sound (literal_behind cs at ls m) comma q r e a = λ l s.
        begun_as h fs p n _ _ (ap (λ x. left_text l (in_word ∷ open_bracket at ∷ x)) (literals-snoc ls m r)) (arrive (within h fs p n (literal_next cs at (ls ++ m ∷ []))) q r e a l s)
    mode-sound (literal_behind cs at ls m) close_bracket q r e a = list_end-sound cs at ls m q r e a
    mode-sound (literal_behind cs at ls m) _ q r e a = none_some q e
    mode-sound (inner_bracket ls d) (open_bracket at) q r e a = λ l s.
        arrive (within h fs p n (inner_columns ls d [] column_next)) q r e a at [] refl tt l s
    mode-sound (inner_bracket ls d) _ q r e a = none_some q e
    mode-sound (inner_columns ls d cs k) t q r e a = gone-sound ls d cs k t (column_step cs k t) q r refl e a
    mode-sound (inner_brace ls d cs) open_brace q r e a = brace-sound ls d cs r (arrive (body h (inner ls d cs p n ∷ fs)) q r e a)
    mode-sound (inner_brace ls d cs) _ q r e a = none_some q e

  body-sound : (h : Head) (fs : List Frame) (t : Token) (q : State) (r : List Token) → body_step h fs t ≡ Some q → Rest q r v → Rest (body h fs) (t ∷ r) v
  body-sound h fs (word c) q r e a = inr (operand_begins-sound h fs nothing 0 (word c) q r e a)
  body-sound h fs (open_bracket at) q r e a = inr (operand_begins-sound h fs nothing 0 (open_bracket at) q r e a)
  body-sound h fs bang q r e a = inr (operand_begins-sound h fs nothing 0 bang q r e a)
  body-sound h fs open_paren q r e a = inr (operand_begins-sound h fs nothing 0 open_paren q r e a)
  body-sound h fs t q r e a = inl (clause_ends-sound h fs no_clause t q r e a)

  -- ---- the head of a query

  inside : (h : Head) (r : List Token) → Rest (body h []) r v → Inside h r v
  inside h r (inl b) = (no_body, b.0, tt, b.2, b.3 ∙ ap (λ x. page_text b.0 (close_brace ∷ x)) b.4.0, b.4.1)
  inside h r (inr b) =
      let a = b.4 in
      let g = a.6 in (
        grammar.body b.0 a.0 a.1,
        g.0,
        (b.2, a.3, a.4),
        g.2,
        b.3 ∙ ap (operand_text b.0) (a.5 ∙ ap (λ x. ands_text a.0 (ors_text a.1 x)) (g.3 ∙ ap (λ x. page_text g.0 (close_brace ∷ x)) g.4.0)),
        g.4.1,
      )

  head-gone : (d : Name) (cs : List Selected) (k : Column) (t : Token) (o : Option Gone) (q : State) (r : List Token) → column_step cs k t ≡ o → head_goes d o ≡ Some q → Rest q r v → Rest (head_columns d cs k) (t ∷ r) v
  head-gone d cs k t None q r c e a = none_some q e
  head-gone d cs k t (Some (goes es l)) q r c e a = λ at. column-sound (λ y. Headed d v (open_bracket at ∷ y)) cs k t (goes es l) r c (arrive (head_columns d es l) q r e a at)
  head-gone d cs k t (Some (ends es)) q r c e a = λ at. column-sound (λ y. Headed d v (open_bracket at ∷ y)) cs k t (ends es) r c (arrive (head_brace d es) q r e a at)

  head-sound : (s : State) (t : Token) (q : State) (r : List Token) → step s t ≡ Some q → Rest q r v → Rest s (t ∷ r) v
  head-sound start (word d) q r e a =
      let b = arrive (headed d) q r e a in
      let i = b.4 in (
        record { entity = d; columns = b.0; body = i.0; page = i.1 },
        (i.2, subst (λ c. IsPage c i.1) (has-columns b.0) i.3, b.2),
        ap (λ x. word d ∷ x) (b.3 ∙ ap (λ x. columns_text b.0 (open_brace ∷ x)) i.4),
        i.5,
      )
  head-sound start _ q r e a = none_some q e
  head-sound (headed d) (open_bracket at) q r e a = arrive (head_columns d [] column_next) q r e a at [] refl tt
  head-sound (headed d) open_brace q r e a = (no_columns, r, tt, refl, inside (record { entity = d; columns = None }) r (arrive (body (record { entity = d; columns = None }) []) q r e a))
  head-sound (headed d) _ q r e a = none_some q e
  head-sound (head_columns d cs k) t q r e a = head-gone d cs k t (column_step cs k t) q r refl e a
  head-sound (head_brace d cs) open_brace q r e a = λ at xs x i j w.
      (columns at xs x, r, (i, j), refl, subst (λ y. Inside (record { entity = d; columns = Some y }) r v) (sym w) (inside (record { entity = d; columns = Some cs }) r (arrive (body (record { entity = d; columns = Some cs }) []) q r e a)))
  head-sound (head_brace d cs) _ q r e a = none_some q e
  head-sound (body h fs) t q r e a = body-sound h fs t q r e a
  head-sound (within h fs p n m) t q r e a = mode-sound h fs p n m t q r e a
  head-sound (done h fs p) t q r e a = done-sound h fs p t q r e a
  head-sound (paged h o k g x) t q r e a = stage-sound h o k g x t q r e a
  head-sound (complete d) t q r e a = none_some q e

  ended-sound : (s : State) → ended s ≡ Some v → Rest s [] v
  ended-sound (complete q) e = (refl, some_same q v e)
  ended-sound _ e = none_some v e

  -- law 3
  pub read-sound : (ts : List Token) (s : State) → read s ts ≡ Some v → Rest s ts v
  read-sound [] s e = ended-sound s e
  read-sound (t ∷ ts) s e =
      let b = bound (step s t) (λ q. read q ts) v e in
      head-sound s t b.0 ts b.1 (read-sound ts b.0 b.2)

  pub read-tree : (ts : List Token) → read start ts ≡ Some v → (t : Tree) × IsTree t × (ts ≡ text t) × (v ≡ value t)
  read-tree ts e = read-sound ts start e
