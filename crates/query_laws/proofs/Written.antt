-- What is written by a form of the grammar is read as its meaning.
use Rattle.std.proofs.Common.{◌≡◌, ◌∙◌, ◌≤◌, ℕ, ◌+◌, List, [], ◌∷◌, ◌++◌, false, Ok, arith, refl, ap}
use Rattle.std.specs.Prelude.{nat_lt, codes, suc}
use Rattle.std.proofs.lemmas.Bool.Decides.{nat_tests}
use Rattle.json_machine.specs.text_spec.Json as json
use Rattle.json_machine.specs.text_spec.Json.{Json, Items, no_items, item}
use Rattle.query_spec.specs.declared.parts.Name.{Name}
use Rattle.query_spec.specs.declared.parts.Op.TheVariants.{Equal, Less, AtMost, More, AtLeast}
use Rattle.query_spec.specs.declared.words.PartWord.TheVariants as of_part
use Rattle.query_spec.specs.Answer.{query}
use Rattle.query_spec.specs.Ast.{Read, Extract, extracted, is_group, word_at, word_of, filter_at, filters_at, extract_at, extracted_at, select_at, rows_of_at, subquery_at, inner_at, query_within, query_at, route_at, body_at}
use Rattle.query_spec.specs.Parts.{name}
use Rattle.query_spec.specs.Query.{Filter, filters_of, heights, height, clause_height, level_height}
use Rattle.query_spec.specs.Words.{filter_word, inner_word, part_word}
use Rattle.query_laws.specs.Grammar.{headed, columns_value, texts_value, names_from, field_value, literal_value, literals_value, ungrouped, grouped, PartForm, limit, offset, order_by, part_value, parts_value, FilterForm, conjunction, disjunction, negated, comparison, pattern_test, null_test, in_array, in_select, in_query, subquery_of, FilterForms, last, next, anywhere, such_that, ExtractForm, extracting, filter_value, filters_value, extract_value, filter_meaning, filters_from, extract_meaning, IsFilterForm, AreFilterForms, IsExtractForm, QueryForm, from_all, from_filter, from_extract, query_value, query_meaning, IsQueryForm, RouteForm, route_filter, route_extract, route_value, route_meaning, IsRouteForm}
use Rattle.query_laws.proofs.Arms.{filter_arm, body_arm, route_arm}
use Rattle.query_laws.proofs.Parted.{names_written, columns_written, left_written, field_written, literal_written, literals_written, shown_written, paging_written}
use Rattle.query_spec.specs.Limits.{most_depth}

-- the words of filters are none of groups and none of parts
ungrouping : (f : FilterForm) → is_group (filter_value f) ≡ false
ungrouping (conjunction f fs) = refl
ungrouping (disjunction f fs) = refl
ungrouping (negated f) = refl
ungrouping (comparison Equal f l) = refl
ungrouping (comparison Less f l) = refl
ungrouping (comparison AtMost f l) = refl
ungrouping (comparison More f l) = refl
ungrouping (comparison AtLeast f l) = refl
ungrouping (pattern_test f s) = refl
ungrouping (null_test f b) = refl
ungrouping (in_array c l ls) = refl
ungrouping (in_select c s e w) = refl
ungrouping (in_query c e x gs) = refl
ungrouping (subquery_of e w) = refl

other_word : (f : FilterForm) → word_of (filter_value f) ≡ of_part.Other
unfolding part_word
other_word (conjunction f fs) = refl
other_word (disjunction f fs) = refl
other_word (negated f) = refl
other_word (comparison Equal f l) = refl
other_word (comparison Less f l) = refl
other_word (comparison AtMost f l) = refl
other_word (comparison More f l) = refl
other_word (comparison AtLeast f l) = refl
other_word (pattern_test f s) = refl
other_word (null_test f b) = refl
other_word (in_array c l ls) = refl
other_word (in_select c s e w) = refl
other_word (in_query c e x gs) = refl
other_word (subquery_of e w) = refl

-- a filter holds one level at least
high : (p : List ℕ) (f : FilterForm) → 1 ≤ height (filter_meaning p f)
high p (conjunction f fs) = omega arith
high p (disjunction f fs) = omega arith
high p (negated f) = omega arith
high p (comparison o f l) = omega arith
high p (pattern_test f s) = omega arith
high p (null_test f b) = omega arith
high p (in_array c l ls) = omega arith
high p (in_select c s e w) = omega arith
high p (in_query c e x gs) = omega arith
high p (subquery_of e w) = omega arith

-- at depth 100 and above each word is known
known : (d n : ℕ) (h : List ℕ) → d + suc n ≤ 101 → word_at d h ≡ filter_word h
known d n h low = let e : nat_lt most_depth d ≡ false = grind (arith, nat_tests) in rw e refl

-- what is read behind a word that is known
by_word : (d n : ℕ) (p h : List ℕ) (vs : Items) (f : Filter) → d + suc n ≤ 101 → filter_arm d p (filter_word h) vs ≡ Ok f → filter_at d p (headed h vs) ≡ Ok f
by_word d n p h vs f low e = ap (λ w. filter_arm d p w vs) (known d n h low) ∙ e

group_written : (p : List ℕ) (s : List ℕ) (ss : List (List ℕ)) → Rattle.query_spec.specs.Ast.group_at p (headed (codes "group_by") (item (json.string s) (texts_value ss))) ≡ Ok (names_from p 1 (s ∷ ss))
group_written p s ss = names_written p 1 (s ∷ ss)

mutual
  unfolding filter_word inner_word

  pub filter_written : (d : ℕ) (p : List ℕ) (f : FilterForm) → IsFilterForm f → d + height (filter_meaning p f) ≤ 101 → filter_at d p (filter_value f) ≡ Ok (filter_meaning p f)
  filter_written d p (conjunction f fs) g h =
      by_word d (heights (filters_of (filter_meaning (p ++ 1 ∷ []) f ∷ filters_from p 2 fs))) p (codes "and") (item (filter_value f) (filters_value fs)) (filter_meaning p (conjunction f fs)) h
      (rw (filter_written (d + 1) (p ++ 1 ∷ []) f g.0 (omega arith), filters_written (d + 1) p 2 fs g.1 (omega arith)) refl)
  filter_written d p (disjunction f fs) g h =
      by_word d (heights (filters_of (filter_meaning (p ++ 1 ∷ []) f ∷ filters_from p 2 fs))) p (codes "or") (item (filter_value f) (filters_value fs)) (filter_meaning p (disjunction f fs)) h
      (rw (filter_written (d + 1) (p ++ 1 ∷ []) f g.0 (omega arith), filters_written (d + 1) p 2 fs g.1 (omega arith)) refl)
  filter_written d p (negated f) g h =
      by_word d (height (filter_meaning (p ++ 1 ∷ []) f)) p (codes "not") (item (filter_value f) no_items) (filter_meaning p (negated f)) h
      (rw (filter_written (d + 1) (p ++ 1 ∷ []) f g (omega arith)) refl)
  filter_written d p (comparison Equal f l) g h = by_word d 0 p (codes "=") (item (field_value f) (item (literal_value l) no_items)) (filter_meaning p (comparison Equal f l)) h
      (rw (field_written (p ++ 1 ∷ []) f, literal_written (p ++ 2 ∷ []) l) refl)
  filter_written d p (comparison Less f l) g h = by_word d 0 p (codes "<") (item (field_value f) (item (literal_value l) no_items)) (filter_meaning p (comparison Less f l)) h
      (rw (field_written (p ++ 1 ∷ []) f, literal_written (p ++ 2 ∷ []) l) refl)
  filter_written d p (comparison AtMost f l) g h = by_word d 0 p (codes "<=") (item (field_value f) (item (literal_value l) no_items)) (filter_meaning p (comparison AtMost f l)) h
      (rw (field_written (p ++ 1 ∷ []) f, literal_written (p ++ 2 ∷ []) l) refl)
  filter_written d p (comparison More f l) g h = by_word d 0 p (codes ">") (item (field_value f) (item (literal_value l) no_items)) (filter_meaning p (comparison More f l)) h
      (rw (field_written (p ++ 1 ∷ []) f, literal_written (p ++ 2 ∷ []) l) refl)
  filter_written d p (comparison AtLeast f l) g h = by_word d 0 p (codes ">=") (item (field_value f) (item (literal_value l) no_items)) (filter_meaning p (comparison AtLeast f l)) h
      (rw (field_written (p ++ 1 ∷ []) f, literal_written (p ++ 2 ∷ []) l) refl)
  filter_written d p (pattern_test f s) g h = by_word d 0 p (codes "~") (item (field_value f) (item (json.string s) no_items)) (filter_meaning p (pattern_test f s)) h
      (rw (field_written (p ++ 1 ∷ []) f) refl)
  filter_written d p (null_test f b) g h = by_word d 0 p (codes "null?") (item (field_value f) (item (json.boolean b) no_items)) (filter_meaning p (null_test f b)) h
      (rw (field_written (p ++ 1 ∷ []) f) refl)
  filter_written d p (in_array c l ls) g h =
      by_word d 0 p (codes "in") (item (columns_value c) (item (headed (codes "array") (item (json.array (item (literal_value l) (literals_value ls))) no_items)) no_items)) (filter_meaning p (in_array c l ls)) h
      (rw (left_written (p ++ 1 ∷ []) c, literal_written (((p ++ 2 ∷ []) ++ 1 ∷ []) ++ 0 ∷ []) l, literals_written ((p ++ 2 ∷ []) ++ 1 ∷ []) 1 ls) refl)
  filter_written d p (in_select c s e anywhere) g h =
      by_word d 0 p (codes "in") (item (columns_value c) (item (headed (codes "extract") (item (columns_value s) (item (headed (codes "select_" ++ e) no_items) no_items))) no_items)) (filter_meaning p (in_select c s e anywhere)) h
      (rw (left_written (p ++ 1 ∷ []) c, columns_written ((p ++ 2 ∷ []) ++ 1 ∷ []) s) refl)
  filter_written d p (in_select c s e (such_that f)) g h =
      by_word d (height (filter_meaning (((p ++ 2 ∷ []) ++ 2 ∷ []) ++ 1 ∷ []) f)) p (codes "in") (item (columns_value c) (item (headed (codes "extract") (item (columns_value s) (item (headed (codes "select_" ++ e) (item (filter_value f) no_items)) no_items))) no_items)) (filter_meaning p (in_select c s e (such_that f))) h
      (rw (
        left_written (p ++ 1 ∷ []) c,
        columns_written ((p ++ 2 ∷ []) ++ 1 ∷ []) s,
        filter_written (d + 1) (((p ++ 2 ∷ []) ++ 2 ∷ []) ++ 1 ∷ []) f g (omega arith),
      ) refl)
  filter_written d p (in_query c e x gs) g h =
      by_word d (clause_height (extract_meaning ((p ++ 2 ∷ []) ++ 2 ∷ []) x).where_clause) p (codes "in") (item (columns_value c) (item (headed (codes "from") (item (json.string e) (item (extract_value x) (parts_value gs)))) no_items)) (filter_meaning p (in_query c e x gs)) h
      (rw (
        left_written (p ++ 1 ∷ []) c,
        extract_written (d + 1) ((p ++ 2 ∷ []) ++ 2 ∷ []) x g.0 (omega arith),
        paging_written (p ++ 2 ∷ []) 3 gs g.1,
      ) refl)
  filter_written d p (subquery_of e anywhere) g h = by_word d 0 p (codes "subquery") (item (json.string e) no_items) (filter_meaning p (subquery_of e anywhere)) h refl
  filter_written d p (subquery_of e (such_that f)) g h =
      by_word d (height (filter_meaning (p ++ 2 ∷ []) f)) p (codes "subquery") (item (json.string e) (item (filter_value f) no_items)) (filter_meaning p (subquery_of e (such_that f))) h
      (rw (filter_written (d + 1) (p ++ 2 ∷ []) f g (omega arith)) refl)

  filters_written : (d : ℕ) (p : List ℕ) (i : ℕ) (fs : FilterForms) → AreFilterForms fs → d + heights (filters_of (filters_from p i fs)) ≤ 101 → filters_at d p i (filters_value fs) ≡ Ok (filters_from p i fs)
  filters_written d p i last g h = refl
  filters_written d p i (next f fs) g h =
      rw (filter_written d (p ++ i ∷ []) f g.0 (omega arith), filters_written d p (i + 1) fs g.1 (omega arith)) refl

  extract_written : (d : ℕ) (p : List ℕ) (x : ExtractForm) → IsExtractForm x → d + clause_height (extract_meaning p x).where_clause ≤ 101 → extract_at d p (extract_value x) ≡ Ok (extract_meaning p x)
  extract_written d p (extracting s anywhere ungrouped) g h = rw (shown_written (p ++ 1 ∷ []) s g.0) refl
  extract_written d p (extracting s anywhere (grouped c cs)) g h = rw (shown_written (p ++ 1 ∷ []) s g.0, names_written (p ++ 2 ∷ []) 2 cs) refl
  extract_written d p (extracting s (such_that f) ungrouped) g h =
      rw (shown_written (p ++ 1 ∷ []) s g.0, ungrouping f, filter_written d (p ++ 2 ∷ []) f g.1 h) refl
  extract_written d p (extracting s (such_that f) (grouped c cs)) g h =
      rw (shown_written (p ++ 1 ∷ []) s g.0, filter_written d (p ++ 2 ∷ []) f g.1 h, names_written (p ++ 3 ∷ []) 2 cs) refl

-- ---- whole queries

part_words : (g : PartForm) (gs : List PartForm) (e : Name) → body_at [] e (item (part_value g) (parts_value gs)) ≡ Rattle.query_spec.specs.Ast.paged_body [] e (item (part_value g) (parts_value gs))
unfolding part_word
part_words (limit n) gs e = refl
part_words (offset n) gs e = refl
part_words (order_by o os) gs e = refl

extract_word : (x : ExtractForm) → word_of (extract_value x) ≡ of_part.Extract
unfolding part_word
extract_word (extracting s w g) = refl

pub query_written : (f : QueryForm) → IsQueryForm f → level_height (query_meaning f) ≤ most_depth → query (query_value f) ≡ Ok (query_meaning f)
query_written (from_all e []) g h = refl
query_written (from_all e (x ∷ gs)) g h = part_words x gs (name e (1 ∷ [])) ∙ rw (paging_written [] 2 (x ∷ gs) g) refl
query_written (from_filter e f gs) g h =
    ap (λ w. body_arm [] (name e (1 ∷ [])) w (filter_value f) (parts_value gs)) (other_word f)
    ∙ rw (filter_written 1 (2 ∷ []) f g.0 (omega arith), paging_written [] 3 gs g.1) refl
query_written (from_extract e x gs) g h =
    ap (λ w. body_arm [] (name e (1 ∷ [])) w (extract_value x) (parts_value gs)) (extract_word x)
    ∙ rw (extract_written 1 (2 ∷ []) x g.0 (omega arith), paging_written [] 3 gs g.1) refl

pub route_written : (e : Name) (f : RouteForm) → IsRouteForm f → level_height (route_meaning e f) ≤ most_depth → route_at e [] (route_value f) ≡ Ok (route_meaning e f)
route_written e (route_filter f) g h =
    ap (λ w. route_arm e [] w (filter_value f)) (other_word f) ∙ rw (filter_written 1 [] f g (omega arith)) refl
route_written e (route_extract x) g h =
    ap (λ w. route_arm e [] w (extract_value x)) (extract_word x) ∙ rw (extract_written 1 [] x g (omega arith)) refl
