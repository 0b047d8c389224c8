-- What is read is written by a form of the grammar: filters, selections and whole queries.
use Rattle.std.proofs.Common.{◌≡◌, ◌∙◌, ◌≤◌, ◌-◌, ℕ, ◌+◌, List, [], ◌∷◌, ◌++◌, Bool, true, false, Option, Some, None, Ok, arith, refl, ap, map, if◌then◌else◌}
use Rattle.std.specs.Prelude.{nat_lt, codes}
use Rattle.std.specs.Str.{bytes_eq}
use Rattle.std.proofs.lemmas.Bool.Decides.{nat_tests}
use Rattle.json_machine.proofs.of_plain_laws.Lists.{one_text}
use Rattle.json_machine.specs.text_spec.Json as json
use Rattle.json_machine.specs.text_spec.Json.{Json, Items, no_items, item}
use Rattle.query_spec.specs.declared.parts.Field.{Field}
use Rattle.query_spec.specs.declared.parts.Literal.{Literal}
use Rattle.query_spec.specs.declared.parts.Name.{Name}
use Rattle.query_spec.specs.declared.parts.Op.{Op}
use Rattle.query_spec.specs.declared.parts.Scalar.{Scalar}
use Rattle.query_spec.specs.declared.parts.Selected.TheVariants as selected
use Rattle.query_spec.specs.declared.words.FilterWord.{FilterWord}
use Rattle.query_spec.specs.declared.words.FilterWord.TheVariants as of_filter
use Rattle.query_spec.specs.declared.words.InnerWord.{InnerWord}
use Rattle.query_spec.specs.declared.words.InnerWord.TheVariants as of_inner
use Rattle.query_spec.specs.declared.words.PartWord.{PartWord}
use Rattle.query_spec.specs.declared.words.PartWord.TheVariants as of_part
use Rattle.query_spec.specs.Answer.{query}
use Rattle.query_spec.specs.Ast.{◌>>=◌, name_at, columns_at, left_at, field_at, literal_at, array_at, pattern_at, bool_at, shown_at, group_at, paging_at, word_of, compared_at, matched_at, null_at, entity_behind, Extract, extract, extracted, is_group, filter_at, filters_at, some_at, one_at, in_at, inner_at, listed_at, select_at, rows_of_at, subquery_at, extract_at, extracted_at, query_within, body_at, extract_body, filter_body, paged_body, route_at, filter_route, extract_route}
use Rattle.query_spec.specs.Parts.{name, unpaged}
use Rattle.query_spec.specs.Query.{Filter, compare, matches, is_null, in_list, in_level, subquery, negation, all_of, any_of, filters_of, heights, height, no_clause, clause, clause_height, Level, level, level_height}
use Rattle.query_spec.specs.Words.{filter_word, inner_word, behind_select}
use Rattle.query_laws.specs.Grammar.{headed, Columns, columns_value, columns_meaning, literal_value, literals_value, literals_from, ungrouped, grouped, PartForm, parts_value, paging_from, IsPaging, FilterForm, conjunction, disjunction, negated, comparison, pattern_test, null_test, in_array, in_select, in_query, subquery_of, FilterForms, last, next, WhereForm, anywhere, such_that, ExtractForm, extracting, filter_value, filters_value, where_value, extract_value, filter_meaning, filters_from, where_meaning, extract_meaning, IsFilterForm, AreFilterForms, IsWhereForm, IsExtractForm, from_all, from_filter, from_extract, route_filter, route_extract, SpellsQuery, SpellsRoute}
use Rattle.query_laws.proofs.Arms.{filter_arm, inner_arm, body_arm, route_arm}
use Rattle.query_laws.proofs.Told.{refused, gave, bound, InnerSays, inner_says, FilterSays, filter_says, chosen, name_told, columns_told, LeftTold, left_told, field_told, literal_told, LiteralsTold, literals_told}
use Rattle.query_laws.proofs.ToldParts.{shown_told, group_told, paging_told}
use Rattle.query_spec.specs.Limits.{most_depth}

-- ---- what is told of filters at depth d, counted from 1

record FilterTold (d : ℕ) (p : List ℕ) (v : Json) (f : Filter) : Type 0 where
  form : FilterForm
  good : IsFilterForm form
  value_is : v ≡ filter_value form
  means : f ≡ filter_meaning p form
  depth : d + height f ≤ 101

record FiltersTold (d : ℕ) (p : List ℕ) (i : ℕ) (vs : Items) (fs : List Filter) : Type 0 where
  form : FilterForms
  good : AreFilterForms form
  value_is : vs ≡ filters_value form
  means : fs ≡ filters_from p i form
  depth : heights (filters_of fs) ≤ 101 - d

-- at least one, behind a word
record SomeTold (d : ℕ) (p : List ℕ) (vs : Items) (fs : List Filter) : Type 0 where
  first : FilterForm
  others : FilterForms
  good : IsFilterForm first × AreFilterForms others
  value_is : vs ≡ item (filter_value first) (filters_value others)
  means : fs ≡ filter_meaning (p ++ 1 ∷ []) first ∷ filters_from p 2 others
  depth : d + heights (filters_of fs) ≤ 101

-- one, behind a word
record OneTold (d : ℕ) (p : List ℕ) (vs : Items) (f : Filter) : Type 0 where
  form : FilterForm
  good : IsFilterForm form
  value_is : vs ≡ item (filter_value form) no_items
  means : f ≡ filter_meaning (p ++ 1 ∷ []) form
  depth : d + height f ≤ 101

record ExtractTold (d : ℕ) (p : List ℕ) (v : Json) (x : Extract) : Type 0 where
  form : ExtractForm
  good : IsExtractForm form
  value_is : v ≡ extract_value form
  means : x ≡ extract_meaning p form
  depth : clause_height x.where_clause ≤ 101 - d

-- ["extract", cols, ["select_E", f?]] behind the word
record SelectTold (d : ℕ) (p : List ℕ) (vs : Items) (q : Level) : Type 0 where
  columns : Columns
  entity : List ℕ
  such : WhereForm
  good : IsWhereForm such
  value_is : vs ≡ item (columns_value columns) (item (headed (codes "select_" ++ entity) (where_value such no_items)) no_items)
  means : q ≡ level (name entity ((p ++ 2 ∷ []) ++ 0 ∷ [])) (Some (map selected.Column (columns_meaning (p ++ 1 ∷ []) columns))) (where_meaning ((p ++ 2 ∷ []) ++ 1 ∷ []) such) [] unpaged
  depth : level_height q ≤ 101 - d

-- ["select_E", f?]
record RowsTold (d : ℕ) (p : List ℕ) (cs : List Name) (v : Json) (q : Level) : Type 0 where
  entity : List ℕ
  such : WhereForm
  good : IsWhereForm such
  value_is : v ≡ headed (codes "select_" ++ entity) (where_value such no_items)
  means : q ≡ level (name entity (p ++ 0 ∷ [])) (Some (map selected.Column cs)) (where_meaning (p ++ 1 ∷ []) such) [] unpaged
  depth : level_height q ≤ 101 - d

-- ["from", E, extract, part, ..] behind the word
record WithinTold (d : ℕ) (p : List ℕ) (vs : Items) (q : Level) : Type 0 where
  entity : List ℕ
  extract_form : ExtractForm
  parts : List PartForm
  good : IsExtractForm extract_form × IsPaging parts
  value_is : vs ≡ item (json.string entity) (item (extract_value extract_form) (parts_value parts))
  means : q ≡ extracted (name entity (p ++ 1 ∷ [])) (extract_meaning (p ++ 2 ∷ []) extract_form) (paging_from p 3 parts)
  depth : level_height q ≤ 101 - d

-- ---- forms that hold no filter

room : (d : ℕ) → nat_lt most_depth d ≡ false → d ≤ most_depth
room d h = grind (arith, nat_tests)

compare_told : (d : ℕ) (p h : List ℕ) (o : Op) (vs : Items) (f : Filter) → FilterSays h (of_filter.Compare o) → d ≤ most_depth → compared_at o p vs ≡ Ok f → FilterTold d p (headed h vs) f
compare_told d p h o (item v (item w no_items)) f t n e =
    let b = bound (field_at (p ++ 1 ∷ []) v) (λ g. literal_at (p ++ 2 ∷ []) w >>= λ l. Ok (compare o g l)) f e in
    let c = bound (literal_at (p ++ 2 ∷ []) w) (λ l. Ok (compare o b.first l)) f b.then_is in
    let g = field_told (p ++ 1 ∷ []) v b.first b.was in
    let l = literal_told (p ++ 2 ∷ []) w c.first c.was in
    let is : f ≡ compare o b.first c.first = gave (compare o b.first c.first) f c.then_is in
    record {
      form = comparison o g.form l.form;
      good = tt;
      value_is = λ k. headed (t k) (item (g.value_is k) (item (l.value_is k) no_items));
      means = is ∙ (λ k. compare o (g.means k) (l.means k));
      depth = omega (arith, ap height is);
    }
compare_told d p h o _ f t n e = refused p f e

matches_told : (d : ℕ) (p h : List ℕ) (vs : Items) (f : Filter) → h ≡ codes "~" → d ≤ most_depth → matched_at p vs ≡ Ok f → FilterTold d p (headed h vs) f
matches_told d p h (item v (item (json.string s) no_items)) f t n e =
    let b = bound (field_at (p ++ 1 ∷ []) v) (λ g. Ok (matches g (record { text = s; place = p ++ 2 ∷ [] }))) f e in
    let g = field_told (p ++ 1 ∷ []) v b.first b.was in
    let is : f ≡ matches b.first (record { text = s; place = p ++ 2 ∷ [] }) = gave (matches b.first (record { text = s; place = p ++ 2 ∷ [] })) f b.then_is in
    record {
      form = pattern_test g.form s;
      good = tt;
      value_is = λ k. headed (t k) (item (g.value_is k) (item (json.string s) no_items));
      means = is ∙ (λ k. matches (g.means k) (record { text = s; place = p ++ 2 ∷ [] }));
      depth = omega (arith, ap height is);
    }
matches_told d p h (item v (item w no_items)) f t n e =
    let b = bound (field_at (p ++ 1 ∷ []) v) (λ g. pattern_at (p ++ 2 ∷ []) w >>= λ t. Ok (matches g t)) f e in
    refused (p ++ 2 ∷ []) f b.then_is
matches_told d p h _ f t n e = refused p f e

null_told : (d : ℕ) (p h : List ℕ) (vs : Items) (f : Filter) → h ≡ codes "null?" → d ≤ most_depth → null_at p vs ≡ Ok f → FilterTold d p (headed h vs) f
null_told d p h (item v (item (json.boolean s) no_items)) f t n e =
    let b = bound (field_at (p ++ 1 ∷ []) v) (λ g. Ok (is_null g s)) f e in
    let g = field_told (p ++ 1 ∷ []) v b.first b.was in
    let is : f ≡ is_null b.first s = gave (is_null b.first s) f b.then_is in
    record {
      form = null_test g.form s;
      good = tt;
      value_is = λ k. headed (t k) (item (g.value_is k) (item (json.boolean s) no_items));
      means = is ∙ (λ k. is_null (g.means k) s);
      depth = omega (arith, ap height is);
    }
null_told d p h (item v (item w no_items)) f t n e =
    let b = bound (field_at (p ++ 1 ∷ []) v) (λ g. bool_at (p ++ 2 ∷ []) w >>= λ t. Ok (is_null g t)) f e in
    refused (p ++ 2 ∷ []) f b.then_is
null_told d p h _ f t n e = refused p f e

-- [literal, ..]
record ArrayTold (p : List ℕ) (v : Json) (ls : List Literal) : Type 0 where
  first : Scalar
  others : List Scalar
  value_is : v ≡ json.array (item (literal_value first) (literals_value others))
  means : ls ≡ literals_from p 0 (first ∷ others)

array_told : (p : List ℕ) (v : Json) (ls : List Literal) → array_at p v ≡ Ok ls → ArrayTold p v ls
array_told p (json.array (item v vs)) ls h = by_form t.form t.value_is t.means
  where
    t : LiteralsTold p 0 (item v vs) ls
    t = literals_told p 0 (item v vs) ls h

    by_form : (xs : List Scalar) → item v vs ≡ literals_value xs → ls ≡ literals_from p 0 xs → ArrayTold p (json.array (item v vs)) ls
    by_form [] e m = absurd (let apart : item v vs ≡ no_items = e in cc)
    by_form (x ∷ xs) e m = record { first = x; others = xs; value_is = ap json.array e; means = m }
array_told p _ ls h = refused p ls h

-- a filter `in` with a right side that is read already
listed_told : (d : ℕ) (p : List ℕ) (c : Json) (fs : List Field) (h : List ℕ) (vs : Items) (f : Filter) → LeftTold (p ++ 1 ∷ []) c fs → h ≡ codes "array" → d ≤ most_depth → listed_at (p ++ 2 ∷ []) fs vs ≡ Ok f → FilterTold d p (headed (codes "in") (item c (item (headed h vs) no_items))) f
listed_told d p c fs h (item v no_items) f l t n e =
    let b = bound (array_at ((p ++ 2 ∷ []) ++ 1 ∷ []) v) (λ ls. Ok (in_list fs (p ++ 2 ∷ []) ls)) f e in
    let a = array_told ((p ++ 2 ∷ []) ++ 1 ∷ []) v b.first b.was in
    let is : f ≡ in_list fs (p ++ 2 ∷ []) b.first = gave (in_list fs (p ++ 2 ∷ []) b.first) f b.then_is in
    record {
      form = in_array l.form a.first a.others;
      good = tt;
      value_is = λ k. headed (codes "in") (item (l.value_is k) (item (headed (t k) (item (a.value_is k) no_items)) no_items));
      means = is ∙ (λ k. in_list (l.means k) (p ++ 2 ∷ []) (a.means k));
      depth = omega (arith, ap height is);
    }
listed_told d p c fs h _ f l t n e = refused (p ++ 2 ∷ []) f e

select_in : (d : ℕ) (p : List ℕ) (c : Json) (fs : List Field) (h : List ℕ) (vs : Items) (f : Filter) → LeftTold (p ++ 1 ∷ []) c fs → h ≡ codes "extract" → d ≤ most_depth → ((q : Level) → select_at (d + 1) (p ++ 2 ∷ []) vs ≡ Ok q → SelectTold (d + 1) (p ++ 2 ∷ []) vs q) → (select_at (d + 1) (p ++ 2 ∷ []) vs >>= λ q. Ok (in_level fs (p ++ 2 ∷ []) q)) ≡ Ok f → FilterTold d p (headed (codes "in") (item c (item (headed h vs) no_items))) f
select_in d p c fs h vs f l t n told e =
    let b = bound (select_at (d + 1) (p ++ 2 ∷ []) vs) (λ q. Ok (in_level fs (p ++ 2 ∷ []) q)) f e in
    let s = told b.first b.was in
    let is : f ≡ in_level fs (p ++ 2 ∷ []) b.first = gave (in_level fs (p ++ 2 ∷ []) b.first) f b.then_is in
    let low : level_height b.first ≤ 101 - (d + 1) = s.depth in
    record {
      form = in_select l.form s.columns s.entity s.such;
      good = s.good;
      value_is = λ k. headed (codes "in") (item (l.value_is k) (item (headed (t k) (s.value_is k)) no_items));
      means = is ∙ (λ k. in_level (l.means k) (p ++ 2 ∷ []) (s.means k));
      depth = omega (arith, ap height is);
    }

query_in : (d : ℕ) (p : List ℕ) (c : Json) (fs : List Field) (h : List ℕ) (vs : Items) (f : Filter) → LeftTold (p ++ 1 ∷ []) c fs → h ≡ codes "from" → d ≤ most_depth → ((q : Level) → query_within (d + 1) (p ++ 2 ∷ []) vs ≡ Ok q → WithinTold (d + 1) (p ++ 2 ∷ []) vs q) → (query_within (d + 1) (p ++ 2 ∷ []) vs >>= λ q. Ok (in_level fs (p ++ 2 ∷ []) q)) ≡ Ok f → FilterTold d p (headed (codes "in") (item c (item (headed h vs) no_items))) f
query_in d p c fs h vs f l t n told e =
    let b = bound (query_within (d + 1) (p ++ 2 ∷ []) vs) (λ q. Ok (in_level fs (p ++ 2 ∷ []) q)) f e in
    let s = told b.first b.was in
    let is : f ≡ in_level fs (p ++ 2 ∷ []) b.first = gave (in_level fs (p ++ 2 ∷ []) b.first) f b.then_is in
    let low : level_height b.first ≤ 101 - (d + 1) = s.depth in
    record {
      form = in_query l.form s.entity s.extract_form s.parts;
      good = s.good;
      value_is = λ k. headed (codes "in") (item (l.value_is k) (item (headed (t k) (s.value_is k)) no_items));
      means = is ∙ (λ k. in_level (l.means k) (p ++ 2 ∷ []) (s.means k));
      depth = omega (arith, ap height is);
    }

inner_by : (d : ℕ) (p : List ℕ) (c : Json) (fs : List Field) (h : List ℕ) (vs : Items) (f : Filter) (w : InnerWord) → LeftTold (p ++ 1 ∷ []) c fs → InnerSays h w → d ≤ most_depth → ((q : Level) → select_at (d + 1) (p ++ 2 ∷ []) vs ≡ Ok q → SelectTold (d + 1) (p ++ 2 ∷ []) vs q) → ((q : Level) → query_within (d + 1) (p ++ 2 ∷ []) vs ≡ Ok q → WithinTold (d + 1) (p ++ 2 ∷ []) vs q) → inner_arm (d + 1) (p ++ 2 ∷ []) fs w vs ≡ Ok f → FilterTold d p (headed (codes "in") (item c (item (headed h vs) no_items))) f
inner_by d p c fs h vs f of_inner.Array l t n s q e = listed_told d p c fs h vs f l t n e
inner_by d p c fs h vs f of_inner.Extract l t n s q e = select_in d p c fs h vs f l t n s e
inner_by d p c fs h vs f of_inner.From l t n s q e = query_in d p c fs h vs f l t n q e
inner_by d p c fs h vs f of_inner.Other l t n s q e = refused (p ++ 2 ∷ []) f e

-- ---- by the word of a filter

abbrev SomeIs : ℕ → List ℕ → Items → Type 0
SomeIs d p vs = (fs : List Filter) → some_at d p vs ≡ Ok fs → SomeTold d p vs fs

abbrev OneIs : ℕ → List ℕ → Items → Type 0
OneIs d p vs = (f : Filter) → one_at d p vs ≡ Ok f → OneTold d p vs f

abbrev InIs : ℕ → List ℕ → Items → Type 0
InIs d p vs = (f : Filter) → d ≤ most_depth → in_at (d + 1) p vs ≡ Ok f → FilterTold d p (headed (codes "in") vs) f

abbrev SubqueryIs : ℕ → List ℕ → Items → Type 0
SubqueryIs d p vs = (f : Filter) → d ≤ most_depth → subquery_at (d + 1) p vs ≡ Ok f → FilterTold d p (headed (codes "subquery") vs) f

respelt : (d : ℕ) (p h s : List ℕ) (vs : Items) (f : Filter) → h ≡ s → FilterTold d p (headed s vs) f → FilterTold d p (headed h vs) f
respelt d p h s vs f t r = record { form = r.form; good = r.good; value_is = (λ k. headed (t k) vs) ∙ r.value_is; means = r.means; depth = r.depth }

filter_by : (d : ℕ) (p h : List ℕ) (vs : Items) (f : Filter) (w : FilterWord) → FilterSays h w → d ≤ most_depth → SomeIs (d + 1) p vs → OneIs (d + 1) p vs → InIs d p vs → SubqueryIs d p vs → filter_arm d p w vs ≡ Ok f → FilterTold d p (headed h vs) f
filter_by d p h vs f of_filter.And t n some one among sub e =
    let b = bound (some_at (d + 1) p vs) (λ fs. Ok (all_of (filters_of fs))) f e in
    let s = some b.first b.was in
    let is : f ≡ all_of (filters_of b.first) = gave (all_of (filters_of b.first)) f b.then_is in
    let low : d + 1 + heights (filters_of b.first) ≤ 101 = s.depth in
    record {
      form = conjunction s.first s.others;
      good = s.good;
      value_is = λ k. headed (t k) (s.value_is k);
      means = is ∙ (λ k. all_of (filters_of (s.means k)));
      depth = omega (arith, ap height is);
    }
filter_by d p h vs f of_filter.Or t n some one among sub e =
    let b = bound (some_at (d + 1) p vs) (λ fs. Ok (any_of (filters_of fs))) f e in
    let s = some b.first b.was in
    let is : f ≡ any_of (filters_of b.first) = gave (any_of (filters_of b.first)) f b.then_is in
    let low : d + 1 + heights (filters_of b.first) ≤ 101 = s.depth in
    record {
      form = disjunction s.first s.others;
      good = s.good;
      value_is = λ k. headed (t k) (s.value_is k);
      means = is ∙ (λ k. any_of (filters_of (s.means k)));
      depth = omega (arith, ap height is);
    }
filter_by d p h vs f of_filter.Not t n some one among sub e =
    let b = bound (one_at (d + 1) p vs) (λ f. Ok (negation f)) f e in
    let s = one b.first b.was in
    let is : f ≡ negation b.first = gave (negation b.first) f b.then_is in
    let low : d + 1 + height b.first ≤ 101 = s.depth in
    record {
      form = negated s.form;
      good = s.good;
      value_is = λ k. headed (t k) (s.value_is k);
      means = is ∙ (λ k. negation (s.means k));
      depth = omega (arith, ap height is);
    }
filter_by d p h vs f (of_filter.Compare o) t n some one among sub e = compare_told d p h o vs f t n e
filter_by d p h vs f of_filter.Matches t n some one among sub e = matches_told d p h vs f t n e
filter_by d p h vs f of_filter.IsNull t n some one among sub e = null_told d p h vs f t n e
filter_by d p h vs f of_filter.In t n some one among sub e = respelt d p h (codes "in") vs f t (among f n e)
filter_by d p h vs f of_filter.Subquery t n some one among sub e = respelt d p h (codes "subquery") vs f t (sub f n e)
filter_by d p h vs f of_filter.Other t n some one among sub e = refused p f e

-- below depth 101
by_depth : (d : ℕ) (p h : List ℕ) (vs : Items) (f : Filter) (b : Bool) → nat_lt most_depth d ≡ b → SomeIs (d + 1) p vs → OneIs (d + 1) p vs → InIs d p vs → SubqueryIs d p vs → filter_arm d p (if b then of_filter.Other else filter_word h) vs ≡ Ok f → FilterTold d p (headed h vs) f
by_depth d p h vs f true x some one among sub e = refused p f e
by_depth d p h vs f false x some one among sub e = filter_by d p h vs f (filter_word h) (filter_says h) (room d x) some one among sub e

-- ---- the parts of selections

behind_told : (s e : List ℕ) → behind_select s ≡ Some e → s ≡ codes "select_" ++ e
behind_told (a ∷ b ∷ c ∷ d ∷ e ∷ f ∷ g ∷ rest) r h = by_test (bytes_eq (a ∷ b ∷ c ∷ d ∷ e ∷ f ∷ g ∷ []) (codes "select_")) refl h
  where
    by_test : (t : Bool) → bytes_eq (a ∷ b ∷ c ∷ d ∷ e ∷ f ∷ g ∷ []) (codes "select_") ≡ t → (if t then Some rest else None) ≡ Some r → a ∷ b ∷ c ∷ d ∷ e ∷ f ∷ g ∷ rest ≡ codes "select_" ++ r
    by_test true x y =
        let same : a ∷ b ∷ c ∷ d ∷ e ∷ f ∷ g ∷ [] ≡ codes "select_" = one_text _ _ x in
        let rest_is : rest ≡ r = cc in
        λ k. same k ++ rest_is k
    by_test false x y = absurd (let apart : None ≡ Some r = y in cc)
behind_told _ r h = absurd (let apart : None ≡ Some r = h in cc)

entity_told : (p s : List ℕ) (o : Option (List ℕ)) (n : Name) → behind_select s ≡ o → entity_behind p o ≡ Ok n → (e : List ℕ) × (s ≡ codes "select_" ++ e) × (n ≡ name e (p ++ 0 ∷ []))
entity_told p s None n x h = refused p n h
entity_told p s (Some e) n x h = (e, behind_told s e x, gave (name e (p ++ 0 ∷ [])) n h)

-- an extract with a filter
extract_where : (d : ℕ) (p h : List ℕ) (v w : Json) (x : Extract) → h ≡ codes "extract" → ((f : Filter) → filter_at d (p ++ 2 ∷ []) w ≡ Ok f → FilterTold d (p ++ 2 ∷ []) w f) → (shown_at (p ++ 1 ∷ []) v >>= λ s. filter_at d (p ++ 2 ∷ []) w >>= λ f. Ok (extract s (clause f) [])) ≡ Ok x → ExtractTold d p (headed h (item v (item w no_items))) x
extract_where d p h v w x t told e =
    let b = bound (shown_at (p ++ 1 ∷ []) v) (λ s. filter_at d (p ++ 2 ∷ []) w >>= λ f. Ok (extract s (clause f) [])) x e in
    let c = bound (filter_at d (p ++ 2 ∷ []) w) (λ f. Ok (extract b.first (clause f) [])) x b.then_is in
    let s = shown_told (p ++ 1 ∷ []) v b.first b.was in
    let f = told c.first c.was in
    let is : x ≡ extract b.first (clause c.first) [] = gave (extract b.first (clause c.first) []) x c.then_is in
    let low : d + height c.first ≤ 101 = f.depth in
    record {
      form = extracting s.form (such_that f.form) ungrouped;
      good = (s.good, f.good);
      value_is = λ k. headed (t k) (item (s.value_is k) (item (f.value_is k) no_items));
      means = is ∙ (λ k. extract (s.means k) (clause (f.means k)) []);
      depth = omega (arith, ap (λ (y : Extract). clause_height y.where_clause) is);
    }

extract_groups : (d : ℕ) (p h : List ℕ) (v w : Json) (x : Extract) → h ≡ codes "extract" → (shown_at (p ++ 1 ∷ []) v >>= λ s. group_at (p ++ 2 ∷ []) w >>= λ g. Ok (extract s no_clause g)) ≡ Ok x → ExtractTold d p (headed h (item v (item w no_items))) x
extract_groups d p h v w x t e =
    let b = bound (shown_at (p ++ 1 ∷ []) v) (λ s. group_at (p ++ 2 ∷ []) w >>= λ g. Ok (extract s no_clause g)) x e in
    let c = bound (group_at (p ++ 2 ∷ []) w) (λ g. Ok (extract b.first no_clause g)) x b.then_is in
    let s = shown_told (p ++ 1 ∷ []) v b.first b.was in
    let g = group_told (p ++ 2 ∷ []) w c.first c.was in
    let is : x ≡ extract b.first no_clause c.first = gave (extract b.first no_clause c.first) x c.then_is in
    record {
      form = extracting s.form anywhere (grouped g.first g.others);
      good = (s.good, tt);
      value_is = λ k. headed (t k) (item (s.value_is k) (item (g.value_is k) no_items));
      means = is ∙ (λ k. extract (s.means k) no_clause (g.means k));
      depth = omega (arith, ap (λ (y : Extract). clause_height y.where_clause) is);
    }

-- a second element behind the columns: groups or a filter
extract_second : (d : ℕ) (p h : List ℕ) (v w : Json) (x : Extract) (g : Bool) → h ≡ codes "extract" → ((f : Filter) → filter_at d (p ++ 2 ∷ []) w ≡ Ok f → FilterTold d (p ++ 2 ∷ []) w f) → (shown_at (p ++ 1 ∷ []) v >>= λ s. if g then (group_at (p ++ 2 ∷ []) w >>= λ g. Ok (extract s no_clause g)) else (filter_at d (p ++ 2 ∷ []) w >>= λ f. Ok (extract s (clause f) []))) ≡ Ok x → ExtractTold d p (headed h (item v (item w no_items))) x
extract_second d p h v w x true t told e = extract_groups d p h v w x t e
extract_second d p h v w x false t told e = extract_where d p h v w x t told e

extract_both : (d : ℕ) (p h : List ℕ) (v w u : Json) (x : Extract) → h ≡ codes "extract" → ((f : Filter) → filter_at d (p ++ 2 ∷ []) w ≡ Ok f → FilterTold d (p ++ 2 ∷ []) w f) → (shown_at (p ++ 1 ∷ []) v >>= λ s. filter_at d (p ++ 2 ∷ []) w >>= λ f. group_at (p ++ 3 ∷ []) u >>= λ g. Ok (extract s (clause f) g)) ≡ Ok x → ExtractTold d p (headed h (item v (item w (item u no_items)))) x
extract_both d p h v w u x t told e =
    let b = bound (shown_at (p ++ 1 ∷ []) v) (λ s. filter_at d (p ++ 2 ∷ []) w >>= λ f. group_at (p ++ 3 ∷ []) u >>= λ g. Ok (extract s (clause f) g)) x e in
    let c = bound (filter_at d (p ++ 2 ∷ []) w) (λ f. group_at (p ++ 3 ∷ []) u >>= λ g. Ok (extract b.first (clause f) g)) x b.then_is in
    let a = bound (group_at (p ++ 3 ∷ []) u) (λ g. Ok (extract b.first (clause c.first) g)) x c.then_is in
    let s = shown_told (p ++ 1 ∷ []) v b.first b.was in
    let f = told c.first c.was in
    let g = group_told (p ++ 3 ∷ []) u a.first a.was in
    let is : x ≡ extract b.first (clause c.first) a.first = gave (extract b.first (clause c.first) a.first) x a.then_is in
    let low : d + height c.first ≤ 101 = f.depth in
    record {
      form = extracting s.form (such_that f.form) (grouped g.first g.others);
      good = (s.good, f.good);
      value_is = λ k. headed (t k) (item (s.value_is k) (item (f.value_is k) (item (g.value_is k) no_items)));
      means = is ∙ (λ k. extract (s.means k) (clause (f.means k)) (g.means k));
      depth = omega (arith, ap (λ (y : Extract). clause_height y.where_clause) is);
    }

extract_alone : (d : ℕ) (p h : List ℕ) (v : Json) (x : Extract) → h ≡ codes "extract" → (shown_at (p ++ 1 ∷ []) v >>= λ s. Ok (extract s no_clause [])) ≡ Ok x → ExtractTold d p (headed h (item v no_items)) x
extract_alone d p h v x t e =
    let b = bound (shown_at (p ++ 1 ∷ []) v) (λ s. Ok (extract s no_clause [])) x e in
    let s = shown_told (p ++ 1 ∷ []) v b.first b.was in
    let is : x ≡ extract b.first no_clause [] = gave (extract b.first no_clause []) x b.then_is in
    record {
      form = extracting s.form anywhere ungrouped;
      good = (s.good, tt);
      value_is = λ k. headed (t k) (item (s.value_is k) no_items);
      means = is ∙ (λ k. extract (s.means k) no_clause []);
      depth = omega (arith, ap (λ (y : Extract). clause_height y.where_clause) is);
    }

within_by : (d : ℕ) (p : List ℕ) (v w : Json) (vs : Items) (q : Level) → ((x : Extract) → extract_at d (p ++ 2 ∷ []) w ≡ Ok x → ExtractTold d (p ++ 2 ∷ []) w x) → (name_at (p ++ 1 ∷ []) v >>= λ e. extract_at d (p ++ 2 ∷ []) w >>= λ x. paging_at p 3 unpaged vs >>= λ g. Ok (extracted e x g)) ≡ Ok q → WithinTold d p (item v (item w vs)) q
within_by d p v w vs q told h =
    let b = bound (name_at (p ++ 1 ∷ []) v) (λ e. extract_at d (p ++ 2 ∷ []) w >>= λ x. paging_at p 3 unpaged vs >>= λ g. Ok (extracted e x g)) q h in
    let c = bound (extract_at d (p ++ 2 ∷ []) w) (λ x. paging_at p 3 unpaged vs >>= λ g. Ok (extracted b.first x g)) q b.then_is in
    let a = bound (paging_at p 3 unpaged vs) (λ g. Ok (extracted b.first c.first g)) q c.then_is in
    let e = name_told (p ++ 1 ∷ []) v b.first b.was in
    let x = told c.first c.was in
    let g = paging_told p 3 vs a.first a.was in
    let is : q ≡ extracted b.first c.first a.first = gave (extracted b.first c.first a.first) q a.then_is in
    let low : clause_height c.first.where_clause ≤ 101 - d = x.depth in
    record {
      entity = e.form;
      extract_form = x.form;
      parts = g.form;
      good = (x.good, g.good);
      value_is = λ k. item (e.value_is k) (item (x.value_is k) (g.value_is k));
      means = is ∙ (λ k. extracted (e.means k) (x.means k) (g.means k));
      depth = omega (arith, ap level_height is);
    }

mutual
  filter_told : (d : ℕ) (p : List ℕ) (v : Json) (f : Filter) → filter_at d p v ≡ Ok f → FilterTold d p v f
  filter_told d p (json.array (item (json.string h) vs)) f e =
      by_depth d p h vs f (nat_lt most_depth d) refl (λ fs. some_told (d + 1) p vs fs) (λ f. one_told (d + 1) p vs f)
      (λ f. in_told d p vs f) (λ f. subquery_told d p vs f) e
  filter_told d p _ f e = refused p f e

  filters_told : (d : ℕ) (p : List ℕ) (i : ℕ) (vs : Items) (fs : List Filter) → filters_at d p i vs ≡ Ok fs → FiltersTold d p i vs fs
  filters_told d p i no_items fs e =
      let is : fs ≡ [] = gave [] fs e in
      record { form = last; good = tt; value_is = refl; means = is; depth = omega (arith, ap (λ xs. heights (filters_of xs)) is) }
  filters_told d p i (item v vs) fs e =
      let b = bound (filter_at d (p ++ i ∷ []) v) (λ f. filters_at d p (i + 1) vs >>= λ fs. Ok (f ∷ fs)) fs e in
      let c = bound (filters_at d p (i + 1) vs) (λ fs. Ok (b.first ∷ fs)) fs b.then_is in
      let one = filter_told d (p ++ i ∷ []) v b.first b.was in
      let rest = filters_told d p (i + 1) vs c.first c.was in
      let is : fs ≡ b.first ∷ c.first = gave (b.first ∷ c.first) fs c.then_is in
      let low : d + height b.first ≤ 101 = one.depth in
      let lower : heights (filters_of c.first) ≤ 101 - d = rest.depth in
      record {
        form = next one.form rest.form;
        good = (one.good, rest.good);
        value_is = λ k. item (one.value_is k) (rest.value_is k);
        means = is ∙ (λ k. one.means k ∷ rest.means k);
        depth = omega (arith, ap (λ xs. heights (filters_of xs)) is);
      }

  some_told : (d : ℕ) (p : List ℕ) (vs : Items) (fs : List Filter) → some_at d p vs ≡ Ok fs → SomeTold d p vs fs
  some_told d p no_items fs e = refused p fs e
  some_told d p (item v vs) fs e =
      let b = bound (filter_at d (p ++ 1 ∷ []) v) (λ f. filters_at d p 2 vs >>= λ fs. Ok (f ∷ fs)) fs e in
      let c = bound (filters_at d p 2 vs) (λ fs. Ok (b.first ∷ fs)) fs b.then_is in
      let one = filter_told d (p ++ 1 ∷ []) v b.first b.was in
      let rest = filters_told d p 2 vs c.first c.was in
      let is : fs ≡ b.first ∷ c.first = gave (b.first ∷ c.first) fs c.then_is in
      let low : d + height b.first ≤ 101 = one.depth in
      let lower : heights (filters_of c.first) ≤ 101 - d = rest.depth in
      record {
        first = one.form;
        others = rest.form;
        good = (one.good, rest.good);
        value_is = λ k. item (one.value_is k) (rest.value_is k);
        means = is ∙ (λ k. one.means k ∷ rest.means k);
        depth = omega (arith, ap (λ xs. heights (filters_of xs)) is);
      }

  one_told : (d : ℕ) (p : List ℕ) (vs : Items) (f : Filter) → one_at d p vs ≡ Ok f → OneTold d p vs f
  one_told d p (item v no_items) f e =
      let t = filter_told d (p ++ 1 ∷ []) v f e in
      record { form = t.form; good = t.good; value_is = λ k. item (t.value_is k) no_items; means = t.means; depth = t.depth }
  one_told d p _ f e = refused p f e

  in_told : (d : ℕ) (p : List ℕ) (vs : Items) (f : Filter) → d ≤ most_depth → in_at (d + 1) p vs ≡ Ok f → FilterTold d p (headed (codes "in") vs) f
  in_told d p (item c (item v no_items)) f n e =
      let b = bound (left_at (p ++ 1 ∷ []) c) (λ fs. inner_at (d + 1) (p ++ 2 ∷ []) fs v) f e in
      inner_told d p c b.first v f (left_told (p ++ 1 ∷ []) c b.first b.was) n b.then_is
  in_told d p _ f n e = refused p f e

  inner_told : (d : ℕ) (p : List ℕ) (c : Json) (fs : List Field) (v : Json) (f : Filter) → LeftTold (p ++ 1 ∷ []) c fs → d ≤ most_depth → inner_at (d + 1) (p ++ 2 ∷ []) fs v ≡ Ok f → FilterTold d p (headed (codes "in") (item c (item v no_items))) f
  inner_told d p c fs (json.array (item (json.string h) vs)) f l n e =
      inner_by d p c fs h vs f (inner_word h) l (inner_says h) n (λ q. select_told (d + 1) (p ++ 2 ∷ []) vs q)
      (λ q. within_told (d + 1) (p ++ 2 ∷ []) vs q) e
  inner_told d p c fs _ f l n e = refused (p ++ 2 ∷ []) f e

  select_told : (d : ℕ) (p : List ℕ) (vs : Items) (q : Level) → select_at d p vs ≡ Ok q → SelectTold d p vs q
  select_told d p (item c (item v no_items)) q e =
      let b = bound (columns_at (p ++ 1 ∷ []) c) (λ cs. rows_of_at d (p ++ 2 ∷ []) cs v) q e in
      let s = columns_told (p ++ 1 ∷ []) c b.first b.was in
      let r = rows_of_told d (p ++ 2 ∷ []) b.first v q b.then_is in
      record {
        columns = s.form;
        entity = r.entity;
        such = r.such;
        good = r.good;
        value_is = λ k. item (s.value_is k) (item (r.value_is k) no_items);
        means = r.means ∙ (λ k. level (name r.entity ((p ++ 2 ∷ []) ++ 0 ∷ [])) (Some (map selected.Column (s.means k))) (where_meaning ((p ++ 2 ∷ []) ++ 1 ∷ []) r.such) [] unpaged);
        depth = r.depth;
      }
  select_told d p _ q e = refused p q e

  rows_of_told : (d : ℕ) (p : List ℕ) (cs : List Name) (v : Json) (q : Level) → rows_of_at d p cs v ≡ Ok q → RowsTold d p cs v q
  rows_of_told d p cs (json.array (item (json.string s) no_items)) q h =
      let b = bound (entity_behind p (behind_select s)) (λ e. Ok (level e (Some (map selected.Column cs)) no_clause [] unpaged)) q h in
      let t = entity_told p s (behind_select s) b.first refl b.was in
      let is : q ≡ level b.first (Some (map selected.Column cs)) no_clause [] unpaged = gave (level b.first (Some (map selected.Column cs)) no_clause [] unpaged) q b.then_is in
      record {
        entity = t.0;
        such = anywhere;
        good = tt;
        value_is = λ k. headed (t.1 k) no_items;
        means = is ∙ (λ k. level (t.2 k) (Some (map selected.Column cs)) no_clause [] unpaged);
        depth = omega (arith, ap level_height is);
      }
  rows_of_told d p cs (json.array (item (json.string s) (item w no_items))) q h =
      let b = bound (entity_behind p (behind_select s)) (λ e. filter_at d (p ++ 1 ∷ []) w >>= λ f. Ok (level e (Some (map selected.Column cs)) (clause f) [] unpaged)) q h in
      let c = bound (filter_at d (p ++ 1 ∷ []) w) (λ f. Ok (level b.first (Some (map selected.Column cs)) (clause f) [] unpaged)) q b.then_is in
      let t = entity_told p s (behind_select s) b.first refl b.was in
      let f = filter_told d (p ++ 1 ∷ []) w c.first c.was in
      let is : q ≡ level b.first (Some (map selected.Column cs)) (clause c.first) [] unpaged = gave (level b.first (Some (map selected.Column cs)) (clause c.first) [] unpaged) q c.then_is in
      let low : d + height c.first ≤ 101 = f.depth in
      record {
        entity = t.0;
        such = such_that f.form;
        good = f.good;
        value_is = λ k. headed (t.1 k) (item (f.value_is k) no_items);
        means = is ∙ (λ k. level (t.2 k) (Some (map selected.Column cs)) (clause (f.means k)) [] unpaged);
        depth = omega (arith, ap level_height is);
      }
  rows_of_told d p cs _ q h = refused p q h

  subquery_told : (d : ℕ) (p : List ℕ) (vs : Items) (f : Filter) → d ≤ most_depth → subquery_at (d + 1) p vs ≡ Ok f → FilterTold d p (headed (codes "subquery") vs) f
  subquery_told d p (item v no_items) f n h =
      let b = bound (name_at (p ++ 1 ∷ []) v) (λ e. Ok (subquery e no_clause)) f h in
      let e = name_told (p ++ 1 ∷ []) v b.first b.was in
      let is : f ≡ subquery b.first no_clause = gave (subquery b.first no_clause) f b.then_is in
      record {
        form = subquery_of e.form anywhere;
        good = tt;
        value_is = λ k. headed (codes "subquery") (item (e.value_is k) no_items);
        means = is ∙ (λ k. subquery (e.means k) no_clause);
        depth = omega (arith, ap height is);
      }
  subquery_told d p (item v (item w no_items)) f n h =
      let b = bound (name_at (p ++ 1 ∷ []) v) (λ e. filter_at (d + 1) (p ++ 2 ∷ []) w >>= λ f. Ok (subquery e (clause f))) f h in
      let c = bound (filter_at (d + 1) (p ++ 2 ∷ []) w) (λ f. Ok (subquery b.first (clause f))) f b.then_is in
      let e = name_told (p ++ 1 ∷ []) v b.first b.was in
      let t = filter_told (d + 1) (p ++ 2 ∷ []) w c.first c.was in
      let is : f ≡ subquery b.first (clause c.first) = gave (subquery b.first (clause c.first)) f c.then_is in
      let low : d + 1 + height c.first ≤ 101 = t.depth in
      record {
        form = subquery_of e.form (such_that t.form);
        good = t.good;
        value_is = λ k. headed (codes "subquery") (item (e.value_is k) (item (t.value_is k) no_items));
        means = is ∙ (λ k. subquery (e.means k) (clause (t.means k)));
        depth = omega (arith, ap height is);
      }
  subquery_told d p _ f n h = refused p f h

  extract_told : (d : ℕ) (p : List ℕ) (v : Json) (x : Extract) → extract_at d p v ≡ Ok x → ExtractTold d p v x
  extract_told d p (json.array (item (json.string h) vs)) x e =
      let c = chosen (bytes_eq h (codes "extract")) (extracted_at d p vs) p x e in
      extracted_told d p h vs x (one_text h (codes "extract") c.0) c.1
  extract_told d p _ x e = refused p x e

  extracted_told : (d : ℕ) (p h : List ℕ) (vs : Items) (x : Extract) → h ≡ codes "extract" → extracted_at d p vs ≡ Ok x → ExtractTold d p (headed h vs) x
  extracted_told d p h (item v no_items) x t e = extract_alone d p h v x t e
  extracted_told d p h (item v (item w no_items)) x t e = extract_second d p h v w x (is_group w) t (λ f. filter_told d (p ++ 2 ∷ []) w f) e
  extracted_told d p h (item v (item w (item u no_items))) x t e = extract_both d p h v w u x t (λ f. filter_told d (p ++ 2 ∷ []) w f) e
  extracted_told d p h _ x t e = refused p x e

  within_told : (d : ℕ) (p : List ℕ) (vs : Items) (q : Level) → query_within d p vs ≡ Ok q → WithinTold d p vs q
  within_told d p (item v (item w vs)) q e = within_by d p v w vs q (λ x. extract_told d (p ++ 2 ∷ []) w x) e
  within_told d p _ q e = refused p q e

-- ---- whole queries

filter_query : (e : List ℕ) (v : Json) (vs : Items) (q : Level) → filter_body [] (name e (1 ∷ [])) v vs ≡ Ok q → SpellsQuery (headed (codes "from") (item (json.string e) (item v vs))) q
filter_query e v vs q h =
    let b = bound (filter_at 1 (2 ∷ []) v) (λ f. paging_at [] 3 unpaged vs >>= λ g. Ok (level (name e (1 ∷ [])) None (clause f) [] g)) q h in
    let c = bound (paging_at [] 3 unpaged vs) (λ g. Ok (level (name e (1 ∷ [])) None (clause b.first) [] g)) q b.then_is in
    let f = filter_told 1 (2 ∷ []) v b.first b.was in
    let g = paging_told [] 3 vs c.first c.was in
    let is : q ≡ level (name e (1 ∷ [])) None (clause b.first) [] c.first = gave (level (name e (1 ∷ [])) None (clause b.first) [] c.first) q c.then_is in
    let low : 1 + height b.first ≤ 101 = f.depth in
    record {
      form = from_filter e f.form g.form;
      is_form = (f.good, g.good);
      value_is = λ k. headed (codes "from") (item (json.string e) (item (f.value_is k) (g.value_is k)));
      means = is ∙ (λ k. level (name e (1 ∷ [])) None (clause (f.means k)) [] (g.means k));
      depth = omega (arith, ap level_height is);
    }

extract_query : (e : List ℕ) (v : Json) (vs : Items) (q : Level) → extract_body [] (name e (1 ∷ [])) v vs ≡ Ok q → SpellsQuery (headed (codes "from") (item (json.string e) (item v vs))) q
extract_query e v vs q h =
    let b = bound (extract_at 1 (2 ∷ []) v) (λ x. paging_at [] 3 unpaged vs >>= λ g. Ok (extracted (name e (1 ∷ [])) x g)) q h in
    let c = bound (paging_at [] 3 unpaged vs) (λ g. Ok (extracted (name e (1 ∷ [])) b.first g)) q b.then_is in
    let x = extract_told 1 (2 ∷ []) v b.first b.was in
    let g = paging_told [] 3 vs c.first c.was in
    let is : q ≡ extracted (name e (1 ∷ [])) b.first c.first = gave (extracted (name e (1 ∷ [])) b.first c.first) q c.then_is in
    let low : clause_height b.first.where_clause ≤ 101 - 1 = x.depth in
    record {
      form = from_extract e x.form g.form;
      is_form = (x.good, g.good);
      value_is = λ k. headed (codes "from") (item (json.string e) (item (x.value_is k) (g.value_is k)));
      means = is ∙ (λ k. extracted (name e (1 ∷ [])) (x.means k) (g.means k));
      depth = omega (arith, ap level_height is);
    }

paged_query : (e : List ℕ) (vs : Items) (q : Level) → paged_body [] (name e (1 ∷ [])) vs ≡ Ok q → SpellsQuery (headed (codes "from") (item (json.string e) vs)) q
paged_query e vs q h =
    let b = bound (paging_at [] 2 unpaged vs) (λ g. Ok (level (name e (1 ∷ [])) None no_clause [] g)) q h in
    let g = paging_told [] 2 vs b.first b.was in
    let is : q ≡ level (name e (1 ∷ [])) None no_clause [] b.first = gave (level (name e (1 ∷ [])) None no_clause [] b.first) q b.then_is in
    record {
      form = from_all e g.form;
      is_form = g.good;
      value_is = λ k. headed (codes "from") (item (json.string e) (g.value_is k));
      means = is ∙ (λ k. level (name e (1 ∷ [])) None no_clause [] (g.means k));
      depth = omega (arith, ap level_height is);
    }

body_by : (e : List ℕ) (v : Json) (vs : Items) (q : Level) (w : PartWord) → body_arm [] (name e (1 ∷ [])) w v vs ≡ Ok q → SpellsQuery (headed (codes "from") (item (json.string e) (item v vs))) q
body_by e v vs q of_part.Extract h = extract_query e v vs q h
body_by e v vs q of_part.Other h = filter_query e v vs q h
body_by e v vs q of_part.Limit h = paged_query e (item v vs) q h
body_by e v vs q of_part.Offset h = paged_query e (item v vs) q h
body_by e v vs q of_part.OrderBy h = paged_query e (item v vs) q h

body_told : (e : List ℕ) (vs : Items) (q : Level) → body_at [] (name e (1 ∷ [])) vs ≡ Ok q → SpellsQuery (headed (codes "from") (item (json.string e) vs)) q
body_told e no_items q h = paged_query e no_items q h
body_told e (item v vs) q h = body_by e v vs q (word_of v) h

respelt_query : (u v : Json) (q : Level) → u ≡ v → SpellsQuery v q → SpellsQuery u q
respelt_query u v q t r = record { form = r.form; is_form = r.is_form; value_is = t ∙ r.value_is; means = r.means; depth = r.depth }

pub query_told : (v : Json) (q : Level) → query v ≡ Ok q → SpellsQuery v q
query_told (json.array (item (json.string h) (item (json.string e) vs))) q x =
    let c = chosen (bytes_eq h (codes "from")) (body_at [] (name e (1 ∷ [])) vs) [] q x in
    respelt_query _ (headed (codes "from") (item (json.string e) vs)) q (λ k. headed (one_text h (codes "from") c.0 k) (item (json.string e) vs)) (body_told e vs q c.1)
query_told (json.array (item (json.string h) (item e vs))) q x =
    let c = chosen (bytes_eq h (codes "from")) (name_at (1 ∷ []) e >>= λ e. body_at [] e vs) [] q x in
    refused (1 ∷ []) q c.1
query_told _ q x = refused [] q x

-- ---- routes

route_by_filter : (e : Name) (v : Json) (q : Level) → filter_route e [] v ≡ Ok q → SpellsRoute e v q
route_by_filter e v q h =
    let b = bound (filter_at 1 [] v) (λ f. Ok (level e None (clause f) [] unpaged)) q h in
    let f = filter_told 1 [] v b.first b.was in
    let is : q ≡ level e None (clause b.first) [] unpaged = gave (level e None (clause b.first) [] unpaged) q b.then_is in
    let low : 1 + height b.first ≤ 101 = f.depth in
    record {
      form = route_filter f.form;
      is_form = f.good;
      value_is = f.value_is;
      means = is ∙ (λ k. level e None (clause (f.means k)) [] unpaged);
      depth = omega (arith, ap level_height is);
    }

route_by_extract : (e : Name) (v : Json) (q : Level) → extract_route e [] v ≡ Ok q → SpellsRoute e v q
route_by_extract e v q h =
    let b = bound (extract_at 1 [] v) (λ x. Ok (extracted e x unpaged)) q h in
    let x = extract_told 1 [] v b.first b.was in
    let is : q ≡ extracted e b.first unpaged = gave (extracted e b.first unpaged) q b.then_is in
    let low : clause_height b.first.where_clause ≤ 101 - 1 = x.depth in
    record {
      form = route_extract x.form;
      is_form = x.good;
      value_is = x.value_is;
      means = is ∙ (λ k. extracted e (x.means k) unpaged);
      depth = omega (arith, ap level_height is);
    }

route_by : (e : Name) (v : Json) (q : Level) (w : PartWord) → route_arm e [] w v ≡ Ok q → SpellsRoute e v q
route_by e v q of_part.Extract h = route_by_extract e v q h
route_by e v q of_part.Other h = route_by_filter e v q h
route_by e v q of_part.Limit h = route_by_filter e v q h
route_by e v q of_part.Offset h = route_by_filter e v q h
route_by e v q of_part.OrderBy h = route_by_filter e v q h

pub route_told : (e : Name) (v : Json) (q : Level) → route_at e [] v ≡ Ok q → SpellsRoute e v q
route_told e v q h = route_by e v q (word_of v) h
