-- A query with all its places removed.
use Rattle.std.specs.Prelude.{[], map}
use Rattle.std.specs.Option.{option_map}
use Rattle.paging_text.specs.query_spec.declared.parts.Field.{Field}
use Rattle.paging_text.specs.query_spec.declared.parts.Field.TheVariants as field
use Rattle.paging_text.specs.query_spec.declared.parts.Literal.{Literal}
use Rattle.paging_text.specs.query_spec.declared.parts.Name.{Name}
use Rattle.paging_text.specs.query_spec.declared.parts.Order.{Order}
use Rattle.paging_text.specs.query_spec.declared.parts.Paging.{Paging}
use Rattle.paging_text.specs.query_spec.declared.parts.Pattern.{Pattern}
use Rattle.paging_text.specs.query_spec.declared.parts.Selected.{Selected}
use Rattle.paging_text.specs.query_spec.declared.parts.Selected.TheVariants as selected
use Rattle.paging_text.specs.query_spec.Query as query
use Rattle.paging_text.specs.query_spec.Query.{Filter, compare, matches, is_null, in_list, in_level, subquery, negation, all_of, any_of, Filters, no_filters, Clause, no_clause, clause, Level, level}

abbrev pub bare_name : Name → Name
bare_name n = record { text = n.text; place = [] }

abbrev pub bare_field : Field → Field
bare_field (field.Column n) = field.Column (bare_name n)
bare_field (field.Parameter n) = field.Parameter (bare_name n)
bare_field (field.Fact n) = field.Fact (bare_name n)
bare_field (field.Tag p) = field.Tag []
bare_field (field.NodeState p) = field.NodeState []

abbrev pub bare_literal : Literal → Literal
bare_literal l = record { value = l.value; place = [] }

abbrev pub bare_pattern : Pattern → Pattern
bare_pattern t = record { text = t.text; place = [] }

abbrev pub bare_selected : Selected → Selected
bare_selected (selected.Column n) = selected.Column (bare_name n)
bare_selected selected.Rows = selected.Rows
bare_selected (selected.Function f n) = selected.Function f (bare_name n)

abbrev pub bare_order : Order → Order
bare_order o = record { column = bare_name o.column; descends = o.descends }

abbrev pub bare_paging : Paging → Paging
bare_paging p = record { order = map bare_order p.order; offset = p.offset; limit = p.limit; include_total = p.include_total }

abbrev mutual
  pub bare_filter : Filter → Filter
  bare_filter (compare o f l) = compare o (bare_field f) (bare_literal l)
  bare_filter (matches f t) = matches (bare_field f) (bare_pattern t)
  bare_filter (is_null f b) = is_null (bare_field f) b
  bare_filter (in_list fs p ls) = in_list (map bare_field fs) [] (map bare_literal ls)
  bare_filter (in_level fs p q) = in_level (map bare_field fs) [] (bare q)
  bare_filter (subquery n k) = subquery (bare_name n) (bare_clause k)
  bare_filter (negation f) = negation (bare_filter f)
  bare_filter (all_of fs) = all_of (bare_filters fs)
  bare_filter (any_of fs) = any_of (bare_filters fs)

  pub bare_filters : Filters → Filters
  bare_filters no_filters = no_filters
  bare_filters (query.filter f fs) = query.filter (bare_filter f) (bare_filters fs)

  pub bare_clause : Clause → Clause
  bare_clause no_clause = no_clause
  bare_clause (clause f) = clause (bare_filter f)

  pub bare : Level → Level
  bare (level n s k g p) = level (bare_name n) (option_map (map bare_selected) s) (bare_clause k) (map bare_name g) (bare_paging p)
