-- What the reader makes of a list, by its head word.
use Rattle.std.specs.Prelude.{ℕ, ◌+◌, List, [], ◌∷◌, ◌++◌, Ok, Err}
use Rattle.json_machine.specs.text_spec.Json.{Json, Items, item}
use Rattle.query_spec.specs.declared.parts.Field.{Field}
use Rattle.query_spec.specs.declared.parts.Field.TheVariants as field
use Rattle.query_spec.specs.declared.parts.Name.{Name}
use Rattle.query_spec.specs.declared.parts.Paging.{Paging}
use Rattle.query_spec.specs.declared.words.FieldWord.{FieldWord}
use Rattle.query_spec.specs.declared.words.FieldWord.TheVariants as of_field
use Rattle.query_spec.specs.declared.words.FilterWord.{FilterWord}
use Rattle.query_spec.specs.declared.words.FilterWord.TheVariants as of_filter
use Rattle.query_spec.specs.declared.words.InnerWord.{InnerWord}
use Rattle.query_spec.specs.declared.words.InnerWord.TheVariants as of_inner
use Rattle.query_spec.specs.declared.words.PartWord.{PartWord}
use Rattle.query_spec.specs.declared.words.PartWord.TheVariants as of_part
use Rattle.query_spec.specs.Ast.{Read, ◌>>=◌, name_at, with_limit, with_offset, with_order, compared_at, matched_at, null_at, some_at, one_at, in_at, subquery_at, listed_at, select_at, query_within, extract_body, filter_body, paged_body, filter_route, extract_route}
use Rattle.query_spec.specs.Query.{Filter, in_level, negation, all_of, any_of, filters_of, Level}

abbrev pub field_arm : List ℕ → FieldWord → Json → Read Field
field_arm p w v = elim w [
  | of_field.Parameter ↦ name_at (p ++ 1 ∷ []) v >>= λ n. Ok (field.Parameter n)
  | of_field.Fact ↦ name_at (p ++ 1 ∷ []) v >>= λ n. Ok (field.Fact n)
  | of_field.Other ↦ Err p
]

abbrev pub part_arm : List ℕ → PartWord → Paging → Json → Read Paging
part_arm p w g v = elim w [
  | of_part.Limit ↦ with_limit p g v
  | of_part.Offset ↦ with_offset p g v
  | of_part.OrderBy ↦ with_order p g v
  | of_part.Extract ↦ Err p
  | of_part.Other ↦ Err p
]

abbrev pub filter_arm : ℕ → List ℕ → FilterWord → Items → Read Filter
filter_arm d p w vs = elim w [
  | of_filter.And ↦ some_at (d + 1) p vs >>= λ fs. Ok (all_of (filters_of fs))
  | of_filter.Or ↦ some_at (d + 1) p vs >>= λ fs. Ok (any_of (filters_of fs))
  | of_filter.Not ↦ one_at (d + 1) p vs >>= λ f. Ok (negation f)
  | of_filter.Compare o ↦ compared_at o p vs
  | of_filter.Matches ↦ matched_at p vs
  | of_filter.IsNull ↦ null_at p vs
  | of_filter.In ↦ in_at (d + 1) p vs
  | of_filter.Subquery ↦ subquery_at (d + 1) p vs
  | of_filter.Other ↦ Err p
]

abbrev pub inner_arm : ℕ → List ℕ → List Field → InnerWord → Items → Read Filter
inner_arm d p fs w vs = elim w [
  | of_inner.Array ↦ listed_at p fs vs
  | of_inner.Extract ↦ select_at d p vs >>= λ q. Ok (in_level fs p q)
  | of_inner.From ↦ query_within d p vs >>= λ q. Ok (in_level fs p q)
  | of_inner.Other ↦ Err p
]

abbrev pub body_arm : List ℕ → Name → PartWord → Json → Items → Read Level
body_arm p e w v vs = elim w [
  | of_part.Extract ↦ extract_body p e v vs
  | of_part.Other ↦ filter_body p e v vs
  | of_part.Limit ↦ paged_body p e (item v vs)
  | of_part.Offset ↦ paged_body p e (item v vs)
  | of_part.OrderBy ↦ paged_body p e (item v vs)
]

abbrev pub route_arm : Name → List ℕ → PartWord → Json → Read Level
route_arm e p w v = elim w [
  | of_part.Extract ↦ extract_route e p v
  | of_part.Other ↦ filter_route e p v
  | of_part.Limit ↦ filter_route e p v
  | of_part.Offset ↦ filter_route e p v
  | of_part.OrderBy ↦ filter_route e p v
]
