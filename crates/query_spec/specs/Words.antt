-- The head words of the AST's lists.
use Rattle.std.specs.Prelude.{ℕ, List, [], ◌∷◌, Option, Some, None, codes, if◌then◌else◌}
use Rattle.std.specs.Str.{bytes_eq}
use Rattle.query_spec.specs.declared.parts.Function.{Function}
use Rattle.query_spec.specs.declared.parts.Function.TheVariants.{Count, Sum, Min, Max}
use Rattle.query_spec.specs.declared.parts.Op.TheVariants.{Equal, Less, AtMost, More, AtLeast}
use Rattle.query_spec.specs.declared.words.FieldWord.{FieldWord}
use Rattle.query_spec.specs.declared.words.FieldWord.TheVariants as of_field
use Rattle.query_spec.specs.declared.words.FilterWord.{FilterWord}
use Rattle.query_spec.specs.declared.words.FilterWord.TheVariants as of_filter
use Rattle.query_spec.specs.declared.words.InnerWord.{InnerWord}
use Rattle.query_spec.specs.declared.words.InnerWord.TheVariants as of_inner
use Rattle.query_spec.specs.declared.words.PartWord.{PartWord}
use Rattle.query_spec.specs.declared.words.PartWord.TheVariants as of_part

unfoldable pub filter_word : List ℕ → FilterWord
filter_word s =
    if bytes_eq s (codes "and") then of_filter.And
    else (if bytes_eq s (codes "or") then of_filter.Or
    else (if bytes_eq s (codes "not") then of_filter.Not
    else (if bytes_eq s (codes "=") then of_filter.Compare Equal
    else (if bytes_eq s (codes "<") then of_filter.Compare Less
    else (if bytes_eq s (codes "<=") then of_filter.Compare AtMost
    else (if bytes_eq s (codes ">") then of_filter.Compare More
    else (if bytes_eq s (codes ">=") then of_filter.Compare AtLeast
    else (if bytes_eq s (codes "~") then of_filter.Matches
    else (if bytes_eq s (codes "null?") then of_filter.IsNull
    else (if bytes_eq s (codes "in") then of_filter.In
    else (if bytes_eq s (codes "subquery") then of_filter.Subquery
    else of_filter.Other)))))))))))

unfoldable pub field_word : List ℕ → FieldWord
field_word s =
    if bytes_eq s (codes "parameter") then of_field.Parameter
    else (if bytes_eq s (codes "fact") then of_field.Fact
    else of_field.Other)

unfoldable pub inner_word : List ℕ → InnerWord
inner_word s =
    if bytes_eq s (codes "array") then of_inner.Array
    else (if bytes_eq s (codes "extract") then of_inner.Extract
    else (if bytes_eq s (codes "from") then of_inner.From
    else of_inner.Other))

unfoldable pub part_word : List ℕ → PartWord
part_word s =
    if bytes_eq s (codes "extract") then of_part.Extract
    else (if bytes_eq s (codes "limit") then of_part.Limit
    else (if bytes_eq s (codes "offset") then of_part.Offset
    else (if bytes_eq s (codes "order_by") then of_part.OrderBy
    else of_part.Other)))

unfoldable pub function_named : List ℕ → Option Function
function_named s =
    if bytes_eq s (codes "count") then Some Count
    else (if bytes_eq s (codes "sum") then Some Sum
    else (if bytes_eq s (codes "min") then Some Min
    else (if bytes_eq s (codes "max") then Some Max
    else None)))

abbrev pub function_name : Function → List ℕ
function_name Count = codes "count"
function_name Sum = codes "sum"
function_name Min = codes "min"
function_name Max = codes "max"

-- the entity's name after `select_`
abbrev pub behind_select : List ℕ → Option (List ℕ)
behind_select (a ∷ b ∷ c ∷ d ∷ e ∷ f ∷ g ∷ rest) =
    if bytes_eq (a ∷ b ∷ c ∷ d ∷ e ∷ f ∷ g ∷ []) (codes "select_") then Some rest else None
behind_select _ = None
