-- Which functions are shown, and which of their names are taken.
use Rattle.std.specs.Prelude.{◌≡◌, ℕ, List, Bool, true, false, ◌&&◌, ◌||◌, Option, Some, None}
use Rattle.std.specs.List.{list_any}
use Rattle.std.specs.Str.{bytes_eq}
use Rattle.query_spec.specs.declared.parts.Function.{Function}
use Rattle.query_spec.specs.declared.parts.Function.TheVariants.{Count, Sum, Min, Max}
use Rattle.query_spec.specs.declared.parts.Selected.{Selected}
use Rattle.query_spec.specs.Parts.{output_name, is_function}
use Rattle.query_spec.specs.Words.{function_name}
use Rattle.pql_parts.specs.declared.shown.Functions.{Functions}

abbrev pub has : Functions → Function → Bool
has s Count = s.count
has s Sum = s.sum
has s Min = s.min
has s Max = s.max

abbrev pub with : Functions → Option Function → Functions
with s None = s
with s (Some Count) = record s { count = true }
with s (Some Sum) = record s { sum = true }
with s (Some Min) = record s { min = true }
with s (Some Max) = record s { max = true }

-- whether the output has the function's name; columns count only if the flag is set
abbrev pub takes : Bool → Function → Selected → Bool
takes columns g s = bytes_eq (function_name g) (output_name s) && (columns || is_function s)

abbrev pub AreTaken : Bool → List Selected → Functions → Type 0
AreTaken columns cs s = (g : Function) → has s g ≡ list_any (takes columns g) cs
