-- Functions on the parts of a query.
use Rattle.std.specs.Prelude.{ℕ, List, [], Bool, true, false, ◌&&◌, ◌||◌, nat_le, length, None, codes, if◌then◌else◌}
use Rattle.std.specs.Char.{is_ascii_digit}
use Rattle.std.specs.List.{list_all}
use Rattle.std.specs.Str.{bytes_eq}
use Rattle.query_spec.specs.declared.parts.Field.{Field}
use Rattle.query_spec.specs.declared.parts.Field.TheVariants.{Column, Tag, NodeState}
use Rattle.query_spec.specs.declared.parts.Name.{Name}
use Rattle.query_spec.specs.declared.parts.Paging.{Paging}
use Rattle.query_spec.specs.declared.parts.Selected.{Selected}
use Rattle.query_spec.specs.declared.parts.Selected.TheVariants as selected
use Rattle.query_spec.specs.Words.{function_name}

abbrev pub name : List ℕ → List ℕ → Name
name s p = record { text = s; place = p }

-- the field with this name; `tag` and `node_state` are no columns
unfoldable pub field_named : Name → Field
field_named n =
    if bytes_eq n.text (codes "tag") then Tag n.place
    else (if bytes_eq n.text (codes "node_state") then NodeState n.place
    else Column n)

-- ---- what is shown

-- the name of an output column
abbrev pub output_name : Selected → List ℕ
output_name (selected.Column n) = n.text
output_name selected.Rows = codes "count"
output_name (selected.Function f n) = function_name f

abbrev pub is_function : Selected → Bool
is_function (selected.Column n) = false
is_function _ = true

-- two outputs with the same name, at least one of them a function; a column that occurs twice counts once
abbrev pub clashes : Selected → Selected → Bool
clashes a b = bytes_eq (output_name a) (output_name b) && (is_function a || is_function b)

-- ---- paging

abbrev pub unpaged : Paging
unpaged = record { order = []; offset = None; limit = None; include_total = false }

-- at most 19 digits and nothing else. A longer JSON number begins with another digit than 0, so it is 2^63 or greater
abbrev pub are_digits : List ℕ → Bool
are_digits s = nat_le 1 (length s) && nat_le (length s) 19 && list_all is_ascii_digit s
