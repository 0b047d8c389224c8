-- Readers of texts, numbers and JSON values, from left to right.
use Rattle.std.specs.Prelude.{ℕ, ◌^◌, List, [], length, Option, Some, None, nat_lt, nat_le, ◌&&◌, if◌then◌else◌}
use Rattle.std.specs.Int.{w32, w64}
use Rattle.std.specs.Str.{bytes_eq}
use Rattle.json_read.specs.text_spec.Json.{Json, null, boolean, number, string, array, object, levels, members_list}
use Rattle.json_read.specs.text_spec.Compact.{compact}
use Rattle.json_read.specs.json_machine.Verdict.{Verdict, spelled, not_json, too_deep}
use Rattle.json_read.specs.json_machine.Machine.{value, verdict}
use Rattle.record_fields.specs.Reading.{◌>>=◌, Reader, number_at, bytes_at, text_at}

-- ---- texts and numbers

unfoldable pub certname_at : Reader (List ℕ)
certname_at bytes = do
  text ← text_at bytes
  if nat_lt 0 (length text.0) then Some text else None

-- a whole number of at most 18 digits
unfoldable pub whole_at : Reader ℕ
whole_at bytes = do
  n ← number_at w64 bytes
  if nat_lt n.0 (10 ^ 18) then Some n else None

-- a number within these bounds
unfoldable pub between_at : ℕ → ℕ → Reader ℕ
between_at low high bytes = do
  n ← number_at w32 bytes
  if nat_le low n.0 && nat_le n.0 high then Some n else None

-- ---- JSON values

abbrev pub spelled_value : Verdict → Option Json
spelled_value (spelled j) = Some j
spelled_value (not_json at) = None
spelled_value (too_deep at) = None

-- the value of at most this many levels whose compact text the bytes are
unfoldable pub compact_value : ℕ → List ℕ → Option Json
compact_value most bytes = do
  j ← spelled_value (verdict 127 [] value 0 bytes)
  if nat_le (levels j) most && bytes_eq (compact j) bytes then Some j else None

unfoldable pub json_at : ℕ → Reader Json
json_at most bytes = do
  text ← bytes_at bytes
  compact_value most text.0 >>= λ j. Some (j, text.1)

abbrev pub members_if : Json → Option (List (List ℕ × Json))
members_if null = None
members_if (boolean b) = None
members_if (number s) = None
members_if (string s) = None
members_if (array js) = None
members_if (object ms) = Some (members_list ms)

unfoldable pub members_at : ℕ → Reader (List (List ℕ × Json))
members_at most bytes = do
  j ← json_at most bytes
  members_if j.0 >>= λ ms. Some (ms, j.1)
