-- The encodings of the fields of records. Numbers are little endian.
use Rattle.std.specs.Prelude.{ℕ, ◌^◌, ◌+◌, ◌%◌, ◌/◌, ℤ, List, [], ◌∷◌, ◌++◌, length, Bool, if◌then◌else◌, Option, Some, None, flat_map}
use Rattle.std.specs.Int.{w32, w64, w128, to_le_bytes, cast_unsigned}
use Rattle.history_spec.specs.text_spec.Json.{Json}
use Rattle.history_spec.specs.text_spec.Compact.{compact}
use Rattle.history_spec.specs.fleet_rows.Change.{kind_number}
use Rattle.history_spec.specs.fleet_rows.declared.command.Command.{Command}
use Rattle.history_spec.specs.fleet_rows.declared.settings.Kinds.{Kinds}

-- a length in four bytes, and as many bytes; a text is its UTF-8
abbrev pub bytes_text : List ℕ → List ℕ
bytes_text bytes = to_le_bytes w32 (length bytes) ++ bytes

abbrev pub bool_text : Bool → List ℕ
bool_text b = (if b then 1 else 0) ∷ []

-- 0 for no value, or 1 and the value
abbrev pub optional : {A : Type 0} → (A → List ℕ) → Option A → List ℕ
optional text None = 0 ∷ []
optional text (Some x) = 1 ∷ text x

abbrev pub short_text : ℕ → List ℕ
short_text n = to_le_bytes w32 n

abbrev pub long_text : ℕ → List ℕ
long_text n = to_le_bytes w64 n

-- a moment in nanoseconds, as sixteen bytes of two's complement: the low half, then the high half
unfoldable pub moment_text : ℤ → List ℕ
moment_text m = to_le_bytes w64 (cast_unsigned w128 m % 2 ^ 64) ++ to_le_bytes w64 (cast_unsigned w128 m / 2 ^ 64)

-- a JSON value as its compact text
abbrev pub json_text : Json → List ℕ
json_text j = bytes_text (compact j)

-- a count in four bytes, and the items
abbrev pub list_text : {A : Type 0} → (A → List ℕ) → List A → List ℕ
list_text text xs = to_le_bytes w32 (length xs) ++ flat_map text xs

-- the kinds of a sweep, as bits
abbrev pub kinds_number : Kinds → ℕ
kinds_number kinds = (if kinds.expire then 1 else 0) + ((if kinds.purge then 2 else 0) + (if kinds.reports then 4 else 0))

-- a command as it was received
abbrev pub command_text : Command → List ℕ
command_text c = kind_number c.kind ∷ to_le_bytes w32 c.version ++ (moment_text c.received ++ bytes_text c.payload)
