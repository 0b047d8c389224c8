-- A reader of an item's first line, without its line feed. The laws tie it to `item_at`.
use Rattle.std.specs.Prelude.{ℕ, ◌^◌, ◌≤◌, ℤ, List, length, ◌&&◌, ◌==◌, nat_le, nat_lt, if◌then◌else◌, Option, Some, None, codes}
use Rattle.text_spec.specs.StampReader.{◌>>=◌, one_of, stamp_of}
use Rattle.spool_maker.specs.history_spec.Thread.{Item, command, sweep}
use Rattle.history_laws.specs.Reading.{or_else, after_word, number_at, kind_at, kinds_at, bytes_at}
use Rattle.spool_text.specs.declared.first_line.FirstLine.{FirstLine}
use Rattle.spool_text.specs.declared.first_line.FirstLine.TheVariants as first
use Rattle.spool_maker.specs.fleet_rows.json_tree.Limits.{most_payload}

unfoldable pub command_line_at : List ℕ → Option FirstLine
command_line_at line = do
  kind ← kind_at line
  version ← number_at kind.1
  after_version ← one_of 32 32 version.1
  size ← number_at after_version
  if (length size.1 == 0) && (nat_lt version.0 (2 ^ 32) && nat_le size.0 most_payload)
      then Some (first.Command kind.0 version.0 size.0) else None

unfoldable pub sweep_line_at : List ℕ → Option FirstLine
sweep_line_at line = do
  rest ← after_word (codes "sweep ") line
  kinds ← kinds_at rest
  moment ← stamp_of kinds.1
  Some (first.Sweep kinds.0 moment)

abbrev pub first_line_at : List ℕ → Option FirstLine
first_line_at line = or_else (command_line_at line) (sweep_line_at line)

-- the payload's length is within the limit
abbrev pub IsSmall : FirstLine → Type 0
IsSmall (first.Command kind version size) = size ≤ most_payload
IsSmall (first.Sweep kinds moment) = Unit {0}

-- the item that begins with this line, and the bytes after it
abbrev pub item_after : ℤ → FirstLine → List ℕ → Option (Item × List ℕ)
item_after received (first.Command kind version size) behind = do
  payload ← bytes_at size behind
  rest ← one_of 10 10 payload.1
  Some (command (record { kind = kind; version = version; received = received; payload = payload.0 }), rest)
item_after received (first.Sweep kinds moment) behind = Some (sweep kinds moment, behind)
