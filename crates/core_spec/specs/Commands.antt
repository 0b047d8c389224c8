-- What a command means: the change it decodes to, its group, and its producer timestamp.
use Rattle.std.specs.Prelude.{ℕ, ◌==◌, ℤ, List, [], if◌then◌else◌, Option, Some, None, Result, Err}
use Rattle.json_read.specs.json_machine.Machine as machine
use Rattle.json_read.specs.json_machine.Machine.{verdict}
use Rattle.json_read.specs.json_machine.Verdict.{Verdict, spelled, not_json, too_deep}
use Rattle.json_read.specs.Heads.{head_told}
use Rattle.table_spec.specs.fleet_rows.declared.change.Change.{Change}
use Rattle.table_spec.specs.fleet_rows.declared.command.Command.{Command}
use Rattle.table_spec.specs.fleet_rows.declared.command.Group.{Group}
use Rattle.table_spec.specs.fleet_rows.declared.command.Kind.{Kind}
use Rattle.table_spec.specs.fleet_rows.declared.command.Kind.TheVariants.{Report}
use Rattle.table_spec.specs.fleet_rows.declared.refusal.Refusal.{Refusal}
use Rattle.table_spec.specs.fleet_rows.declared.refusal.Refusal.TheVariants.{BadVersion, NotJson, TooDeep}
use Rattle.table_spec.specs.wire_spec.Decode.{version_of}
use Rattle.table_spec.specs.wire_spec.Table.{value_change}

-- the JSON value that the bytes spell, or the position of the first fault
unfoldable pub verdict_of : List ℕ → Verdict
verdict_of bytes = verdict 127 [] machine.value 0 bytes

abbrev pub told : Kind → Verdict → Result Change Refusal
told kind (spelled v) = value_change kind v
told kind (not_json at) = Err (NotJson at)
told kind (too_deep at) = Err (TooDeep at)

-- the change or the refusal that a command decodes to (`DecodeOf` as a function)
unfoldable pub answer_of : Command → Result Change Refusal
answer_of c = if c.version == version_of c.kind then told c.kind (verdict_of c.payload) else Err BadVersion

-- a group, and the producer timestamp within it
abbrev pub Key : Type 0
Key = Group × ℤ

abbrev pub keyed : Kind → Option (List ℕ × ℤ) → Option Key
keyed kind None = None
keyed Report (Some head) = None
keyed kind (Some head) = Some (record { certname = head.0; kind = kind }, head.1)

-- The group of a command that is no report. Its payload must be an object with a nonempty string at `certname` and a stamp at
-- `producer_timestamp`; otherwise the command has no group.
unfoldable pub key_of : Command → Option Key
key_of c = keyed c.kind (head_told (verdict_of c.payload))
