-- The answers of decoding a command, and of its steps.
use Rattle.std.specs.Prelude.{◌≢◌, Result, Ok, Err}
use Rattle.json_read.specs.text_spec.Json.{Json, Members, object}
use Rattle.wire_catalog.specs.fleet_rows.declared.change.Change.{Change}
use Rattle.wire_catalog.specs.fleet_rows.declared.command.Command.{Command}
use Rattle.wire_catalog.specs.wire_spec.Decode.{DecodeOf}
use Rattle.command_decode.specs.declared.fault.DecodeFault.{DecodeFault}
use Rattle.command_decode.specs.declared.fault.DecodeFault.TheVariants.{Refused, Memory}

-- the fault is the command's refusal, or lack of memory
abbrev pub RefusedAs : DecodeFault → Command → Type 0
RefusedAs (Refused refusal) command = DecodeOf command (Err refusal)
RefusedAs Memory command = Unit {0}

-- unless memory runs out, the result is the command's answer: its change or its refusal
abbrev pub DecodedAs : Result Change DecodeFault → Command → Type 0
DecodedAs (Ok change) command = DecodeOf command (Ok change)
DecodedAs (Err fault) command = RefusedAs fault command

abbrev pub IsNoObject : Json → Type 0
IsNoObject j = (ms : Members) → j ≢ object ms
