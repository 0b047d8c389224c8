-- The laws of the answers to commands.
use Rattle.std.specs.Prelude.{◌≡◌, ◌<◌, ◌^◌, length, Result, Ok}
use Rattle.history_spec.specs.fleet_rows.declared.change.Change.{Change}
use Rattle.history_spec.specs.fleet_rows.declared.command.Command.{Command}
use Rattle.history_spec.specs.fleet_rows.declared.refusal.Refusal.{Refusal}
use Rattle.history_spec.specs.wire_spec.Decode.{DecodeOf}
use Rattle.history_spec.specs.Lawful.{IsChange}

-- each command has an answer
abbrev pub CommandsHaveSomeAnswer : Type 0
CommandsHaveSomeAnswer = (c : Command) → (answer : Result Change Refusal) × DecodeOf c answer

-- and only one
abbrev pub CommandsHaveOneAnswer : Type 0
CommandsHaveOneAnswer = (c : Command) (answer other : Result Change Refusal) → DecodeOf c answer → DecodeOf c other → answer ≡ other

-- if the payload's length fits 32 bits, every change that a command decodes to meets the rules of its kind
abbrev pub DecodedChangesAreLawful : Type 0
DecodedChangesAreLawful = (c : Command) (change : Change) → length c.payload < 2 ^ 32 → DecodeOf c (Ok change) → IsChange change
