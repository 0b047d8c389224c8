-- What a command decodes to.
use Rattle.std.specs.Prelude.{◌≡◌, ◌≢◌, ℕ, Result, Err}
use Rattle.fleet_rows.specs.text_spec.Json.{Json}
use Rattle.fleet_rows.specs.text_spec.JsonText.{Spells, NotJsonAt, TooDeepAt}
use Rattle.fleet_rows.specs.declared.change.Change.{Change}
use Rattle.fleet_rows.specs.declared.command.Command.{Command}
use Rattle.fleet_rows.specs.declared.command.Kind.{Kind}
use Rattle.fleet_rows.specs.declared.command.Kind.TheVariants.{Facts, Catalog, Report, Deactivate, Expiration}
use Rattle.fleet_rows.specs.declared.refusal.Refusal.{Refusal}
use Rattle.fleet_rows.specs.declared.refusal.Refusal.TheVariants.{BadVersion, NotJson, TooDeep}
use Rattle.wire_spec.specs.Table.{value_change}

-- the accepted version of each wire format
abbrev pub version_of : Kind → ℕ
version_of Facts = 5
version_of Catalog = 9
version_of Report = 8
version_of Deactivate = 3
version_of Expiration = 1

-- the answer to a command: a wrong version is refused first, then a payload that isn't JSON; otherwise the table of fields
-- decides
pub data DecodeOf (command : Command) (answer : Result Change Refusal) : Type 0 where
  bad_version : command.version ≢ version_of command.kind → answer ≡ Err BadVersion → DecodeOf command answer
  not_json : (at : ℕ) → command.version ≡ version_of command.kind → NotJsonAt command.payload at → answer ≡ Err (NotJson at) → DecodeOf command answer
  too_deep : (at : ℕ) → command.version ≡ version_of command.kind → TooDeepAt command.payload at → answer ≡ Err (TooDeep at) → DecodeOf command answer
  value : (v : Json) → command.version ≡ version_of command.kind → Spells command.payload v → answer ≡ value_change command.kind v → DecodeOf command answer
