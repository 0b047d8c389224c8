-- The record of a change, and its spelling.
use Rattle.std.specs.Prelude.{◌≡◌, Option, Some, None}
use Rattle.core_claims.specs.fleet_rows.declared.change.Change.{Change}
use Rattle.core_claims.specs.record_spec.declared.store.StoreRecord.{StoreRecord}
use Rattle.core_claims.specs.record_spec.declared.store.StoreRecord.TheVariants as store
use Rattle.core_settles.specs.declared.prepared.Spelling.{Spelling}

-- the change of a record
abbrev pub change_in : StoreRecord → Option Change
change_in (store.Received r t change) = Some change
change_in _ = None

-- the spelling is that of the change's record, with this receipt and this moment
abbrev pub IsSpellingOf : Spelling → Change → Type 0
IsSpellingOf spelling change = spelling.spelt ≡ store.Received spelling.receipt (Some spelling.received) change
