-- A reader of the store's records, from left to right. The laws tie it to the encoding.
use Rattle.std.specs.Prelude.{ℕ, zero, suc, ℤ, List, [], ◌∷◌, Bool, true, false, Option, Some, None}
use Rattle.std.specs.Int.{w64}
use Rattle.wire_catalog.specs.fleet_rows.declared.change.Change.{Change}
use Rattle.wire_catalog.specs.fleet_rows.declared.settings.Kinds.{Kinds}
use Rattle.record_fields.specs.record_spec.declared.store.StoreRecord.{StoreRecord}
use Rattle.record_fields.specs.record_spec.declared.store.StoreRecord.TheVariants as store
use Rattle.record_fields.specs.Reading.{◌>>=◌, Reader, read_as, both_at, ended, number_at, moment_at, optional_at}
use Rattle.record_values.specs.Fields.{certname_at, between_at}
use Rattle.change_reader.specs.Changes.{change_at}
use Rattle.json_read.specs.stamp_time.Limits.{most_days}

-- the value, if no bytes are left
abbrev pub whole : {A : Type 0} → Option (A × List ℕ) → Option A
whole read = read >>= λ a. ended a.0 a.1

abbrev pub days_at : Reader ℕ
days_at = between_at 1 most_days

abbrev pub Days : Type 0
Days = ℕ × (ℕ × ℕ)

unfoldable pub lifetimes_at : Reader Days
lifetimes_at = both_at days_at (both_at days_at days_at)

abbrev pub make_settings : Days → StoreRecord
make_settings p = store.Settings p.0 p.1.0 p.1.1

unfoldable pub settings_at : Reader StoreRecord
settings_at = read_as make_settings lifetimes_at

abbrev pub make_limits : Days × ℕ → StoreRecord
make_limits p = store.Limits p.0.0 p.0.1.0 p.0.1.1 p.1

unfoldable pub limits_at : Reader StoreRecord
limits_at = read_as make_limits (both_at lifetimes_at (between_at 1 1_000_000))

abbrev pub make_base : Option ℤ × (Option ℤ × Option ℕ) → StoreRecord
make_base p = store.Base p.0 p.1.0 p.1.1

unfoldable pub base_at : Reader StoreRecord
base_at = read_as make_base (both_at (optional_at moment_at) (both_at (optional_at moment_at) (optional_at (number_at w64))))

abbrev pub make_marks : List ℕ × (Option ℤ × Option ℤ) → StoreRecord
make_marks p = store.Marks (record { certname = p.0; active = p.1.0; deactivated = p.1.1 })

unfoldable pub marks_at : Reader StoreRecord
marks_at = read_as make_marks (both_at certname_at (both_at (optional_at moment_at) (optional_at moment_at)))

-- the kinds of a sweep: bit 1 is expiry, 2 purges, 4 reports
abbrev pub kinds_with : Bool → Bool → Bool → Kinds
kinds_with expire purge reports = record { expire = expire; purge = purge; reports = reports }

abbrev pub kinds_at : Reader Kinds
kinds_at [] = None
kinds_at (zero ∷ rest) = Some (kinds_with false false false, rest)
kinds_at (suc zero ∷ rest) = Some (kinds_with true false false, rest)
kinds_at (suc (suc zero) ∷ rest) = Some (kinds_with false true false, rest)
kinds_at (suc (suc (suc zero)) ∷ rest) = Some (kinds_with true true false, rest)
kinds_at (suc (suc (suc (suc zero))) ∷ rest) = Some (kinds_with false false true, rest)
kinds_at (suc (suc (suc (suc (suc zero)))) ∷ rest) = Some (kinds_with true false true, rest)
kinds_at (suc (suc (suc (suc (suc (suc zero))))) ∷ rest) = Some (kinds_with false true true, rest)
kinds_at (suc (suc (suc (suc (suc (suc (suc zero)))))) ∷ rest) = Some (kinds_with true true true, rest)
kinds_at (suc (suc (suc (suc (suc (suc (suc (suc number))))))) ∷ rest) = None

abbrev pub make_swept : Kinds × ℤ → StoreRecord
make_swept p = store.Swept p.0 p.1

unfoldable pub swept_at : Reader StoreRecord
swept_at = read_as make_swept (both_at kinds_at moment_at)

abbrev pub make_applied : ℕ × Change → StoreRecord
make_applied p = store.Applied p.0 p.1

unfoldable pub applied_at : Reader StoreRecord
applied_at = read_as make_applied (both_at (number_at w64) change_at)

abbrev pub make_received : ℕ × (Option ℤ × Change) → StoreRecord
make_received p = store.Received p.0 p.1.0 p.1.1

unfoldable pub received_at : Reader StoreRecord
received_at = read_as make_received (both_at (number_at w64) (both_at (optional_at moment_at) change_at))

-- the record that all of the bytes encode
unfoldable pub store_at : List ℕ → Option StoreRecord
store_at [] = None
store_at (zero ∷ rest) = whole (settings_at rest)
store_at (suc zero ∷ rest) = whole (base_at rest)
store_at (suc (suc zero) ∷ rest) = whole (marks_at rest)
store_at (suc (suc (suc zero)) ∷ rest) = whole (applied_at rest)
store_at (suc (suc (suc (suc zero))) ∷ rest) = whole (swept_at rest)
store_at (suc (suc (suc (suc (suc zero)))) ∷ rest) = whole (received_at rest)
store_at (suc (suc (suc (suc (suc (suc zero))))) ∷ rest) = whole (limits_at rest)
store_at (suc (suc (suc (suc (suc (suc (suc tag)))))) ∷ rest) = None
