-- What is read off bytes is spelt by them.
use Rattle.std.proofs.Common.{◌≡◌, ℕ, zero, suc, ◌<◌, List, [], ◌∷◌, get_or, Some, arith}
use Rattle.std.specs.List.{AllByRecursion}
use Rattle.core_spec.specs.record_spec.declared.store.StoreRecord.{StoreRecord}
use Rattle.core_spec.specs.record_spec.Store.{store_text, IsStoreRecord}
use Rattle.store_records.proofs.of_record_fields.Fields.{IsBytes}
use Rattle.store_records.specs.Reading.{store_at}
use Rattle.fleet_keeper.specs.Spelt.{IsByteList}
use Rattle.store_records.proofs.Records.{store_takes}

bytes_of : (bytes : List ℕ) → IsByteList bytes → IsBytes bytes
bytes_of [] all i = omega arith
bytes_of (b ∷ bytes) all zero = all.0
bytes_of (b ∷ bytes) all (suc i) = bytes_of bytes all.1 i

pub takes : (f : List ℕ) (r : StoreRecord) → IsByteList f → store_at f ≡ Some r → IsStoreRecord r × (f ≡ store_text r)
takes f r all is = store_takes f r (bytes_of f all) is
