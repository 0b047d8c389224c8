-- Statements that tie reading a record to its encoding.
use Rattle.std.specs.Prelude.{◌≡◌, ℕ, ◌<◌, List, get_or, Some, None}
use Rattle.record_fields.specs.record_spec.declared.store.StoreRecord.{StoreRecord}
use Rattle.record_fields.specs.record_spec.Store.{store_text, IsStoreRecord}
use Rattle.store_records.specs.Reading.{store_at}

abbrev pub AreBytes : List ℕ → Type 0
AreBytes bytes = (i : ℕ) → get_or bytes i 0 < 256

-- whatever is read from bytes is a record, and the bytes are its encoding
abbrev pub ReadIsSpelled : Type 0
ReadIsSpelled = (bytes : List ℕ) (r : StoreRecord) → AreBytes bytes → store_at bytes ≡ Some r → IsStoreRecord r × (bytes ≡ store_text r)

-- each record is read from its encoding
abbrev pub SpelledIsRead : Type 0
SpelledIsRead = (r : StoreRecord) → IsStoreRecord r → store_at (store_text r) ≡ Some r

-- distinct records have distinct encodings
abbrev pub SpellingTells : Type 0
SpellingTells = (r q : StoreRecord) → IsStoreRecord r → IsStoreRecord q → store_text r ≡ store_text q → r ≡ q

-- bytes that the reader refuses encode no record
abbrev pub OthersAreNone : Type 0
OthersAreNone = (bytes : List ℕ) → store_at bytes ≡ None → (r : StoreRecord) → IsStoreRecord r → bytes ≡ store_text r → ⊥
