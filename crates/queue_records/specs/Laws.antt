-- Statements that tie reading a record to its encoding.
use Rattle.std.specs.Prelude.{◌≡◌, ℕ, ◌<◌, List, get_or, Some, None}
use Rattle.record_fields.specs.record_spec.declared.queue.QueueRecord.{QueueRecord}
use Rattle.record_fields.specs.record_spec.Queue.{queue_text, IsQueueRecord}
use Rattle.queue_records.specs.Reading.{queue_at}

abbrev pub AreBytes : List ℕ → Type 0
AreBytes bytes = (i : ℕ) → get_or bytes i 0 < 256

-- whatever is read from bytes is a record, and the bytes are its encoding
abbrev pub ReadIsSpelled : Type 0
ReadIsSpelled = (bytes : List ℕ) (r : QueueRecord) → AreBytes bytes → queue_at bytes ≡ Some r → IsQueueRecord r × (bytes ≡ queue_text r)

-- each record is read from its encoding
abbrev pub SpelledIsRead : Type 0
SpelledIsRead = (r : QueueRecord) → IsQueueRecord r → queue_at (queue_text r) ≡ Some r

-- distinct records have distinct encodings
abbrev pub SpellingTells : Type 0
SpellingTells = (r q : QueueRecord) → IsQueueRecord r → IsQueueRecord q → queue_text r ≡ queue_text q → r ≡ q

-- bytes that the reader refuses encode no record
abbrev pub OthersAreNone : Type 0
OthersAreNone = (bytes : List ℕ) → queue_at bytes ≡ None → (r : QueueRecord) → IsQueueRecord r → bytes ≡ queue_text r → ⊥
