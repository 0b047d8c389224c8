-- A spool that owns its source, as contracts see it.
use Rattle.std.specs.Prelude.{ℕ, List, Option}
use Rattle.spool_text.specs.Reading.{Owned}
use Rattle.spool_text.specs.Next.{unread, place}

abbrev pub source_of : {S : Type 0} → Owned S → S
source_of spool = spool.source

-- the bytes after the returned items
abbrev pub left_of : {S : Type 0} → (S → Option (List ℕ)) → Owned S → Option (List ℕ)
left_of left spool = unread spool.reading (left spool.source)

-- the number of bytes of the items returned so far
abbrev pub given_of : {S : Type 0} → Owned S → ℕ
given_of spool = place spool.reading
