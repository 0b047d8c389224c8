-- The private fields of the item reader, as contracts see them.
use Rattle.std.specs.Prelude.{ℕ, List, Option}
use Rattle.spool_text.specs.declared.reader.ItemReader.{ItemReader}
use Rattle.spool_text.specs.Reading.{Reading}
use Rattle.spool_text.specs.Next as next
use Rattle.spool_text.specs.Unread.{buffered}

abbrev pub reading_of : ItemReader → Reading
reading_of reader = record { ahead = buffered reader.piece; given = reader.given }

abbrev pub unread : ItemReader → Option (List ℕ) → Option (List ℕ)
unread reader left = next.unread (reading_of reader) left

abbrev pub place : ItemReader → ℕ
place reader = reader.given
