-- What one call of `next_item` returns, over the bytes before and after it.
use Rattle.std.specs.Prelude.{◌≡◌, ◌≢◌, ℕ, ◌+◌, ◌<◌, ℤ, List, [], ◌++◌, length, Option}
use Rattle.std.specs.List.{AllByRecursion}
use Rattle.std.specs.Io.KnownBytes.{Consumes, prepend_known}
use Rattle.spool_maker.specs.history_spec.Thread.{Item, command, sweep}
use Rattle.history_laws.specs.spool_spec.Spool.{IsItemText, BeginsWithItem}
use Rattle.spool_text.specs.declared.item.NextItem.{NextItem}
use Rattle.spool_text.specs.declared.item.NextItem.TheVariants as next
use Rattle.spool_text.specs.Reading.{Reading}

-- the bytes after the returned items: those read ahead, then those left in the source, if the source tells them
abbrev pub unread : Reading → Option (List ℕ) → Option (List ℕ)
unread reading left = prepend_known reading.ahead left

-- the number of bytes of the items returned so far
abbrev pub place : Reading → ℕ
place reading = reading.given

-- P holds for the item, if the answer is an item
abbrev pub IfItem : NextItem → (Item → Type 0) → Type 0
IfItem (next.Command c) P = P (command c)
IfItem (next.Sweep kinds m) P = P (sweep kinds m)
IfItem next.End P = Unit {0}
IfItem (next.SpoolBad at) P = Unit {0}
IfItem next.ReadFault P = Unit {0}
IfItem next.Memory P = Unit {0}

-- P holds, if the answer is no item
abbrev pub IfNoItem : NextItem → Type 0 → Type 0
IfNoItem (next.Command c) P = Unit {0}
IfNoItem (next.Sweep kinds m) P = Unit {0}
IfNoItem next.End P = P
IfNoItem (next.SpoolBad at) P = P
IfNoItem next.ReadFault P = P
IfNoItem next.Memory P = P

-- P holds for the offset, if the answer is that the bytes begin with no item
abbrev pub IfBad : NextItem → (ℕ → Type 0) → Type 0
IfBad (next.Command c) P = Unit {0}
IfBad (next.Sweep kinds m) P = Unit {0}
IfBad next.End P = Unit {0}
IfBad (next.SpoolBad at) P = P at
IfBad next.ReadFault P = Unit {0}
IfBad next.Memory P = Unit {0}

-- the item's text was removed from the front of the bytes, and its length was added to the count
pub record Gives (received : ℤ) (item : Item) (p q : ℕ) (old new : Option (List ℕ)) : Type 0 where
  pub text : List ℕ
  pub is_item : IsItemText received item text
  pub taken : Consumes old new text
  pub counted : q ≡ p + length text

-- Only more bytes tell what these are, which begin at byte p. They are fewer than 201, without a line feed; or further bytes make
-- them an item.
pub data IsOpen (received : ℤ) (p : ℕ) (bytes : List ℕ) : Type 0 where
  in_line : AllByRecursion (λ c. c ≢ 10) bytes → length bytes < 201 → IsOpen received p bytes
  in_item : (more : List ℕ) → BeginsWithItem received p (bytes ++ more) → IsOpen received p bytes

-- The bytes that were taken begin with no item and are open, and `rest` follows them. So a read that failed was asked for: before it
-- neither an item nor a malformed first line stood whole.
pub record StopsIn (received : ℤ) (p : ℕ) (old rest : Option (List ℕ)) : Type 0 where
  pub taken : List ℕ
  pub is_taken : Consumes old rest taken
  pub no_item : ¬ BeginsWithItem received p taken
  pub is_open : IsOpen received p taken

-- bytes are left, and from byte p on they begin with no item
pub record IsBad (received : ℤ) (p : ℕ) (bytes : List ℕ) : Type 0 where
  pub some : bytes ≢ []
  pub no_item : ¬ BeginsWithItem received p bytes
