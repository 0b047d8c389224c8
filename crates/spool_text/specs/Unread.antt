-- The bytes of a spool that no returned item covers yet.
use Rattle.std.specs.Prelude.{◌≡◌, ◌≢◌, ℕ, ◌+◌, ◌≤◌, ◌<◌, List, [], ◌∷◌, length, take, get_or, Option, None, IfSome, slice_range}
use Rattle.std.specs.List.{AllByRecursion}
use Rattle.std.specs.Io.KnownBytes.{Consumes, IsAtEnd}
use Rattle.text_spec.specs.StampReader.{one_of}
use Rattle.spool_maker.specs.fleet_ports.declared.source.Took.{Took}
use Rattle.spool_maker.specs.fleet_ports.declared.source.Took.TheVariants as took
use Rattle.spool_text.specs.declared.piece.Piece.{Piece}
use Rattle.spool_text.specs.declared.piece.Front.{Front}
use Rattle.spool_text.specs.declared.piece.Front.TheVariants as front
use Rattle.spool_text.specs.declared.piece.Payload.{Payload}
use Rattle.spool_text.specs.declared.piece.Payload.TheVariants as payload
use Rattle.spool_text.specs.declared.piece.Feed.{Feed}
use Rattle.spool_text.specs.declared.piece.Feed.TheVariants as feed

-- the bytes that were read from the source and belong to no returned item
abbrev pub buffered : Piece → List ℕ
buffered piece = slice_range piece.bytes.items piece.start piece.«end»

-- a successful read adds at least one byte; an end or a failure adds none
abbrev pub Grows : Took → List ℕ → List ℕ → Type 0
Grows (took.Bytes n) old new = (1 ≤ n) × (length new ≡ length old + n)
Grows took.Ended old new = new ≡ old
Grows took.Failed old new = new ≡ old

-- the first line feed is byte n, counted from 0
pub record HasLine (n : ℕ) (bytes : List ℕ) : Type 0 where
  pub inside : n < length bytes
  pub no_feed : AllByRecursion (λ c. c ≢ 10) (take n bytes)
  pub feed : get_or bytes n 0 ≡ 10

-- the first 201 bytes contain no line feed
abbrev pub HasNoLine : List ℕ → Type 0
HasNoLine bytes = AllByRecursion (λ c. c ≢ 10) (take 201 bytes)

-- what the remaining bytes begin with; the first list is their buffered part
abbrev pub IsFront : Front → List ℕ → Option (List ℕ) → Type 0
IsFront (front.Line n) bytes left = HasLine n bytes × (n < 201)
IsFront front.NoLine bytes left = IfSome left (λ all. (all ≢ []) × HasNoLine all)
IsFront front.Nothing bytes left = IsAtEnd left
IsFront front.Failed bytes left = HasNoLine bytes × (length bytes < 201)

-- the payload was taken, or fewer bytes than its length remain
abbrev pub IsPayload : Payload → ℕ → Option (List ℕ) → Option (List ℕ) → Type 0
IsPayload (payload.Whole bytes) size old new = (length bytes.items ≡ size) × Consumes old new bytes.items
IsPayload payload.Cut size old new = IfSome old (λ all. length all < size)
IsPayload payload.Failed size old new = Unit {0}
IsPayload payload.Memory size old new = Unit {0}

-- fewer bytes than this were taken, and `rest` follows them
pub record IsShort (size : ℕ) (old rest : Option (List ℕ)) : Type 0 where
  pub part : List ℕ
  pub is_taken : Consumes old rest part
  pub short : length part < size

-- a line feed was taken, or the bytes don't begin with one
abbrev pub IsFeed : Feed → Option (List ℕ) → Option (List ℕ) → Type 0
IsFeed feed.Taken old new = Consumes old new (10 ∷ [])
IsFeed feed.Missing old new = IfSome old (λ all. one_of 10 10 all ≡ None)
IsFeed feed.Failed old new = Unit {0}
