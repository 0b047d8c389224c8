-- What the fields of the buffer mean, and what its calls answer.
use Rattle.std.specs.Prelude.{◌≡◌, ℕ, ◌+◌, ◌≤◌, ◌<◌, List, ◌++◌, length, Option, IfSome, slice_range, vec_len}
use Rattle.std.specs.Io.KnownBytes.{Consumes, prepend_known}
use Rattle.fleet_ports.specs.declared.source.Took.{Took}
use Rattle.fleet_ports.specs.declared.source.Took.TheVariants as took
use Rattle.http_front.specs.declared.buffer.Buffer.{Buffer}
use Rattle.http_front.specs.declared.buffer.Body.{Body}
use Rattle.http_front.specs.declared.buffer.Body.TheVariants as body
use Rattle.http_front.specs.Link.{limited}

-- the bytes that were read but not consumed
abbrev pub buffered : Buffer → List ℕ
buffered buffer = slice_range buffer.bytes.items buffer.start buffer.«end»

-- those, and what is left of a link from which `taken` bytes were read
abbrev pub unread : Buffer → ℕ → Option (List ℕ) → Option (List ℕ)
unread buffer taken left = prepend_known (buffered buffer) (limited taken left)

-- the buffer has its memory
abbrev pub IsReady : Buffer → Type 0
IsReady buffer = 131_072 ≤ vec_len buffer.bytes

-- a read appends bytes, or none
abbrev pub Grows : Took → List ℕ → List ℕ → Type 0
Grows (took.Bytes n) old new = (fresh : List ℕ) × (0 < length fresh) × (new ≡ old ++ fresh)
Grows took.Ended old new = new ≡ old
Grows took.Failed old new = new ≡ old

-- some of the `had` buffered bytes were consumed, and `has` are left
abbrev pub Gave : Took → ℕ → ℕ → Type 0
Gave (took.Bytes n) had has = n + has ≡ had
Gave took.Ended had has = ⊥
Gave took.Failed had has = ⊥

-- fewer bytes than this were taken, and `rest` follows them
pub record IsShort (size : ℕ) (old rest : Option (List ℕ)) : Type 0 where
  pub part : List ℕ
  pub is_taken : Consumes old rest part
  pub short : length part < size

-- the body was consumed, or fewer bytes are left
abbrev pub IsBody : Body → ℕ → Option (List ℕ) → Option (List ℕ) → Type 0
IsBody (body.Whole bytes) size old new = (length bytes.items ≡ size) × Consumes old new bytes.items
IsBody body.Cut size old new = IfSome old (λ all. length all < size)
IsBody body.Failed size old new = Unit {0}
IsBody body.Memory size old new = Unit {0}
