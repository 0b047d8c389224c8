-- Where the head at the start of the buffer ends.
use Rattle.std.specs.Prelude.{◌≡◌, ◌⊎◌, ℕ, ◌≤◌, ◌<◌, List, length, drop, Option, Some, IfSome}
use Rattle.http_spec.specs.HeadText.{HasNoHead}
use Rattle.http_spec.specs.HeadEnd.{head_at}
use Rattle.http_front.specs.declared.reader.FrontHead.{FrontHead}
use Rattle.http_front.specs.declared.reader.FrontHead.TheVariants as front
use Rattle.http_spec.specs.Limits.{most_head}

-- the bytes begin with a head's text of this length, with this many lines after the request line
pub record HasHead (len lines : ℕ) (bytes : List ℕ) : Type 0 where
  pub inside : len ≤ length bytes
  pub short : len ≤ most_head
  pub ends : head_at bytes ≡ Some (lines, drop len bytes)

-- the bytes end within a head
abbrev pub EndsInHead : List ℕ → Type 0
EndsInHead bytes = (length bytes < most_head) × HasNoHead bytes

-- The connection is read only if the buffered bytes end within a head. Otherwise it stays unread, and the bytes unchanged.
abbrev pub AsksForHead : Type 0 → List ℕ → List ℕ → Type 0
AsksForHead Stays old new = (Stays × (new ≡ old)) ⊎ EndsInHead old

-- what the search for a head's end says about the buffered bytes
abbrev pub IsFrontHead : FrontHead → List ℕ → Option (List ℕ) → Type 0
IsFrontHead (front.Ends len lines) bytes left = HasHead len lines bytes
IsFrontHead front.TooLarge bytes left = (most_head ≤ length bytes) × HasNoHead bytes
IsFrontHead front.Cut bytes left = IfSome left EndsInHead
IsFrontHead front.Failed bytes left = EndsInHead bytes
