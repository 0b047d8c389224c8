-- The answers of one call of `next_request`, in terms of the bytes before and after.
use Rattle.std.specs.Prelude.{◌≡◌, ℕ, Bool, true, List, [], ◌++◌, Option, Some, None, IfSome}
use Rattle.std.specs.Io.KnownBytes.{Consumes, prepend_known}
use Rattle.http_spec.specs.declared.request.Request.{Request}
use Rattle.http_spec.specs.declared.request.HttpFault.{HttpFault}
use Rattle.http_spec.specs.Requests.{BeginsWithRequest, HasFault, IsCut}
use Rattle.http_front.specs.declared.incoming.NextRequest.{NextRequest}
use Rattle.http_front.specs.declared.incoming.NextRequest.TheVariants as next
use Rattle.http_front.specs.Link.{limited}
use Rattle.http_front.specs.Reading.{Reading}

-- the bytes that no request has used: those read ahead, and those left on the link, if they are known
abbrev pub unread : Reading → Option (List ℕ) → Option (List ℕ)
unread reading left = prepend_known reading.ahead (limited reading.taken left)

-- P holds of the request, if the answer is one
abbrev pub IfRequest : NextRequest → (Request → Type 0) → Type 0
IfRequest (next.Request r) P = P r
IfRequest (next.Bad f) P = Unit {0}
IfRequest next.Ended P = Unit {0}
IfRequest next.ReadFault P = Unit {0}
IfRequest next.Memory P = Unit {0}

-- P holds of the fault, if the answer is a fault of the bytes
abbrev pub IfBad : NextRequest → (HttpFault → Type 0) → Type 0
IfBad (next.Request r) P = Unit {0}
IfBad (next.Bad f) P = P f
IfBad next.Ended P = Unit {0}
IfBad next.ReadFault P = Unit {0}
IfBad next.Memory P = Unit {0}

-- P holds, if the answer is the end
abbrev pub IfEnded : NextRequest → Type 0 → Type 0
IfEnded (next.Request r) P = Unit {0}
IfEnded (next.Bad f) P = Unit {0}
IfEnded next.Ended P = P
IfEnded next.ReadFault P = Unit {0}
IfEnded next.Memory P = Unit {0}

-- whether the link is over after the answer
abbrev pub ends_with : NextRequest → Bool
ends_with (next.Request r) = r.ends
ends_with (next.Bad f) = true
ends_with next.Ended = true
ends_with next.ReadFault = true
ends_with next.Memory = true

-- the old bytes begin with the bytes of the request, and the new bytes are the rest
pub record Gives (r : Request) (old new : Option (List ℕ)) : Type 0 where
  pub text : List ℕ
  pub is_request : BeginsWithRequest r text []
  pub taken : Consumes old new text

-- the bytes begin with this prefix, if they are known
abbrev pub BeginsWith : Option (List ℕ) → List ℕ → Type 0
BeginsWith None front = Unit {0}
BeginsWith (Some bytes) front = (rest : List ℕ) × (bytes ≡ front ++ rest)

-- the bytes begin with bytes that have the fault
pub record IsBad (f : HttpFault) (bytes : Option (List ℕ)) : Type 0 where
  pub front : List ℕ
  pub has_fault : HasFault f front
  pub begins : BeginsWith bytes front

-- the bytes end within a head or a body, if they are known
abbrev pub IsEnded : Option (List ℕ) → Type 0
IsEnded bytes = IfSome bytes IsCut

-- The bytes that were taken end within a head or a body, and `rest` follows them. So a read that failed was asked for: no request
-- stood whole before it, and no fault.
pub record StopsIn (old rest : Option (List ℕ)) : Type 0 where
  pub taken : List ℕ
  pub is_taken : Consumes old rest taken
  pub is_cut : IsCut taken

-- what each answer says about the old bytes, except a read fault and lack of memory
abbrev pub IsNext : NextRequest → Option (List ℕ) → Option (List ℕ) → Type 0
IsNext (next.Request r) old new = Gives r old new
IsNext (next.Bad f) old new = IsBad f old
IsNext next.Ended old new = IsEnded old
IsNext next.ReadFault old new = Unit {0}
IsNext next.Memory old new = Unit {0}
