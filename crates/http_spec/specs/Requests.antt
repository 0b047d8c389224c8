-- The requests of a connection in sequence, and how it ends, as a relation on bytes.
use Rattle.std.specs.Prelude.{◌≡◌, ◌⊎◌, ℕ, ◌≤◌, ◌<◌, true, false, List, [], ◌∷◌, ◌++◌, length, take}
use Rattle.httparse.specs.Grammar.{RequestHead, ReadsRequest}
use Rattle.http_spec.specs.declared.request.Request.{Request}
use Rattle.http_spec.specs.declared.request.HttpFault.{HttpFault}
use Rattle.http_spec.specs.declared.request.HttpFault.TheVariants as fault
use Rattle.http_spec.specs.HeadText.{BeginsWithHead, HasNoHead}
use Rattle.http_spec.specs.Framing.{sized, refused, heads_of, framing, ends_link}
use Rattle.http_spec.specs.Limits.{most_head, most_lines, most_link}

-- the bytes begin with a head's text of at most 64 lines after the request line, and the text is this head of the grammar
pub record BeginsWithRequestHead (bytes : List ℕ) (head : RequestHead) (rest : List ℕ) : Type 0 where
  pub text : List ℕ
  pub lines : List (List ℕ)
  pub found : BeginsWithHead bytes text rest lines
  pub few : length lines ≤ most_lines
  pub behind : List ℕ
  pub reads : ReadsRequest text head behind
  pub few_fields : length head.fields ≤ most_lines

-- 65,536 bytes in which no head ends, or more than 64 lines after the request line
abbrev pub IsHeadTooLarge : List ℕ → Type 0
IsHeadTooLarge bytes =
    ((most_head ≤ length bytes) × HasNoHead bytes)
    ⊎ ((text : List ℕ) × (rest : List ℕ) × (lines : List (List ℕ)) × BeginsWithHead bytes text rest lines × (most_lines < length lines))

-- a head's text that begins with no head of the grammar with at most 64 fields
abbrev pub IsBadHead : List ℕ → Type 0
IsBadHead bytes =
    (text : List ℕ) × (rest : List ℕ) × (lines : List (List ℕ)) × BeginsWithHead bytes text rest lines × (length lines ≤ most_lines)
    × ((head : RequestHead) (behind : List ℕ) → ReadsRequest text head behind → length head.fields ≤ most_lines → ⊥)

-- a head whose fields leave the length of its body unknown, for this reason
abbrev pub IsRefused : HttpFault → List ℕ → Type 0
IsRefused f bytes =
    (head : RequestHead) × (rest : List ℕ) × BeginsWithRequestHead bytes head rest × (framing head.method (heads_of head.fields) ≡ refused f)

-- the first fault of the bytes
abbrev pub HasFault : HttpFault → List ℕ → Type 0
HasFault fault.HeadTooLarge bytes = IsHeadTooLarge bytes
HasFault fault.BadHead bytes = IsBadHead bytes
HasFault fault.NoLength bytes = IsRefused fault.NoLength bytes
HasFault fault.BadLength bytes = IsRefused fault.BadLength bytes
HasFault fault.BodyTooLarge bytes = IsRefused fault.BodyTooLarge bytes

-- the bytes end within a head or a body
abbrev pub IsCut : List ℕ → Type 0
IsCut bytes =
    ((length bytes < most_head) × HasNoHead bytes)
    ⊎ ((head : RequestHead) × (rest : List ℕ) × (size : ℕ) × BeginsWithRequestHead bytes head rest
    × (framing head.method (heads_of head.fields) ≡ sized size) × (length rest < size))

-- the request with this head and body
pub record IsRequestOf (head : RequestHead) (body : List ℕ) (r : Request) : Type 0 where
  pub method : r.method ≡ head.method
  pub target : r.target ≡ head.target
  pub headers : r.headers ≡ heads_of head.fields
  pub body_is : r.body ≡ body
  pub ends : r.ends ≡ ends_link head.minor (heads_of head.fields)

-- the bytes begin with the request, and `after` follows it
pub record BeginsWithRequest (r : Request) (bytes after : List ℕ) : Type 0 where
  pub head : RequestHead
  pub rest : List ℕ
  pub body : List ℕ
  pub begins : BeginsWithRequestHead bytes head rest
  pub size : framing head.method (heads_of head.fields) ≡ sized (length body)
  pub rest_is : rest ≡ body ++ after
  pub request : IsRequestOf head body r

-- what the bytes begin with
pub data Front : Type 0 where
  request : Request → Front
  bad : HttpFault → Front
  cut : Front

-- the bytes begin with this, and `after` follows it
abbrev pub IsFront : Front → List ℕ → List ℕ → Type 0
IsFront (request r) bytes after = BeginsWithRequest r bytes after
IsFront (bad f) bytes after = HasFault f bytes × (after ≡ bytes)
IsFront cut bytes after = IsCut bytes × (after ≡ bytes)

-- how a connection ends: after a request that closes it, with a fault, or when its bytes end
pub data End : Type 0 where
  closed : End
  faulty : HttpFault → End
  ended : End

-- the bytes are these requests in sequence, and the connection ends like this
abbrev pub AreRequests : List ℕ → List Request → End → Type 0
AreRequests bytes [] closed = ⊥
AreRequests bytes [] (faulty f) = HasFault f bytes
AreRequests bytes [] ended = IsCut bytes
AreRequests bytes (r ∷ requests) end =
    (after : List ℕ) × BeginsWithRequest r bytes after
    × (((r.ends ≡ true) × (requests ≡ []) × (end ≡ closed)) ⊎ ((r.ends ≡ false) × AreRequests after requests end))

-- the requests of a connection and its end; bytes past 2^62 don't belong to it
abbrev pub RequestsOf : List ℕ → List Request → End → Type 0
RequestsOf bytes requests end = AreRequests (take most_link bytes) requests end
