-- Requests built from their parts.
use Rattle.std.specs.Prelude.{◌≡◌, ℕ, ◌<◌, List, length, Option, IfSome}
use Rattle.std.specs.Io.KnownBytes.{Consumes}
use Rattle.http_spec.specs.declared.request.Request.{Request}
use Rattle.http_spec.specs.Framing.{ends_link}
use Rattle.http_front.specs.declared.head.Parts.{Parts}
use Rattle.http_front.specs.declared.incoming.NextRequest.{NextRequest}
use Rattle.http_front.specs.declared.incoming.NextRequest.TheVariants as next

pub record IsOfParts (r : Request) (parts : Parts) (body : List ℕ) : Type 0 where
  pub method : r.method ≡ parts.method
  pub target : r.target ≡ parts.target
  pub headers : r.headers ≡ parts.headers
  pub body_is : r.body ≡ body
  pub ends : r.ends ≡ ends_link parts.minor parts.headers

-- the parts with the body that the bytes begin with, or fewer bytes than the body needs are left
abbrev pub IsWithBody : NextRequest → Parts → ℕ → Option (List ℕ) → Option (List ℕ) → Type 0
IsWithBody (next.Request r) parts size old new = (body : List ℕ) × (length body ≡ size) × Consumes old new body × IsOfParts r parts body
IsWithBody (next.Bad f) parts size old new = ⊥
IsWithBody next.Ended parts size old new = IfSome old (λ all. length all < size)
IsWithBody next.ReadFault parts size old new = Unit {0}
IsWithBody next.Memory parts size old new = Unit {0}
