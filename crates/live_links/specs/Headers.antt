-- The field X-Fleet-Seen of a query (RFC 9110, section 5): how many events of the live trace its tables must have at least.
use Rattle.std.specs.Prelude.{◌≡◌, ◌≢◌, ℕ, ◌<◌, ◌^◌, nat_lt, List, Bool, false, codes, decimal, Option, Some, None}
use Rattle.http_spec.specs.declared.request.Request.{Request}
use Rattle.http_spec.specs.Framing.{values_of, first_of}
use Rattle.live_links.specs.declared.header.Least.{Least}
use Rattle.live_links.specs.declared.header.Least.TheVariants.{Any, AtLeast, Bad}

-- the value of the first such field
abbrev pub seen_field : Request → Option (List ℕ)
seen_field r = first_of (values_of (codes "X-Fleet-Seen") r.headers)

-- Without the field, any tables will do. The value is a decimal number below 2^64, without a leading zero, or bad.
abbrev pub HeaderAsks : Option (List ℕ) → Least → Type 0
HeaderAsks None least = least ≡ Any
HeaderAsks (Some text) Any = ⊥
HeaderAsks (Some text) (AtLeast m) = (m < 2 ^ 64) × (text ≡ decimal m)
HeaderAsks (Some text) Bad = (m : ℕ) → m < 2 ^ 64 → text ≢ decimal m

-- tables of the first n events are too few
abbrev pub lacks : Least → ℕ → Bool
lacks Any n = false
lacks (AtLeast m) n = nat_lt n m
lacks Bad n = false
