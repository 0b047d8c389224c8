-- What was served on the connections of a front, the listener that hands them out.
use Rattle.std.specs.Prelude.{◌≡◌, ◌⊎◌, ℕ, ◌+◌, ◌<◌, ◌≤◌, ℤ, List, [], ◌∷◌, ◌++◌, length, Option, Some, None}
use Rattle.http_routes.specs.fleet_rows.declared.command.Command.{Command}
use Rattle.http_routes.specs.fleet_rows.declared.submitted.Submitted.{Submitted}
use Rattle.http_routes.specs.means_spec.OutRows.{OutRows}
use Rattle.http_routes.specs.means_spec.World.{World}
use Rattle.http_routes.specs.http_front.Link.{limited}
use Rattle.http_routes.specs.declared.link.LinkEnd.{LinkEnd}
use Rattle.http_routes.specs.declared.link.LinkEnd.TheVariants as link_end
use Rattle.http_routes.specs.Course.{Outside, Serves, ServedSoFar}
use Rattle.front_port.specs.Links.{Given, HandsOut, IsLast}
use Rattle.link_serving.specs.declared.end.ServeEnd.{ServeEnd}
use Rattle.link_serving.specs.declared.end.ServeEnd.TheVariants.{Done, FrontFault}

-- the front as contracts see it: the bytes to come on each remaining connection, if they are known, the number handed out, and
-- those given back
pub record FrontSeen : Type 0 where
  pub left : Option (List (List ℕ))
  pub handed_out : ℕ
  pub given_back : List Given

abbrev pub front_seen : Option (List (List ℕ)) → ℕ → List Given → FrontSeen
front_seen left handed_out given_back = record { left = left; handed_out = handed_out; given_back = given_back }

-- the connection's fault counts, 0 at first, agree with how it ended
abbrev pub EndsBy : LinkEnd → Given → Type 0
EndsBy link_end.Closed link = (link.read_faults ≡ 0) × (link.write_faults ≡ 0)
EndsBy link_end.ReadFault link = (0 < link.read_faults) × (link.write_faults ≡ 0)
EndsBy link_end.WriteFault link = (link.read_faults ≡ 0) × (0 < link.write_faults)

-- `Done`: the limit was reached or no connection remains. A fault of the front comes before the limit
abbrev pub EndsServing : ServeEnd → ℕ → List Given → Option (List (List ℕ)) → Type 0
EndsServing Done limit served left = ((length served ≡ limit) ⊎ IsLast left) × (length served ≤ limit)
EndsServing FrontFault limit served left = length served < limit

module _ {H : Type 0} (Step : Command → Submitted → H → H → Type 0) (w : World) (print : OutRows → List ℕ) (now : ℤ) where
  -- The first remaining connection was handed out, and served until it ended: if reading failed, as one that ends with the bytes
  -- that were taken.
  pub record ServesFirst (left rest : Option (List (List ℕ))) (link : Given) (old new : Outside H) : Type 0 where
    pub comes : Option (List ℕ)  -- the bytes that it brings, if they are known
    pub held : Option (List ℕ)  -- the bytes sent before: none, if they are known
    pub handed_out : HandsOut left rest comes held
    pub end : LinkEnd
    pub ends : EndsBy end link
    pub serves : Serves Step w print now end (limited 0 comes) old new held link.held
    pub so_far : end ≡ link_end.ReadFault → (taken : ℕ) × ServedSoFar Step w print now (limited 0 comes) (limited taken link.left) old new held link.held

  -- These connections were served, one after the other.
  abbrev pub AreServed : Option (List (List ℕ)) → Option (List (List ℕ)) → List Given → Outside H → Outside H → Type 0
  AreServed left rest [] old new = (rest ≡ left) × (new ≡ old)
  AreServed left rest (link ∷ links) old new =
      (then : Option (List (List ℕ))) × (between : Outside H) × ServesFirst left then link old between × AreServed then rest links between new

  -- Each connection that was handed out was served, and then given back in the same order.
  pub record ServesLinks (served : List Given) (before after : FrontSeen) (old new : Outside H) : Type 0 where
    pub are_served : AreServed before.left after.left served old new
    pub given_back : after.given_back ≡ before.given_back ++ served
    pub handed_out : after.handed_out ≡ before.handed_out + length served

  -- one connection was served; or all were handed out or the front failed, and nothing changed
  abbrev pub IsTurn : Option ServeEnd → FrontSeen → FrontSeen → Outside H → Outside H → Type 0
  IsTurn None before after old new = (link : Given) × ServesLinks (link ∷ []) before after old new
  IsTurn (Some Done) before after old new = IsLast before.left × (after ≡ before) × (new ≡ old)
  IsTurn (Some FrontFault) before after old new = (after ≡ before) × (new ≡ old)

  -- At most `limit` connections were served, and serving ended this way.
  pub record ServesFront (end : ServeEnd) (limit : ℕ) (before after : FrontSeen) (old new : Outside H) : Type 0 where
    pub served : List Given
    pub serves : ServesLinks served before after old new
    pub ends : EndsServing end limit served after.left
