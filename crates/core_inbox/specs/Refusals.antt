-- The number of requests with a refused pattern.
use Rattle.std.specs.Prelude.{ℕ, ◌+◌, ℤ, List, [], ◌∷◌, Bool, true, false, Option}
use Rattle.std.specs.List.{list_any}
use Rattle.core_ends.specs.fleet_rows.declared.command.Command.{Command}
use Rattle.link_serving.specs.http_routes.Course.{Outside}
use Rattle.link_serving.specs.means_spec.OutRows.{OutRows}
use Rattle.link_serving.specs.means_spec.World.{World}
use Rattle.link_serving.specs.pattern_port.Refused.{Asked}
use Rattle.link_serving.specs.routes.Answers.{Met}
use Rattle.fleet_rows.specs.declared.submitted.Submitted.{Submitted}
use Rattle.link_serving.specs.front_port.Links.{Given}
use Rattle.link_serving.specs.declared.end.ServeEnd.{ServeEnd}
use Rattle.link_serving.specs.Serving.{FrontSeen, AreServed, ServesFront}

abbrev pub one_if : Bool → ℕ
one_if true = 1
one_if false = 0

-- one of these texts was refused as a pattern
abbrev pub is_one_refused : List Asked → Bool
is_one_refused asked = list_any (λ (a : Asked). a.1) asked

-- the number for one connection
abbrev pub refused_number : List Met → ℕ
refused_number [] = 0
refused_number (met ∷ mets) = one_if (is_one_refused met.asked) + refused_number mets

-- the number for all connections
module _ {H : Type 0} (Step : Command → Submitted → H → H → Type 0) (world : World) (print : OutRows → List ℕ) (now : ℤ) where
  abbrev pub refused_on : (left rest : Option (List (List ℕ))) (links : List Given) (old new : Outside H) → AreServed Step world print now left rest links old new → ℕ
  refused_on left rest [] old new none = 0
  refused_on left rest (link ∷ links) old new (then, between, first, more) = refused_number first.serves.mets + refused_on then rest links between new more

  abbrev pub refused_in : (end : ServeEnd) (limit : ℕ) (before after : FrontSeen) (old new : Outside H) → ServesFront Step world print now end limit before after old new → ℕ
  refused_in end limit before after old new front = refused_on before.left after.left front.served old new front.serves.are_served
