-- What was handed in on links that were served.
use Rattle.std.proofs.Common.{ℤ, ℕ, List, [], ◌∷◌, ◌++◌, Option, Some, None, ap, subst}
use Rattle.std.specs.Option.{option_to_list}
use Rattle.core_ends.specs.fleet_rows.declared.command.Command.{Command}
use Rattle.link_serving.specs.http_routes.Course.{Outside, AllMove}
use Rattle.link_serving.specs.http_routes.Moves.{Submits}
use Rattle.link_serving.specs.means_spec.OutRows.{OutRows}
use Rattle.link_serving.specs.means_spec.World.{World}
use Rattle.link_serving.specs.routes.Answers.{Met}
use Rattle.link_serving.specs.routes.Links.{submissions}
use Rattle.fleet_rows.specs.declared.submitted.Submitted.{Submitted}
use Rattle.link_serving.specs.front_port.Links.{Given}
use Rattle.link_serving.specs.Serving.{AreServed}
use Rattle.core_inbox.specs.Intake.{Asked, AreTaken, asked_on}

module _ {H : Type 0} (Step : Command → Submitted → H → H → Type 0) where
  taken_on : (o : Option Asked) (rest : List Asked) (old between new : H) → Submits Step o old between → AreTaken Step rest between new → AreTaken Step (option_to_list o ++ rest) old new
  taken_on None rest old between new same more = subst (λ (x : H). AreTaken Step rest x new) same more
  taken_on (Some (c, s)) rest old between new step more = (between, step, more)

  pub taken_both : (first second : List Asked) (old between new : H) → AreTaken Step first old between → AreTaken Step second between new → AreTaken Step (first ++ second) old new
  taken_both [] second old between new same more = subst (λ (x : H). AreTaken Step second x new) same more
  taken_both ((c, s) ∷ first) second old between new (mid, step, some) more = (mid, step, taken_both first second mid between new some more)

  -- on one link
  pub moved_taken : (mets : List Met) (old new : Outside H) → AllMove Step mets old new → AreTaken Step (submissions mets) old.inbox new.inbox
  moved_taken [] old new same = ap (λ (x : Outside H). x.inbox) same
  moved_taken (met ∷ mets) old new (between, moves, more) =
      taken_on met.submitted (submissions mets) old.inbox between.inbox new.inbox moves.submits (moved_taken mets between new more)

  module _ (world : World) (print : OutRows → List ℕ) (now : ℤ) where
    pub served_taken : (left rest : Option (List (List ℕ))) (links : List Given) (old new : Outside H) (served : AreServed Step world print now left rest links old new)
        → AreTaken Step (asked_on Step world print now left rest links old new served) old.inbox new.inbox
    served_taken left rest [] old new none = ap (λ (x : Outside H). x.inbox) none.1
    served_taken left rest (link ∷ links) old new (then, between, first, more) =
        taken_both (submissions first.serves.mets) (asked_on Step world print now then rest links between new more) old.inbox between.inbox new.inbox
        (moved_taken first.serves.mets old between first.serves.moved) (served_taken then rest links between new more)
