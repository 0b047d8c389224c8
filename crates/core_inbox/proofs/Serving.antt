-- What serving a front over an inbox makes of the core that it holds.
use Rattle.std.proofs.Common.{◌≡◌, ℕ, ℤ, List, Bool, Option, sym, subst}
use Rattle.core_ends.specs.core_state.declared.state.CoreState.{CoreState}
use Rattle.core_ends.specs.core_course.Sight.{Sight}
use Rattle.link_serving.specs.history_spec.Trace.{Trace}
use Rattle.link_serving.specs.fleet_tables.Stands.{Stands}
use Rattle.link_serving.specs.http_routes.Course.{Outside, outside}
use Rattle.link_serving.specs.means_spec.OutRows.{OutRows, lines_text}
use Rattle.link_serving.specs.means_spec.World as spec
use Rattle.link_serving.specs.means_spec.World.{World}
use Rattle.link_serving.specs.paging_text.Shown.{written_text}
use Rattle.link_serving.specs.pattern_port.Refused.{Asked}
use Rattle.link_serving.specs.query_engine.Tables.{world_of}
use Rattle.link_serving.specs.declared.end.ServeEnd.{ServeEnd}
use Rattle.link_serving.specs.Serving.{FrontSeen, ServesFront}
use Rattle.core_inbox.specs.Submits.{CoreTakes}
use Rattle.core_inbox.specs.Intake.{asked_in, ServesCore}
use Rattle.core_inbox.proofs.Handed.{served_taken}
use Rattle.core_inbox.proofs.Intake.{came_so}
use Rattle.core_inbox.proofs.Refusals.{served_refused}

module _ {D K : Type 0} (w : Sight D K) where
  serves_core : (world : World) (print : OutRows → List ℕ) (now : ℤ) (end : ServeEnd) (limit : ℕ) (before after : FrontSeen) (old new : Outside (CoreState D K))
      → ServesFront (CoreTakes w) world print now end limit before after old new → ServesCore w world print now end limit before after old new
  serves_core world print now end limit before after old new front = record {
    front = front;
    came =
        came_so w (asked_in (CoreTakes w) world print now end limit before after old new front) old.inbox new.inbox
        (served_taken (CoreTakes w) world print now before.left after.left front.served old new front.serves.are_served);
    refused = served_refused (CoreTakes w) world print now before.left after.left front.served old new front.serves.are_served;
  }

  module _ (core made left taken : CoreState D K) (is : made ≡ core) (out : taken ≡ left) (says : List ℕ → List ℕ → Bool) (now : ℤ) (end : ServeEnd) (limit : ℕ) (before after : FrontSeen)
      (asked later : Option (List Asked)) (refusals more : ℕ) where
    pub served_core : ServesFront (CoreTakes w) (world_of made.tables says) written_text now end limit before after (outside made asked refusals) (outside left later more)
        → ServesCore w (world_of core.tables says) written_text now end limit before after (outside core asked refusals) (outside taken later more)
    served_core front =
        subst (λ (c : CoreState D K). ServesCore w (world_of c.tables says) written_text now end limit before after (outside c asked refusals) (outside taken later more)) is
        (subst (λ (c : CoreState D K). ServesCore w (world_of made.tables says) written_text now end limit before after (outside made asked refusals) (outside c later more)) (sym out)
        (serves_core (world_of made.tables says) written_text now end limit before after (outside made asked refusals) (outside left later more) front))

    abbrev Stood : CoreState D K → CoreState D K → Type 0
    Stood c d = (history : Trace) → Stands c.tables history
        → ServesCore w (spec.world_of c.tables.ttls history says) lines_text now end limit before after (outside c asked refusals) (outside d later more)

    pub stood_core :
        ((history : Trace) → Stands made.tables history
        → ServesFront (CoreTakes w) (spec.world_of made.tables.ttls history says) lines_text now end limit before after (outside made asked refusals) (outside left later more))
        → Stood core taken
    stood_core front =
        subst (λ (c : CoreState D K). Stood c taken) is
        (subst (λ (c : CoreState D K). Stood made c) (sym out)
        (λ history stands. serves_core (spec.world_of made.tables.ttls history says) lines_text now end limit before after (outside made asked refusals) (outside left later more) (front history stands)))
