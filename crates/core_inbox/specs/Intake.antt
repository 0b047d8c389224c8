-- What the commands of all served connections do to a core.
use Rattle.std.specs.Prelude.{◌≡◌, ◌⊎◌, ℕ, ◌+◌, ◌-◌, ◌^◌, ◌≤◌, ℤ, false, List, [], ◌∷◌, ◌++◌, Option}
use Rattle.core_ends.specs.fleet_ports.Counts.{RoseBy}
use Rattle.core_ends.specs.fleet_rows.declared.command.Command.{Command}
use Rattle.core_ends.specs.core_spec.declared.event.Event.TheVariants.{Submit}
use Rattle.core_ends.specs.core_spec.History.{History}
use Rattle.core_ends.specs.log_pair.Pair.{disk_a, disk_b}
use Rattle.core_ends.specs.queue_log.Queued.{queue_pair}
use Rattle.core_ends.specs.core_state.declared.state.CoreState.{CoreState}
use Rattle.core_ends.specs.core_course.Sight.{Sight, is_down}
use Rattle.core_ends.specs.core_course.Courses.{Course, Link, Passed}
use Rattle.core_ends.specs.Ends.{QueueRose}
use Rattle.link_serving.specs.http_routes.Course.{Outside}
use Rattle.link_serving.specs.means_spec.OutRows.{OutRows}
use Rattle.link_serving.specs.means_spec.World.{World}
use Rattle.fleet_rows.specs.declared.submitted.Submitted.{Submitted}
use Rattle.fleet_rows.specs.declared.submitted.Submitted.TheVariants as answer
use Rattle.link_serving.specs.routes.Links.{submissions}
use Rattle.link_serving.specs.front_port.Links.{Given}
use Rattle.link_serving.specs.declared.end.ServeEnd.{ServeEnd}
use Rattle.link_serving.specs.Serving.{FrontSeen, AreServed, ServesFront}
use Rattle.core_inbox.specs.Refusals.{refused_in}
use Rattle.core_inbox.specs.Submits.{CoreTakes}

-- ---- the commands and their answers

abbrev pub Asked : Type 0
Asked = Command × Submitted

-- each command was taken in this order, by such steps
abbrev pub AreTaken : {H : Type 0} → (Command → Submitted → H → H → Type 0) → List Asked → H → H → Type 0
AreTaken Step [] old new = new ≡ old
AreTaken {H} Step ((c, s) ∷ asked) old new = (between : H) × Step c s old between × AreTaken Step asked between new

-- the event of an answer: a command that got a receipt was submitted
abbrev pub taken_in : Command → Submitted → History
taken_in c (answer.Receipt r) = Submit r c ∷ []
taken_in c answer.Full = []
taken_in c answer.QueueFault = []
taken_in c answer.Spent = []
taken_in c answer.Down = []
taken_in c answer.Memory = []

-- the events of all answers, newest first
abbrev pub came_in : List Asked → History
came_in [] = []
came_in ((c, s) ∷ asked) = came_in asked ++ taken_in c s

-- The record of this command, under the receipt after the last one. The command got this receipt, or the queue failed at it.
abbrev pub IsRecordOfThis : Command → Submitted → ℕ → History → Type 0
IsRecordOfThis c s last begun = (begun ≡ Submit (last + 1) c ∷ []) × ((s ≡ answer.Receipt (last + 1)) ⊎ (s ≡ answer.QueueFault))

-- the record of one of these commands
abbrev pub IsRecordOfOne : List Asked → ℕ → History → Type 0
IsRecordOfOne [] last begun = ⊥
IsRecordOfOne ((c, s) ∷ asked) last begun = IsRecordOfThis c s last begun ⊎ IsRecordOfOne asked last begun

abbrev pub one_fault : Submitted → ℕ
one_fault answer.QueueFault = 1
one_fault _ = 0

-- the number of answers with a fault of the queue
abbrev pub fault_number : List Asked → ℕ
fault_number [] = 0
fault_number ((c, s) ∷ asked) = one_fault s + fault_number asked

-- some answer was that the core is down
abbrev pub IsDownAmong : List Asked → Type 0
IsDownAmong [] = ⊥
IsDownAmong ((c, s) ∷ asked) = (s ≡ answer.Down) ⊎ IsDownAmong asked

-- ---- what they do to the core

-- the fault counts of the queue's two disks rose by at least n together, or one stands at 2^64 - 1
abbrev pub QueueRoseBy : {D K : Type 0} → ℕ → Sight D K → CoreState D K → CoreState D K → Type 0
QueueRoseBy n w old new =
    (w.faults (disk_a (queue_pair old.queue)) + w.faults (disk_b (queue_pair old.queue)) + n ≤ w.faults (disk_a (queue_pair new.queue)) + w.faults (disk_b (queue_pair new.queue)))
    ⊎ (2 ^ 64 - 1 ≤ w.faults (disk_a (queue_pair new.queue)))
    ⊎ (2 ^ 64 - 1 ≤ w.faults (disk_b (queue_pair new.queue)))

-- The commands that got a receipt came in, in their order, and nothing else. Only their records were written. Each answer of a
-- queue fault counts a fault of its disks. A core that was up is answered as down only if one of these counts rose.
pub record CameIn {D K : Type 0} (w : Sight D K) (asked : List Asked) (old new : CoreState D K) : Type 0 where
  pub taken : AreTaken (CoreTakes w) asked old new
  pub passed : Passed w (came_in asked) old new
  pub course : Course w (λ core begun. IsRecordOfOne asked core.last begun) old new
  -- command for command: within a call each image may include the record of its own command alone
  pub each : AreTaken (λ c s before after. CoreTakes w c s before after × Link w (λ begun. IsRecordOfThis c s before.last begun) before after) asked old new
  pub faults : QueueRoseBy (fault_number asked) w old new
  pub down : is_down w old ≡ false → IsDownAmong asked → QueueRose w old new

-- ---- the commands of served connections

module _ {H : Type 0} (Step : Command → Submitted → H → H → Type 0) (world : World) (print : OutRows → List ℕ) (now : ℤ) where
  -- the commands of these connections' requests, in order
  abbrev pub asked_on : (left rest : Option (List (List ℕ))) (links : List Given) (old new : Outside H) → AreServed Step world print now left rest links old new → List Asked
  asked_on left rest [] old new none = []
  asked_on left rest (link ∷ links) old new (then, between, first, more) = submissions first.serves.mets ++ asked_on then rest links between new more

  abbrev pub asked_in : (end : ServeEnd) (limit : ℕ) (before after : FrontSeen) (old new : Outside H) → ServesFront Step world print now end limit before after old new → List Asked
  asked_in end limit before after old new front = asked_on before.left after.left front.served old new front.serves.are_served

-- The connections of a listener were served over a core, and their commands came in. The count of refusals rose by at least one
-- for each request with a refused pattern, or stands at 2^64 - 1.
pub record ServesCore {D K : Type 0} (w : Sight D K) (world : World) (print : OutRows → List ℕ) (now : ℤ) (end : ServeEnd) (limit : ℕ) (before after : FrontSeen) (old new : Outside (CoreState D K)) : Type 0 where
  pub front : ServesFront (CoreTakes w) world print now end limit before after old new
  pub came : CameIn w (asked_in (CoreTakes w) world print now end limit before after old new front) old.inbox new.inbox
  pub refused : RoseBy (refused_in (CoreTakes w) world print now end limit before after old new front) old.refusals new.refusals
