-- A request with a pattern that was refused raised the count of refusals.
use Rattle.std.proofs.Common.{◌≡◌, ℕ, ◌+◌, ◌-◌, ◌^◌, ◌≤◌, min, ℤ, Bool, true, false, List, [], ◌∷◌, Option, arith, refl, ap}
use Rattle.core_ends.specs.fleet_ports.Counts.{RoseBy}
use Rattle.core_ends.specs.fleet_rows.declared.command.Command.{Command}
use Rattle.link_serving.specs.http_routes.Course.{Outside, AllMove}
use Rattle.link_serving.specs.http_routes.Moves.{Reads}
use Rattle.link_serving.specs.means_spec.OutRows.{OutRows}
use Rattle.link_serving.specs.means_spec.World.{World}
use Rattle.link_serving.specs.pattern_port.Refused.{Asked}
use Rattle.link_serving.specs.routes.Answers.{Met}
use Rattle.fleet_rows.specs.declared.submitted.Submitted.{Submitted}
use Rattle.link_serving.specs.front_port.Links.{Given}
use Rattle.link_serving.specs.Serving.{AreServed}
use Rattle.core_inbox.specs.Refusals.{one_if, is_one_refused, refused_number, refused_on}

joined : (m n k a b c : ℕ) → min (a + n) m ≤ b → min (b + k) m ≤ c → min (a + (n + k)) m ≤ c
joined m n k a b c first second = first_of (omega arith, grind arith)

-- a rise by n and then by k more
rose_on : (n k a b c : ℕ) → RoseBy n a b → RoseBy k b c → RoseBy (n + k) a c
rose_on n k a b c first second = joined (2 ^ 64 - 1) n k a b c first second

least_none : (m a b : ℕ) → a ≤ b → min (a + 0) m ≤ b
least_none m a b later = first_of (omega arith, grind arith)

-- a count that didn't fall
rose_by_none : (a b : ℕ) → a ≤ b → RoseBy 0 a b
rose_by_none a b later = least_none (2 ^ 64 - 1) a b later

one_read : (asked : List Asked) (before now : Option (List Asked)) (count later : ℕ) → Reads asked before now count later → (refused : Bool) → is_one_refused asked ≡ refused
    → RoseBy (one_if refused) count later
one_read asked before now count later reads true is = reads.counted.cause is
one_read asked before now count later reads false is = rose_by_none count later reads.counted.later

module _ {H : Type 0} (Step : Command → Submitted → H → H → Type 0) where
  moved_refused : (mets : List Met) (old new : Outside H) → AllMove Step mets old new → RoseBy (refused_number mets) old.refusals new.refusals
  moved_refused [] old new same = let is = ap (λ (x : Outside H). x.refusals) same in rose_by_none old.refusals new.refusals (omega (arith, is))
  moved_refused (met ∷ mets) old new (between, moves, more) =
      rose_on (one_if (is_one_refused met.asked)) (refused_number mets) old.refusals between.refusals new.refusals
      (one_read met.asked old.asked between.asked old.refusals between.refusals moves.reads (is_one_refused met.asked) refl) (moved_refused mets between new more)

  module _ (world : World) (print : OutRows → List ℕ) (now : ℤ) where
    pub served_refused : (left rest : Option (List (List ℕ))) (links : List Given) (old new : Outside H) (served : AreServed Step world print now left rest links old new)
        → RoseBy (refused_on Step world print now left rest links old new served) old.refusals new.refusals
    served_refused left rest [] old new none = let is = ap (λ (x : Outside H). x.refusals) none.1 in rose_by_none old.refusals new.refusals (omega (arith, is))
    served_refused left rest (link ∷ links) old new (then, between, first, more) =
        rose_on (refused_number first.serves.mets) (refused_on Step world print now then rest links between new more) old.refusals between.refusals new.refusals
        (moved_refused first.serves.mets old between first.serves.moved) (served_refused then rest links between new more)
