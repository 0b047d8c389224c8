-- The part of a history that the logs record. Claims, releases and restarts leave no record.
use Rattle.std.specs.Prelude.{◌≡◌, [], ◌∷◌}
use Rattle.core_spec.specs.fleet_rows.declared.settings.Ttls.{Ttls}
use Rattle.core_spec.specs.declared.event.Event.TheVariants.{Claim, Release, Restart}
use Rattle.core_spec.specs.History.{History, last_receipt, trace_of}
use Rattle.core_spec.specs.Legal.{IsLegal}
use Rattle.core_spec.specs.Pending.{pending_of}
use Rattle.core_machine.specs.Steps.{pending_run}

abbrev pub recorded : History → History
recorded [] = []
recorded (Claim r ∷ earlier) = recorded earlier
recorded (Release r ∷ earlier) = recorded earlier
recorded (Restart ∷ earlier) = recorded earlier
recorded (e ∷ earlier) = e ∷ recorded earlier

-- the steps over the recorded part give the commands that are pending after a restart
abbrev pub RecordsTellThePending : Type 0
RecordsTellThePending = (ttls : Ttls) (history : History) → IsLegal ttls history → pending_run (recorded history) ≡ pending_of (Restart ∷ history)

-- the recorded part has the same last receipt and the same trace
abbrev pub RecordsTellTheRest : Type 0
RecordsTellTheRest = (history : History) → (last_receipt (recorded history) ≡ last_receipt history) × (trace_of (recorded history) ≡ trace_of history)
