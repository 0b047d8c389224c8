-- The rules by which a spool is taken, as rules of the events, newest first.
use Rattle.std.specs.Prelude.{◌≡◌, ◌⊎◌, ◌≤◌, List, [], ◌∷◌, ◌++◌, length, Bool, true, false}
use Rattle.fleet_hub.specs.core_spec.declared.entry.Entry.{Entry}
use Rattle.fleet_hub.specs.core_spec.declared.event.Event.TheVariants.{Submit, Sweep, Restart}
use Rattle.fleet_hub.specs.core_spec.History.{History}
use Rattle.fleet_hub.specs.core_spec.Pending.{pending_of}
use Rattle.fleet_hub.specs.core_laws.Threads.{MomentsAreKept}
use Rattle.fleet_hub.specs.supersede_core.Waiting.{payload_bytes}
use Rattle.spool_run.specs.Limits.{most_waiting, most_bytes}

-- a batch limit is reached
abbrev pub IsBatch : List Entry → Type 0
IsBatch es = (most_waiting ≤ length es) ⊎ (most_bytes ≤ payload_bytes es)

-- no restart
abbrev pub HasNoRestart : History → Type 0
HasNoRestart [] = Unit {0}
HasNoRestart (Restart ∷ events) = ⊥
HasNoRestart (_ ∷ events) = HasNoRestart events

-- at each sweep of the run nothing is pending
abbrev pub SweepsAreDrained : History → History → Type 0
SweepsAreDrained start [] = Unit {0}
SweepsAreDrained start (Sweep kinds m ∷ earlier) = (pending_of (earlier ++ start) ≡ []) × SweepsAreDrained start earlier
SweepsAreDrained start (_ ∷ earlier) = SweepsAreDrained start earlier

-- the run up to its last submit or sweep
abbrev pub before_work : History → History
before_work [] = []
before_work (Submit r c ∷ earlier) = Submit r c ∷ earlier
before_work (Sweep kinds m ∷ earlier) = Sweep kinds m ∷ earlier
before_work (_ ∷ earlier) = before_work earlier

-- No command is submitted while a batch limit is reached. None is submitted either while a drain has settled only some of the
-- pending ones.
abbrev pub SubmitsAreBatched : History → History → Type 0
SubmitsAreBatched start [] = Unit {0}
SubmitsAreBatched start (Submit r c ∷ earlier) =
    (IsBatch (pending_of (earlier ++ start)) → ⊥) × ((before_work earlier ≡ earlier) ⊎ (pending_of (earlier ++ start) ≡ [])) × SubmitsAreBatched start earlier
SubmitsAreBatched start (_ ∷ earlier) = SubmitsAreBatched start earlier

-- after the run, nothing must be settled before another command: no batch limit is reached, and no drain is unfinished
pub record NothingIsDue (run : History) (waiting : List Entry) : Type 0 where
  pub few : IsBatch waiting → ⊥
  pub whole : (before_work run ≡ run) ⊎ (waiting ≡ [])

abbrev pub IsDue : Bool → List Entry → Type 0
IsDue true es = Unit {0}
IsDue false es = IsBatch es

-- Work on commands happens only if a batch limit is reached or a sweep comes next. If `due`, it also happens at the run's end.
abbrev pub WorkIsDue : Bool → History → History → Type 0
WorkIsDue due start [] = Unit {0}
WorkIsDue due start (Submit r c ∷ earlier) = WorkIsDue false start earlier
WorkIsDue due start (Sweep kinds m ∷ earlier) = WorkIsDue true start earlier
WorkIsDue due start (_ ∷ earlier) = IsDue due (pending_of (before_work earlier ++ start)) × WorkIsDue due start earlier

-- A run keeps the rules, after the history that it started with.
pub record KeepsRules (due : Bool) (start run : History) : Type 0 where
  pub moments : MomentsAreKept start run
  pub drained : SweepsAreDrained start run
  pub batched : SubmitsAreBatched start run
  pub work : WorkIsDue due start run
