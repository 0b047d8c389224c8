-- Tables that stand for a history stand, after a sweep, for the history with the sweep.
use Rattle.std.proofs.Common.{◌≡◌, ◌∙◌, ℤ, ◌∷◌, Bool, true, false, refl, sym, ap}
use Rattle.fleet_tables.specs.fleet_rows.declared.settings.Kinds.{Kinds}
use Rattle.fleet_tables.proofs.of_stamp_time.RangeLaws.{has_stamp}
use Rattle.fleet_tables.specs.stamp_time.Range.{IsStampMoment}
use Rattle.fleet_tables.specs.history_spec.Trace.{swept, Trace}
use Rattle.fleet_tables.specs.table_machine.Table.{Table, table_of}
use Rattle.fleet_tables.specs.table_machine.Steps.{expire, purge, retain, step_if, sweep}
use Rattle.fleet_tables.proofs.of_table_machine.SweepSteps.{sweeps_are_followed}
use Rattle.fleet_tables.specs.Stands.{Stands}

lifetimes_stay : (b : Bool) (step : Table → Table) (t : Table) → (step t).ttls ≡ t.ttls → (step_if b step t).ttls ≡ t.ttls
lifetimes_stay true step t h = h
lifetimes_stay false step t h = refl

-- a sweep leaves the lifetimes
pub swept_lifetimes : (kinds : Kinds) (m : ℤ) (t : Table) → (sweep kinds m t).ttls ≡ t.ttls
swept_lifetimes kinds m t =
    let expired = step_if kinds.expire (expire m) t in
    let purged = step_if kinds.purge (purge m) expired in
    lifetimes_stay kinds.reports (retain m) purged refl
    ∙ lifetimes_stay kinds.purge (purge m) expired refl
    ∙ lifetimes_stay kinds.expire (expire m) t refl

pub stands_swept : (old new : Table) (kinds : Kinds) (m : ℤ) (history : Trace) → IsStampMoment m → new ≡ sweep kinds m old → Stands old history → Stands new (swept kinds m ∷ history)
stands_swept old new kinds m history moment step s =
    let ttls : new.ttls ≡ old.ttls = ap (λ (t : Table). t.ttls) step ∙ swept_lifetimes kinds m old in
    let table : new ≡ table_of old.ttls (swept kinds m ∷ history) = step ∙ ap (sweep kinds m) s.1 ∙ sweeps_are_followed old.ttls kinds m history in
    ((has_stamp m moment, s.0), table ∙ ap (λ ttls. table_of ttls (swept kinds m ∷ history)) (sym ttls))
