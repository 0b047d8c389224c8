-- The logs that laying writes, and the first record of the store's.
use Rattle.std.proofs.Common.{◌≡◌, ◌∙◌, inl, inr, ℕ, List, [], ◌∷◌, ◌++◌, arith, refl, ap, map, Option, Some, None}
use Rattle.std.specs.List.{flat_map}
use Rattle.core_machine.specs.fleet_rows.declared.settings.Ttls.{Ttls}
use Rattle.core_machine.specs.history_spec.Life.{nodes, greatest_expiry, greatest_retention}
use Rattle.core_machine.specs.history_spec.Trace.{Trace}
use Rattle.core_machine.specs.record_spec.declared.store.StoreRecord.{StoreRecord}
use Rattle.core_machine.specs.record_spec.declared.store.StoreRecord.TheVariants as store
use Rattle.core_machine.specs.core_spec.Checkpoints.{settings_with, settings, node_records, store_checkpoint, untold, IsInForm}
use Rattle.core_machine.specs.core_spec.Stands.{StoreTells, store_trace}
use Rattle.core_machine.specs.core_spec.History.{unknown, applied, trace_of}
use Rattle.core_laws.specs.LogLaws.{LaidLogsStand, LifetimesAreTold}
use Rattle.core_laws.proofs.StoreLogs.{no_store_record_is_damage}

abbrev laid_store : (ttls : Ttls) → StoreTells ttls (settings ttls ∷ store.Base None None None ∷ []) []
laid_store ttls = record {
  later = [];
  upto = [];
  whole = refl;
  start = settings ttls ∷ store.Base None None None ∷ [];
  starts = (None, tt, inl refl);
  says = refl;
}

pub laid_logs_stand : LaidLogsStand
laid_logs_stand ttls = record {
  legal = tt;
  few = tt;
  at_once = tt;
  store = laid_store ttls;
  queue = inl (record { later = []; upto = []; whole = refl; few = tt; says = refl });
  queue_log = (omega arith, (refl, tt));
  store_log = no_store_record_is_damage ttls (settings ttls ∷ store.Base None None None ∷ []) [] (laid_store ttls);
  done = λ missing h. let apart : unknown ≡ applied = h in cc;
}

untold_settings : (ttls : Ttls) (count : Option ℕ) → untold (settings_with ttls count) ≡ settings_with ttls count
untold_settings ttls None = refl
untold_settings ttls (Some n) = refl

begins_so : (ttls : Ttls) (taken : Option ℕ) (trace : Trace) (start : List StoreRecord) → IsInForm start (store_checkpoint ttls taken trace) → (rest : List StoreRecord) × (start ≡ settings ttls ∷ rest)
begins_so ttls taken trace start (inl e) = (store.Base (greatest_expiry trace) (greatest_retention trace) taken ∷ flat_map (node_records ttls trace) (nodes ttls trace), e)
begins_so ttls taken trace start (inr e) =
    let rest = store.Base (greatest_expiry trace) (greatest_retention trace) taken ∷ flat_map (node_records ttls trace) (nodes ttls trace) in
    (map untold rest, e.0 ∙ ap (λ (x : StoreRecord). x ∷ map untold rest) (untold_settings ttls ttls.report_count))

pub lifetimes_are_told : LifetimesAreTold
lifetimes_are_told ttls kept history t =
    let first = begins_so ttls t.starts.0 (trace_of t.upto) t.start t.starts.2 in
    (first.0 ++ store_trace t.upto t.later, t.says ∙ ap (λ (xs : List StoreRecord). xs ++ store_trace t.upto t.later) first.1)
