-- The steps lead from tables that stand for a history to tables that stand for the history with the event.
use Rattle.std.proofs.Common.{◌≡◌, ◌∙◌, ℤ, ◌∷◌, sym, ap, subst}
use Rattle.checkpoint_spec.specs.fleet_rows.declared.applied.Applied.{Applied}
use Rattle.checkpoint_spec.proofs.of_stamp_time.RangeLaws.{has_stamp}
use Rattle.checkpoint_spec.specs.stamp_time.Range.{IsStampMoment}
use Rattle.checkpoint_spec.specs.history_spec.Trace.{applied, swept, Trace, IsTrace}
use Rattle.checkpoint_spec.specs.table_machine.Table.{Table}
use Rattle.checkpoint_spec.specs.table_machine.Steps.{apply, expire, purge, retain}
use Rattle.checkpoint_spec.proofs.of_table_machine.CommandSteps.{commands_are_followed}
use Rattle.checkpoint_spec.proofs.of_table_machine.SweepSteps.{expiries_are_followed, purges_are_followed, retentions_are_followed}
use Rattle.fleet_tables.specs.Stands.{Stands, expire_alone, purge_alone, reports_alone}

pub stands_applied : (old new : Table) (x : Applied) (history : Trace) → new ≡ apply x old → Stands old history → IsTrace (applied x ∷ history) → Stands new (applied x ∷ history)
stands_applied old new x history step s trace =
    subst (λ t. Stands t (applied x ∷ history)) (sym step) (trace, ap (apply x) s.1 ∙ commands_are_followed old.ttls x history trace)

module _ (old new : Table) (m : ℤ) (history : Trace) (moment : IsStampMoment m) (s : Stands old history) where
  pub stands_expired : new ≡ expire m old → Stands new (swept expire_alone m ∷ history)
  stands_expired step =
      subst (λ t. Stands t (swept expire_alone m ∷ history)) (sym step) ((has_stamp m moment, s.0), ap (expire m) s.1 ∙ expiries_are_followed old.ttls m history)

  pub stands_purged : new ≡ purge m old → Stands new (swept purge_alone m ∷ history)
  stands_purged step =
      subst (λ t. Stands t (swept purge_alone m ∷ history)) (sym step) ((has_stamp m moment, s.0), ap (purge m) s.1 ∙ purges_are_followed old.ttls m history)

  pub stands_retained : new ≡ retain m old → Stands new (swept reports_alone m ∷ history)
  stands_retained step =
      subst (λ t. Stands t (swept reports_alone m ∷ history)) (sym step) ((has_stamp m moment, s.0), ap (retain m) s.1 ∙ retentions_are_followed old.ttls m history)
