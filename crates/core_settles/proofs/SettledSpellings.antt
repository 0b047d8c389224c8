-- What a core holds can be written after a settle too.
use Rattle.std.proofs.Common.{◌≡◌, Bool, true, Some, sym, subst}
use Rattle.std.specs.List.{AllByRecursion}
use Rattle.core_claims.specs.wire_spec.Decode.{DecodeOf}
use Rattle.core_claims.specs.fleet_rows.declared.change.Change.{Change}
use Rattle.core_claims.specs.fleet_rows.declared.refusal.Cause.{Cause}
use Rattle.core_claims.specs.fleet_rows.declared.refusal.Cause.TheVariants as cause
use Rattle.core_claims.specs.history_spec.Lawful.{IsChange}
use Rattle.core_claims.specs.history_spec.Trace.{applied_as}
use Rattle.core_claims.specs.table_machine.Table.{Table}
use Rattle.core_claims.specs.core_spec.History.{History}
use Rattle.core_claims.proofs.of_wire_laws.LawfulChanges.{decoded_changes_are_lawful}
use Rattle.core_claims.proofs.of_core_laws.Keys.{answer_decodes}
use Rattle.core_claims.specs.declared.job.Job.{Job}
use Rattle.core_claims.specs.core_state.compact_laws.Lawful.{IsLawfulTable}
use Rattle.core_claims.specs.core_state.declared.state.CoreState.{CoreState}
use Rattle.core_claims.specs.core_state.Seen.{IsFit}
use Rattle.core_claims.specs.core_state.Spelling.{HasSpelling}
use Rattle.core_claims.proofs.of_core_state.of_compact_laws.LawfulTables.{commands_keep_tables_lawful}
use Rattle.core_claims.proofs.of_core_state.Ports.{Ports}
use Rattle.core_claims.proofs.of_core_state.Spellings.{IsFitDead, put_fit, spelling_of, spelling_stays}
use Rattle.core_settles.specs.declared.answers.Settled.{Settled}
use Rattle.core_settles.specs.declared.answers.Verdict.{Verdict}
use Rattle.core_settles.specs.declared.answers.Verdict.TheVariants as verdict
use Rattle.core_settles.specs.Ends.{dead_of, HasDiscarded, HasApplied}
use Rattle.core_settles.specs.Settles.{IsVerdictOf}
use Rattle.core_settles.proofs.Outcomes.{Outcome, down, unclaimed, no_memory, freed, refused, refuse_unput, refuse_open, applied, undone, store_down, failed, given_up, fail_unput, fail_open}

module _ {D K : Type 0} (p : Ports D K) (job : Job) (old new : CoreState D K) (fit : IsFit job.command) (spelling : HasSpelling old) where
  discarded : (why : Cause) (more : History) → HasDiscarded (dead_of job why) more old new → HasSpelling new
  discarded why more h = record {
    tables = subst (λ (t : Table). IsLawfulTable t) (sym h.tables) spelling.tables;
    dead = subst (AllByRecursion IsFitDead) (sym h.dead_is) (put_fit (dead_of job why) old.discards.list fit spelling.dead);
  }

  lawful : (v : Verdict) (change : Change) → v ≡ verdict.Change change → IsVerdictOf v job.command → IsChange change
  lawful v change is decodes =
      let ok = subst (λ (w : Verdict). IsVerdictOf w job.command) is decodes in
      decoded_changes_are_lawful job.command change fit.1 (subst (DecodeOf job.command) ok (answer_decodes job.command))

  changed : (change : Change) (mark : Bool) → IsChange change → HasApplied job change mark old new → HasSpelling new
  changed change mark is h =
      spelling_of old new
      (subst (λ (t : Table). IsLawfulTable t) (sym h.tables) (commands_keep_tables_lawful (applied_as job.receipt (Some job.command.received) change) old.tables (fit.0, is) spelling.tables))
      h.dead spelling

  pub settle_spelling : (came : Settled) (v : Verdict) → IsVerdictOf v job.command → Outcome p job old new came v → HasSpelling new
  settle_spelling came v decodes (down e is same) = subst (λ (x : CoreState D K). HasSpelling x) (sym same) spelling
  settle_spelling came v decodes (unclaimed e up is same) = subst (λ (x : CoreState D K). HasSpelling x) (sym same) spelling
  settle_spelling came v decodes (no_memory e up is m) = spelling_stays old new m.memory.others spelling
  settle_spelling came v decodes (freed e up is s h) = spelling_stays old new h.freed.others spelling
  settle_spelling came v decodes (refused refusal ve e up is put store h) = discarded (cause.Refused refusal) _ h
  settle_spelling came v decodes (refuse_unput refusal ve e up is put store h) = spelling_stays old new h.others spelling
  settle_spelling came v decodes (refuse_open refusal ve e up is put store m) = spelling_stays old new m.others spelling
  settle_spelling came v decodes (applied change ve e up is keeps put h) = changed change old.undone (lawful v change ve decodes) h
  settle_spelling came v decodes (undone change ve e up is keeps answer faulty put h) = changed change true (lawful v change ve decodes) h
  settle_spelling came v decodes (store_down change ve e up is keeps queue m) = spelling_stays old new m.others spelling
  settle_spelling came v decodes (failed change n ve e up is f put n_is few h) = spelling_stays old new h.others spelling
  settle_spelling came v decodes (given_up change ve e up is f put n_is h) = discarded cause.Failures _ h
  settle_spelling came v decodes (fail_unput change ve e up is f put h) = spelling_stays old new h.others spelling
  settle_spelling came v decodes (fail_open change ve e up is f put m) = spelling_stays old new m.others spelling
