-- A core over logs that were read stands for each history that the records stand for, and is up.
use Rattle.std.proofs.Common.{◌≡◌, ◌∙◌, inl, ℕ, ◌+◌, List, [], ◌∷◌, ◌++◌, arith, refl, sym, subst, Bool, false, Option}
use Rattle.std.specs.List.{AllByRecursion}
use Rattle.core_state.specs.fleet_rows.declared.settings.Ttls.{Ttls}
use Rattle.core_state.specs.log_pair.Pair.{is_down_of}
use Rattle.core_state.specs.record_spec.declared.store.StoreRecord.{StoreRecord}
use Rattle.core_state.specs.record_spec.Queue.{IsQueueRecord}
use Rattle.core_state.specs.table_machine.Steps.{empty_table}
use Rattle.core_state.specs.store_records.Reading.{store_at}
use Rattle.core_state.specs.core_spec.declared.dead.Dead.{Dead}
use Rattle.core_state.specs.core_spec.declared.entry.Entry.{Entry}
use Rattle.core_state.specs.core_spec.declared.event.Event.TheVariants.{Restart}
use Rattle.core_state.specs.core_spec.History.{History}
use Rattle.core_state.specs.core_spec.Pending.{NoneIsWornOut}
use Rattle.core_state.specs.core_spec.Stands.{Stands}
use Rattle.core_state.specs.core_laws.Replay.{pending_after, dead_after, last_after}
use Rattle.core_state.specs.core_laws.TableReplay.{table_after}
use Rattle.core_state.specs.compact_laws.Lawful.{IsLawfulTable}
use Rattle.core_state.proofs.of_core_laws.QueueLogs.{all_so}
use Rattle.core_state.specs.supersede_core.Waiting.{AreBelow}
use Rattle.core_state.specs.fleet_keeper.Keeper.{pair_of, faults_of}
use Rattle.core_state.specs.fleet_keeper.Pairs.{pair_records, PairImages}
use Rattle.core_state.specs.Seen.{held_of, down_of, IsSubmittedIn, HasRecord, IsFit}
use Rattle.core_state.specs.StandsFor.{none, IsHeld, LogsTell, ImagesStand}
use Rattle.core_opening.specs.Replayed.{AreQueuedOnly}
use Rattle.core_opening.specs.Opened.{LogCore, found_queue, found_store, LogCoreStands, IsUpCore, HasQueue, HasStore, TellsMissing, IsGreatest, IsOpened, written}
use Rattle.core_opening.proofs.Histories.{restarted, queue_tells, store_tells, is_held}
use Rattle.core_state.specs.core_spec.Checkpoints.{settings}
use Rattle.core_state.proofs.of_core_laws.LaidLogs.{lifetimes_are_told}
use Rattle.core_opening.proofs.Lifetimes.{same_ttls}
use Rattle.core_opening.proofs.Sounds.{no_claims, has_fit, dead_are_fit}

-- the core has what the records lead to, and the Done that lacked is written
pub record IsMended {D : Type 0} (told : Bool) (seen : D → List ℕ) (may_leave : D → List ℕ → Type 0) (core : LogCore D) (missing : Option ℕ) : Type 0 where
  pub queue : HasQueue told seen may_leave core.queue (written missing (found_queue core))
  pub store : HasStore told seen may_leave core.store (found_store core)
  pub tells : TellsMissing missing (found_queue core) (found_store core)
  pub pending : core.pending ≡ pending_after (written missing (found_queue core)) []
  pub dead : core.discards.list ≡ dead_after (found_queue core) [] []
  pub last : IsGreatest (last_after (found_queue core) 0) (pending_after (found_queue core) []) core.last
  pub tables : core.tables ≡ table_after (found_store core) (empty_table core.tables.ttls)
  pub lawful_tables : IsLawfulTable core.tables
  pub events : core.events.list ≡ Restart ∷ []
  pub undone : core.undone ≡ false
  pub below : AreBelow (core.last + 1) core.pending
  pub few : NoneIsWornOut core.pending
  pub free : AreQueuedOnly core.pending
  pub submitted : AllByRecursion (λ (e : Entry). HasRecord e.receipt e.command (found_queue core)) core.pending
  pub lawful : AllByRecursion IsQueueRecord (found_queue core)

module _ {D : Type 0} (told : Bool) (seen : D → List ℕ) (may_leave : D → List ℕ → Type 0) (core : LogCore D) (missing : Option ℕ) (is : IsMended told seen may_leave core missing) where
  module _ (start : History) (stands : Stands core.tables.ttls (found_queue core) (found_store core) start) where
    abbrev ttls : Ttls
    ttls = core.tables.ttls

    again : Stands ttls (written missing (found_queue core)) (found_store core) (Restart ∷ start)
    again = restarted ttls (found_queue core) (found_store core) start stands missing is.tells

    says : IsHeld (held_of core) (faults_of core.store) (Restart ∷ start)
    says = is_held ttls (found_queue core) (found_store core) start stands missing is.tells (held_of core) (faults_of core.store) is.tables is.pending is.dead is.last

    logs : LogsTell told told seen (λ k. pair_records store_at seen (pair_of k)) core (Restart ∷ start)
    logs = record {
      queue_records = written missing (found_queue core);
      store_records = found_store core;
      queue = queue_tells ttls (found_queue core) (found_store core) start stands missing is.tells;
      log = again.queue_log;
      store = store_tells ttls (found_queue core) (found_store core) start stands missing is.tells;
      queue_is = is.queue.is;
      store_is = is.store.is;
    }

    images : (down : Bool) → ImagesStand may_leave (λ k. PairImages store_at may_leave (pair_of k)) core down (Restart ∷ start)
    images down = record {
      begun = [];
      of_one = none refl;
      each = λ q s q_is s_is. inl (record {
        queue_records = written missing (found_queue core);
        store_records = found_store core;
        queue_is = is.queue.images q q_is;
        store_is = is.store.images s s_is;
        stands = again;
      });
    }

    pub core_stands : LogCoreStands told seen may_leave core start
    core_stands = record {
      holds = record { found = stands; says = subst (λ (l : History). IsHeld (held_of core) (faults_of core.store) (l ++ start)) (sym is.events) says };
      tells = λ up. subst (λ (l : History). LogsTell told told seen (λ k. pair_records store_at seen (pair_of k)) core (l ++ start)) (sym is.events) logs;
      disks = subst (λ (l : History). ImagesStand may_leave (λ k. PairImages store_at may_leave (pair_of k)) core (down_of (λ k. is_down_of (pair_of k)) core) (l ++ start)) (sym is.events) (images (down_of (λ k. is_down_of (pair_of k)) core));
    }

  pub core_is_up : IsUpCore seen may_leave core
  core_is_up = record {
    sound = record {
      queue = λ up. is.queue.up;
      store = λ up. is.store.up;
      pending = record {
        below = is.below;
        few = is.few;
        submitted = all_so (λ (e : Entry). HasRecord e.receipt e.command (found_queue core)) (λ (e : Entry). IsSubmittedIn e.receipt e.command (found_queue core) core.events.list) core.pending (λ e has. inl has) is.submitted;
        fit = all_so (λ (e : Entry). HasRecord e.receipt e.command (found_queue core)) (λ (e : Entry). IsFit e.command) core.pending (λ e has. has_fit e.receipt e.command (found_queue core) is.lawful has) is.submitted;
      };
      room = let none = no_claims core.pending is.free in omega (arith, none);
    };
    up = rw (is.undone, is.queue.up.up, is.store.up.up) refl;
    dead = subst (λ (ds : List Dead). AllByRecursion (λ (d : Dead). IsFit d.command) ds) (sym is.dead) (dead_are_fit (found_queue core) is.lawful);
    tables = is.lawful_tables;
  }

  pub core_is_opened : (t : Ttls) (rest : List StoreRecord) → found_store core ≡ settings t ∷ rest → core.tables.ttls ≡ t → IsOpened told seen may_leave core
  core_is_opened t rest first lifetimes = record {
    stands = λ other start stands.
        let told_by = lifetimes_are_told other (found_store core) start stands.store in
        let settings_are : settings t ≡ settings other = (let both : (settings t ∷ rest) ≡ (settings other ∷ told_by.0) = sym first ∙ told_by.1 in cc) in
        let same : core.tables.ttls ≡ other = lifetimes ∙ same_ttls t other settings_are in
        (same, core_stands start (subst (λ (u : Ttls). Stands u (found_queue core) (found_store core) start) (sym same) stands));
    logs = record { missing = missing; tells = is.tells; queue = is.queue.is; store = is.store.is };
    up = core_is_up;
    events = is.events;
  }
