-- What stands on the disks, by the records that were written.
use Rattle.std.proofs.Common.{◌≡◌, ◌∙◌, ◌⊎◌, inl, inr, ⊎_elim, Bool, true, false, ◌||◌, List, [], ◌∷◌, ◌++◌, Option, Some, None, IsTrue, refl, sym, subst}
use Rattle.std.proofs.lemmas.List.{append-nil}
use Rattle.supersede_core.specs.fleet_rows.declared.settings.Ttls.{Ttls}
use Rattle.supersede_core.specs.record_spec.declared.queue.QueueRecord.{QueueRecord}
use Rattle.supersede_core.specs.record_spec.declared.store.StoreRecord.{StoreRecord}
use Rattle.retry_discard.specs.core_spec.declared.event.Event.{Event}
use Rattle.retry_discard.specs.core_spec.Damage.{IsQueueLog}
use Rattle.retry_discard.specs.core_spec.History.{History, trace_of}
use Rattle.retry_discard.specs.core_spec.Legal.{May}
use Rattle.retry_discard.specs.core_spec.Checkpoints.{queue_checkpoint, store_checkpoint}
use Rattle.retry_discard.specs.core_spec.Stands.{queue_part, QueueTells, store_part, StoreTells, Stands}
use Rattle.compact_laws.specs.core_laws.StandingLaws.{IsPlain}
use Rattle.compact_laws.proofs.of_core_laws.QueueCheckpoints.{queue_checkpoints_are_logs}
use Rattle.compact_laws.proofs.of_core_laws.StandingRecords.{queue_records_go_on, store_records_go_on, queue_checkpoints_tell, store_checkpoints_tell, both_logs_stand}
use Rattle.queue_log.specs.fleet_keeper.Records.{IsOneOf, with_one}
use Rattle.queue_log.specs.declared.queue.QueueLog.{QueueLog}
use Rattle.queue_log.specs.Queued.{queued, QueueImages, QueueIsUp, QueueLeaves, queue_down, queue_moment, QueueSince}
use Rattle.core_state.specs.declared.state.CoreState.{CoreState}
use Rattle.core_state.specs.Seen.{down_of, held_of, IsSound}
use Rattle.core_state.specs.StandsFor.{HoldsFor, LogsTell, StandsAt, EachImage, AreOfOneRecord, none, ImagesStand, history_of, StandsFor}
use Rattle.core_state.specs.Moments.{IsLater, Within, GoesOn, StandsAmid}
use Rattle.core_state.proofs.Later.{same_queue_later, same_store_later, put_later}
use Rattle.core_state.proofs.KnownImages.{IsOrMore, queue_known, queue_still, queue_each, queue_since, store_known, store_still, store_each, store_since}
use Rattle.core_state.proofs.NextRecords.{RoomIsLeft, log_goes_on, bounded}
use Rattle.core_state.proofs.Ports.{Ports}

-- ---- the records of both logs

pub record BothTell (ttls : Ttls) (xs : List QueueRecord) (ys : List StoreRecord) (history : History) : Type 0 where
  pub queue : QueueTells xs history
  pub log : IsQueueLog xs
  pub store : StoreTells ttls ys history

-- they stand for the history
pub both_stand : (ttls : Ttls) (xs : List QueueRecord) (ys : List StoreRecord) (history : History) → IsPlain ttls history → BothTell ttls xs ys history → Stands ttls xs ys history
both_stand ttls xs ys history plain both = both_logs_stand ttls xs ys history plain both.queue both.store both.log

pub both_go_on : (ttls : Ttls) (xs : List QueueRecord) (ys : List StoreRecord) (history : History) → IsPlain ttls history → BothTell ttls xs ys history → (e : Event) → May ttls e history → RoomIsLeft e history
    → BothTell ttls (xs ++ queue_part e) (ys ++ store_part e history) (e ∷ history)
both_go_on ttls xs ys history plain both e may room = record {
  queue = queue_records_go_on xs e history both.queue;
  log = log_goes_on ttls xs history plain both.queue both.log e may room;
  store = store_records_go_on ttls ys e history both.store;
}

-- both logs may begin anew
pub both_anew : (ttls : Ttls) (xs : List QueueRecord) (ys : List StoreRecord) (history : History) → IsPlain ttls history → BothTell ttls xs ys history
    → BothTell ttls (queue_checkpoint history) (store_checkpoint ttls None (trace_of history)) history
both_anew ttls xs ys history plain both = record {
  queue = queue_checkpoints_tell history plain.few;
  log = queue_checkpoints_are_logs ttls history plain.legal plain.few (bounded ttls xs history plain both.queue both.log);
  store = store_checkpoints_tell ttls None history tt;
}

-- an event that leaves these records
pub both_with : (ttls : Ttls) (xs : List QueueRecord) (ys : List StoreRecord) (history : History) → IsPlain ttls history → BothTell ttls xs ys history → (e : Event) → May ttls e history → RoomIsLeft e history
    → (q : List QueueRecord) (s : List StoreRecord) → queue_part e ≡ q → store_part e history ≡ s → BothTell ttls (xs ++ q) (ys ++ s) (e ∷ history)
both_with ttls xs ys history plain both e may room q s q_is s_is =
    subst (λ (part : List QueueRecord). BothTell ttls (xs ++ part) (ys ++ s) (e ∷ history)) q_is
    (subst (λ (part : List StoreRecord). BothTell ttls (xs ++ queue_part e) (ys ++ part) (e ∷ history)) s_is (both_go_on ttls xs ys history plain both e may room))

pub no_queue_part : (ttls : Ttls) (xs : List QueueRecord) (ys : List StoreRecord) (history : History) → BothTell ttls (xs ++ []) ys history → BothTell ttls xs ys history
no_queue_part ttls xs ys history both = subst (λ (zs : List QueueRecord). BothTell ttls zs ys history) (append-nil xs) both

pub no_store_part : (ttls : Ttls) (xs : List QueueRecord) (ys : List StoreRecord) (history : History) → BothTell ttls xs (ys ++ []) history → BothTell ttls xs ys history
no_store_part ttls xs ys history both = subst (λ (zs : List StoreRecord). BothTell ttls xs zs history) (append-nil ys) both

pub at : (ttls : Ttls) (q : Option (List QueueRecord)) (s : Option (List StoreRecord)) (xs : List QueueRecord) (ys : List StoreRecord) (history : History) → q ≡ Some xs → s ≡ Some ys → Stands ttls xs ys history → StandsAt ttls q s history
at ttls q s xs ys history q_is s_is stands = record { queue_records = xs; store_records = ys; queue_is = q_is; store_is = s_is; stands = stands }

-- ---- down or up

pub record IsUp (undone queue_is store_is : Bool) : Type 0 where
  pub done : undone ≡ false
  pub queue : queue_is ≡ false
  pub store : store_is ≡ false

pub up_parts : (a b c : Bool) → (a || (b || c)) ≡ false → IsUp a b c
up_parts false false false e = record { done = refl; queue = refl; store = refl }
up_parts false false true e = absurd cc
up_parts false true c e = absurd cc
up_parts true b c e = absurd cc

pub parts_up : (a b c : Bool) → IsUp a b c → (a || (b || c)) ≡ false
parts_up a b c up = rw (up.done, up.queue, up.store) refl

module _ {D K : Type 0} (p : Ports D K) where
  abbrev pub IsSoundCore : CoreState D K → Type 0
  IsSoundCore core = IsSound p.seen p.may_leave p.store_down p.store_up core

  abbrev pub CoreStands : CoreState D K → History → Type 0
  CoreStands core start = StandsFor p.tells p.store_tells p.seen p.may_leave p.kept p.images p.store_down p.store_faults core start

  abbrev pub CoreLogs : CoreState D K → History → Type 0
  CoreLogs core history = LogsTell p.tells p.store_tells p.seen p.kept core history

  abbrev pub is_down : CoreState D K → Bool
  is_down core = down_of p.store_down core

  pub core_up : (core : CoreState D K) → is_down core ≡ false → IsUp core.undone (queue_down core.queue) (p.store_down core.store)
  core_up core up = up_parts core.undone (queue_down core.queue) (p.store_down core.store) up

  -- ---- a core that is up

  module _ (core : CoreState D K) (history : History) (queue_up : QueueIsUp p.seen p.may_leave core.queue) (store_up : p.store_up core.store) (tells : CoreLogs core history) where
    pub q_known : (q : Option (List QueueRecord)) → QueueImages p.may_leave core.queue q → q ≡ Some tells.queue_records
    q_known = queue_known p.tells p.seen p.may_leave p.moment p.left_since p.told p.told_since p.only_now core.queue tells.queue_records tells.queue_is queue_up

    pub q_still : (q : Option (List QueueRecord)) → QueueSince p.left_since core.queue (queue_moment p.moment core.queue) q → q ≡ Some tells.queue_records
    q_still = queue_still p.tells p.seen p.may_leave p.moment p.left_since p.told p.told_since p.only_now core.queue tells.queue_records tells.queue_is queue_up

    pub s_known : (s : Option (List StoreRecord)) → p.images core.store s → s ≡ Some tells.store_records
    s_known = store_known p.store_tells p.kept p.images p.store_moment p.images_since p.store_up p.store_told p.store_told_since p.store_only_now p.store_stands core.store tells.store_records tells.store_is store_up

    pub s_still : (s : Option (List StoreRecord)) → p.images_since core.store (p.store_moment core.store) s → s ≡ Some tells.store_records
    s_still = store_still p.store_tells p.kept p.images p.store_moment p.images_since p.store_up p.store_told p.store_told_since p.store_only_now p.store_stands core.store tells.store_records tells.store_is store_up

    both_tell : BothTell core.tables.ttls tells.queue_records tells.store_records history
    both_tell = record { queue = tells.queue; log = tells.log; store = tells.store }

    images_of_up : IsPlain core.tables.ttls history → (down : Bool) → ImagesStand p.may_leave p.images core down history
    images_of_up plain down = record {
      begun = [];
      of_one = none refl;
      each = λ q s q_image s_image.
          inl (at core.tables.ttls q s tells.queue_records tells.store_records history (q_known q q_image) (s_known s s_image) (both_stand core.tables.ttls tells.queue_records tells.store_records history plain both_tell));
    }

  -- what is held and what the logs tell is all
  pub up_stands : (core : CoreState D K) (start : History) → QueueIsUp p.seen p.may_leave core.queue → p.store_up core.store → HoldsFor (held_of core) (p.store_faults core.store) start → CoreLogs core (history_of core start) → CoreStands core start
  up_stands core start queue_up store_up holds tells = record {
    holds = holds;
    tells = λ up. tells;
    disks = images_of_up core (history_of core start) queue_up store_up tells holds.says.plain (is_down core);
  }

  -- one that is down
  pub down_stands : (core : CoreState D K) (start : History) → is_down core ≡ true → HoldsFor (held_of core) (p.store_faults core.store) start
      → (begun : History) → AreOfOneRecord begun → EachImage p.may_leave p.images core (λ q s. StandsAt core.tables.ttls q s (history_of core start) ⊎ StandsAt core.tables.ttls q s (begun ++ history_of core start)) → CoreStands core start
  down_stands core start down holds begun of_one each = record {
    holds = holds;
    tells = λ up. absurd (let apart : true ≡ false = sym down ∙ up in cc);
    disks = record { begun = begun; of_one = of_one; each = λ q s q_image s_image. ⊎_elim (λ old. inl old) (λ more. inr (down, more)) (each q s q_image s_image) };
  }

  -- the core's logs have these records
  pub logs_of : (core : CoreState D K) (xs : List QueueRecord) (ys : List StoreRecord) (history : History) (ttls : Ttls) → core.tables.ttls ≡ ttls → BothTell ttls xs ys history
      → (IsTrue p.tells → queued p.seen core.queue ≡ Some xs) → (IsTrue p.store_tells → p.kept core.store ≡ Some ys) → CoreLogs core history
  logs_of core xs ys history ttls same both q_is s_is = record {
    queue_records = xs;
    store_records = ys;
    queue = both.queue;
    log = both.log;
    store = subst (λ (ts : Ttls). StoreTells ts ys history) (sym same) both.store;
    queue_is = q_is;
    store_is = s_is;
  }

  -- ---- from a core that is up

  module _ (old : CoreState D K) (start : History) (sound : IsSoundCore old) (stands : CoreStands old start) (up : is_down old ≡ false) where
    abbrev pub before : History
    before = history_of old start

    abbrev pub ttls : Ttls
    ttls = old.tables.ttls

    abbrev pub logs : CoreLogs old before
    logs = stands.tells up

    abbrev pub xs : List QueueRecord
    xs = logs.queue_records

    abbrev pub ys : List StoreRecord
    ys = logs.store_records

    abbrev pub queue_up : QueueIsUp p.seen p.may_leave old.queue
    queue_up = sound.queue (core_up old up).queue

    abbrev pub store_up : p.store_up old.store
    store_up = sound.store (core_up old up).store

    abbrev pub plain : IsPlain ttls before
    plain = stands.holds.says.plain

    pub tell : BothTell ttls xs ys before
    tell = record { queue = logs.queue; log = logs.log; store = logs.store }

    pub stand_now : Stands ttls xs ys before
    stand_now = both_stand ttls xs ys before plain tell

    -- the images of the queue that was written
    pub q_each : (new : QueueLog D) (rec : QueueRecord) → ((o : Option (List QueueRecord)) → QueueImages p.may_leave new o → IsOneOf (queued p.seen old.queue) (with_one (queued p.seen old.queue) rec) o)
        → (q : Option (List QueueRecord)) → QueueImages p.may_leave new q → IsOrMore xs rec q
    q_each = queue_each p.tells p.seen p.may_leave p.moment p.left_since p.told p.told_since p.only_now old.queue xs logs.queue_is

    pub q_since : (new : QueueLog D) (rec : QueueRecord) → QueueLeaves p.may_leave p.moment p.left_since old.queue new (IsOneOf (queued p.seen old.queue) (with_one (queued p.seen old.queue) rec))
        → (q : Option (List QueueRecord)) → QueueSince p.left_since new (queue_moment p.moment old.queue) q → IsOrMore xs rec q
    q_since = queue_since p.tells p.seen p.may_leave p.moment p.left_since p.told p.told_since p.only_now old.queue xs logs.queue_is

    -- and of the store
    pub s_each : (new : K) (rec : StoreRecord) → ((o : Option (List StoreRecord)) → p.images new o → IsOneOf (p.kept old.store) (with_one (p.kept old.store) rec) o) → (s : Option (List StoreRecord)) → p.images new s → IsOrMore ys rec s
    s_each = store_each p.store_tells p.kept p.images p.store_moment p.images_since p.store_up p.store_told p.store_told_since p.store_only_now p.store_stands old.store ys logs.store_is

    pub s_since : (new : K) (rec : StoreRecord) → ((o : Option (List StoreRecord)) → p.images_since new (p.store_moment old.store) o → IsOneOf (p.kept old.store) (with_one (p.kept old.store) rec) o)
        → (s : Option (List StoreRecord)) → p.images_since new (p.store_moment old.store) s → IsOrMore ys rec s
    s_since = store_since p.store_tells p.kept p.images p.store_moment p.images_since p.store_up p.store_told p.store_told_since p.store_only_now p.store_stands old.store ys logs.store_is

    -- ---- moments within a call

    module _ (Begins : History → History → Type 0) (after : History) (goes : GoesOn before after) where
      abbrev pub Amid : Option (List QueueRecord) → Option (List StoreRecord) → Type 0
      Amid q s = StandsAmid ttls Begins before after q s

      -- for the history as it was
      pub amid_old : (q : Option (List QueueRecord)) (s : Option (List StoreRecord)) → q ≡ Some xs → s ≡ Some ys → Amid q s
      amid_old q s q_is s_is = record { upto = before; from_old = ([], refl); to_new = goes; begun = []; begins = inl refl; stands = at ttls q s xs ys before q_is s_is stand_now }

      -- and with the events of the record that is written
      pub amid_begun : (begun : History) → Begins before begun → (xs_now : List QueueRecord) (ys_now : List StoreRecord) → Stands ttls xs_now ys_now (begun ++ before) → (q : Option (List QueueRecord)) (s : Option (List StoreRecord)) → q ≡ Some xs_now → s ≡ Some ys_now → Amid q s
      amid_begun begun begins xs_now ys_now now q s q_is s_is = record { upto = before; from_old = ([], refl); to_new = goes; begun = begun; begins = inr begins; stands = at ttls q s xs_now ys_now (begun ++ before) q_is s_is now }

      -- the first kind of image: the queue isn't written yet
      pub first_same : (new : K) → new ≡ old.store → (q : Option (List QueueRecord)) (s : Option (List StoreRecord)) → QueueImages p.may_leave old.queue q → p.images_since new (p.store_moment old.store) s → Amid q s
      first_same new same q s image since =
          amid_old q s (q_known old before queue_up store_up logs q image) (s_still old before queue_up store_up logs s (subst (λ (k : K). p.images_since k (p.store_moment old.store) s) same since))

      pub first_written : (new : K) (rec : StoreRecord) (begun : History) → Begins before begun → Stands ttls xs (ys ++ rec ∷ []) (begun ++ before)
          → ((o : Option (List StoreRecord)) → p.images_since new (p.store_moment old.store) o → IsOneOf (p.kept old.store) (with_one (p.kept old.store) rec) o)
          → (q : Option (List QueueRecord)) (s : Option (List StoreRecord)) → QueueImages p.may_leave old.queue q → p.images_since new (p.store_moment old.store) s → Amid q s
      first_written new rec begun begins now any_moment q s image since =
          let q_is = q_known old before queue_up store_up logs q image in
          ⊎_elim (λ is. amid_old q s q_is is) (λ is. amid_begun begun begins xs (ys ++ rec ∷ []) now q s q_is is) (s_since new rec any_moment s since)

      -- the second kind: the store is done
      pub then_same : (new : QueueLog D) (store : K) → new ≡ old.queue → ((s : Option (List StoreRecord)) → p.images store s → (q : Option (List QueueRecord)) → q ≡ Some xs → Amid q s)
          → (q : Option (List QueueRecord)) (s : Option (List StoreRecord)) → QueueSince p.left_since new (queue_moment p.moment old.queue) q → p.images store s → Amid q s
      then_same new store same each q s since image =
          each s image q (q_still old before queue_up store_up logs q (subst (λ (l : QueueLog D). QueueSince p.left_since l (queue_moment p.moment old.queue) q) same since))

      pub then_written : (new : QueueLog D) (store : K) (rec : QueueRecord) (ys_now : List StoreRecord) → QueueLeaves p.may_leave p.moment p.left_since old.queue new (IsOneOf (queued p.seen old.queue) (with_one (queued p.seen old.queue) rec))
          → ((s : Option (List StoreRecord)) → p.images store s → s ≡ Some ys_now)
          → ((q : Option (List QueueRecord)) (s : Option (List StoreRecord)) → s ≡ Some ys_now → IsOrMore xs rec q → Amid q s)
          → (q : Option (List QueueRecord)) (s : Option (List StoreRecord)) → QueueSince p.left_since new (queue_moment p.moment old.queue) q → p.images store s → Amid q s
      then_written new store rec ys_now leaves known each q s since image = each q s (known s image) (q_since new rec leaves q since)

      -- nothing was written
      pub nothing_within : (new : CoreState D K) → new.queue ≡ old.queue → new.store ≡ old.store → Within p.may_leave p.moment p.left_since p.images p.store_moment p.images_since old new Amid
      nothing_within new queue store = record {
        later_queue = same_queue_later p old new queue;
        later_store = same_store_later p old new store;
        store_first = first_same new.store store;
        then_queue = then_same new.queue new.store queue (λ s image q q_is. amid_old q s q_is (s_known old before queue_up store_up logs s (subst (λ (k : K). p.images k s) store image)));
      }

      -- the queue alone
      pub queue_within : (new : CoreState D K) (rec : QueueRecord) (begun : History) → Begins before begun → Stands ttls (xs ++ rec ∷ []) ys (begun ++ before)
          → QueueLeaves p.may_leave p.moment p.left_since old.queue new.queue (IsOneOf (queued p.seen old.queue) (with_one (queued p.seen old.queue) rec)) → new.store ≡ old.store
          → Within p.may_leave p.moment p.left_since p.images p.store_moment p.images_since old new Amid
      queue_within new rec begun begins now leaves store = record {
        later_queue = put_later p.may_leave p.moment p.left_since old.queue new.queue (IsOneOf (queued p.seen old.queue) (with_one (queued p.seen old.queue) rec)) leaves;
        later_store = same_store_later p old new store;
        store_first = first_same new.store store;
        then_queue = then_written new.queue new.store rec ys leaves (λ s image. s_known old before queue_up store_up logs s (subst (λ (k : K). p.images k s) store image))
            (λ q s s_is more. ⊎_elim (λ is. amid_old q s is s_is) (λ is. amid_begun begun begins (xs ++ rec ∷ []) ys now q s is s_is) more);
      }

      -- the store alone
      pub store_within : (new : CoreState D K) (rec : StoreRecord) (begun : History) → Begins before begun → Stands ttls xs (ys ++ rec ∷ []) (begun ++ before)
          → ((o : Option (List StoreRecord)) → p.images_since new.store (p.store_moment old.store) o → IsOneOf (p.kept old.store) (with_one (p.kept old.store) rec) o)
          → IsLater (p.store_moment old.store) (p.store_moment new.store)
          → ((o : Option (List StoreRecord)) → p.images new.store o → IsOneOf (p.kept old.store) (with_one (p.kept old.store) rec) o) → new.queue ≡ old.queue
          → Within p.may_leave p.moment p.left_since p.images p.store_moment p.images_since old new Amid
      store_within new rec begun begins now any_moment later each queue = record {
        later_queue = same_queue_later p old new queue;
        later_store = later;
        store_first = first_written new.store rec begun begins now any_moment;
        then_queue = then_same new.queue new.store queue (λ s image q q_is.
            ⊎_elim (λ is. amid_old q s q_is is) (λ is. amid_begun begun begins xs (ys ++ rec ∷ []) now q s q_is is) (s_each new.store rec each s image));
      }

    -- ---- images after a call

    -- the queue was written, and the store has the records that it had
    pub queue_images : (new : CoreState D K) (rec : QueueRecord) (begun : History) → Stands ttls (xs ++ rec ∷ []) ys (begun ++ before)
        → ((o : Option (List QueueRecord)) → QueueImages p.may_leave new.queue o → IsOneOf (queued p.seen old.queue) (with_one (queued p.seen old.queue) rec) o) → ((s : Option (List StoreRecord)) → p.images new.store s → s ≡ Some ys)
        → EachImage p.may_leave p.images new (λ q s. StandsAt ttls q s before ⊎ StandsAt ttls q s (begun ++ before))
    queue_images new rec begun now each known q s q_image s_image =
        let s_is = known s s_image in
        ⊎_elim (λ is. inl (at ttls q s xs ys before is s_is stand_now)) (λ is. inr (at ttls q s (xs ++ rec ∷ []) ys (begun ++ before) is s_is now)) (q_each new.queue rec each q q_image)

    -- the store as it was
    pub known_store : (store : K) → store ≡ old.store → (s : Option (List StoreRecord)) → p.images store s → s ≡ Some ys
    known_store store same s image = s_known old before queue_up store_up logs s (subst (λ (k : K). p.images k s) same image)

    pub store_images : (new : CoreState D K) (rec : StoreRecord) (begun : History) → Stands ttls xs (ys ++ rec ∷ []) (begun ++ before)
        → ((o : Option (List StoreRecord)) → p.images new.store o → IsOneOf (p.kept old.store) (with_one (p.kept old.store) rec) o) → new.queue ≡ old.queue
        → EachImage p.may_leave p.images new (λ q s. StandsAt ttls q s before ⊎ StandsAt ttls q s (begun ++ before))
    store_images new rec begun now each queue q s q_image s_image =
        let q_is = q_known old before queue_up store_up logs q (subst (λ (l : QueueLog D). QueueImages p.may_leave l q) queue q_image) in
        ⊎_elim (λ is. inl (at ttls q s xs ys before q_is is stand_now)) (λ is. inr (at ttls q s xs (ys ++ rec ∷ []) (begun ++ before) q_is is now)) (s_each new.store rec each s s_image)
