-- What holds of a core holds of one with the same parts.
use Rattle.std.proofs.Common.{◌≡◌, ◌∙◌, ℕ, ◌≤◌, ◌||◌, ◌∷◌, arith, sym, ap, subst}
use Rattle.supersede_core.specs.fleet_rows.declared.command.Command.{Command}
use Rattle.supersede_core.specs.fleet_rows.declared.settings.Ttls.{Ttls}
use Rattle.retry_discard.specs.core_spec.declared.event.Event.{Event}
use Rattle.retry_discard.specs.core_spec.History.{History}
use Rattle.retry_discard.specs.core_spec.Stands.{Stands}
use Rattle.queue_log.specs.Queued.{QueueIsUp, queue_down}
use Rattle.core_state.specs.declared.found.Found.{Found}
use Rattle.core_state.specs.declared.state.CoreState.{CoreState}
use Rattle.core_state.specs.Changes.{OthersStay, MemoryStays, CoreStays}
use Rattle.core_state.specs.Seen.{Held, held_of, IsSubmittedIn, IsSubmitted, claimed_number, AreSound}
use Rattle.core_state.specs.StandsFor.{IsHeld, HoldsFor, history_of}
use Rattle.core_state.proofs.Ports.{Ports}
use Rattle.core_state.proofs.SoundLists.{sound_as}
use Rattle.core_state.proofs.Standing.{CoreStands, IsSoundCore, is_down}
use Rattle.core_state.proofs.Submissions.{submitted_stays}

module _ {D K : Type 0} (old new : CoreState D K) where
  -- one that is the same leaves all as it was
  pub same_others : new ≡ old → OthersStay old new
  same_others e = record {
    tables = ap (λ (x : CoreState D K). x.tables) e;
    dead = ap (λ (x : CoreState D K). x.discards.list) e;
    undone = ap (λ (x : CoreState D K). x.undone) e;
    found = ap (λ (x : CoreState D K). x.found) e;
    opened_a = ap (λ (x : CoreState D K). x.opened_a) e;
    opened_b = ap (λ (x : CoreState D K). x.opened_b) e;
  }

  pub same_stays : new ≡ old → CoreStays old new
  same_stays e = record {
    memory = record {
      others = same_others e;
      pending = ap (λ (x : CoreState D K). x.pending) e;
      events = ap (λ (x : CoreState D K). x.events.list) e;
      room = (let same = ap (λ (x : CoreState D K). x.events.room) e in omega (arith, same));
      last = ap (λ (x : CoreState D K). x.last) e;
    };
    queue = ap (λ (x : CoreState D K). x.queue) e;
    store = ap (λ (x : CoreState D K). x.store) e;
  }

  -- what the opening found
  pub found_carried : (start : History) → OthersStay old new → Stands old.tables.ttls old.found.queue.value old.found.store.value start → Stands new.tables.ttls new.found.queue.value new.found.store.value start
  found_carried start others s = subst (λ (ts : Ttls). Stands ts new.found.queue.value new.found.store.value start) (sym (ap (λ t. t.ttls) others.tables)) (subst (λ (f : Found). Stands old.tables.ttls f.queue.value f.store.value start) (sym others.found) s)

  pub held_same : MemoryStays old new → held_of old ≡ held_of new
  held_same m = λ i. record {
    table = sym m.others.tables i;
    pending = sym m.pending i;
    dead = sym m.others.dead i;
    events = sym m.events i;
    last = sym m.last i;
    found_queue = (sym m.others.found i).queue.value;
    found_store = (sym m.others.found i).store.value;
  }

  pub submitted_carried : new.found ≡ old.found → new.events.list ≡ old.events.list → (r : ℕ) (c : Command) → IsSubmitted r c old → IsSubmitted r c new
  submitted_carried found events r c s = subst (λ (f : Found). IsSubmittedIn r c f.queue.value new.events.list) (sym found) (subst (IsSubmittedIn r c old.found.queue.value) (sym events) s)

  pub submitted_on : (e : Event) → new.found ≡ old.found → new.events.list ≡ e ∷ old.events.list → (r : ℕ) (c : Command) → IsSubmitted r c old → IsSubmitted r c new
  submitted_on e found events r c s =
      subst (λ (f : Found). IsSubmittedIn r c f.queue.value new.events.list) (sym found)
      (subst (IsSubmittedIn r c old.found.queue.value) (sym events) (submitted_stays r c e old.found.queue.value old.events.list s))

module _ {D K : Type 0} (p : Ports D K) (old new : CoreState D K) (start : History) where
  -- a new core that holds what is said of a history
  pub holds_with : (history : History) → OthersStay old new → HoldsFor (held_of old) (p.store_faults old.store) start → history_of new start ≡ history → IsHeld (held_of new) (p.store_faults new.store) history → HoldsFor (held_of new) (p.store_faults new.store) start
  holds_with history others holds same says = record {
    found = found_carried old new start others holds.found;
    says = subst (IsHeld (held_of new) (p.store_faults new.store)) (sym same) says;
  }

  -- the same, where the tables changed too
  pub holds_of : (history : History) → Stands new.tables.ttls new.found.queue.value new.found.store.value start → history_of new start ≡ history → IsHeld (held_of new) (p.store_faults new.store) history → HoldsFor (held_of new) (p.store_faults new.store) start
  holds_of history found same says = record { found = found; says = subst (IsHeld (held_of new) (p.store_faults new.store)) (sym same) says }

  pub memory_holds : MemoryStays old new → new.store ≡ old.store → HoldsFor (held_of old) (p.store_faults old.store) start → HoldsFor (held_of new) (p.store_faults new.store) start
  memory_holds m store holds =
      subst (λ (h : Held). HoldsFor h (p.store_faults new.store) start) (held_same old new m) (subst (λ (k : K). HoldsFor (held_of old) (p.store_faults k) start) (sym store) holds)

  -- nothing was written, and all is held as it was
  abbrev as_old : CoreState D K
  as_old = record {
    alloc = new.alloc;
    queue = old.queue;
    store = old.store;
    tables = old.tables;
    pending = old.pending;
    discards = record { list = old.discards.list; room = new.discards.room };
    events = record { list = old.events.list; room = new.events.room };
    last = old.last;
    undone = old.undone;
    found = old.found;
    opened_a = old.opened_a;
    opened_b = old.opened_b;
  }

  same_core : CoreStays old new → as_old ≡ new
  same_core s = λ i. record {
    alloc = new.alloc;
    queue = sym s.queue i;
    store = sym s.store i;
    tables = sym s.memory.others.tables i;
    pending = sym s.memory.pending i;
    discards = record { list = sym s.memory.others.dead i; room = new.discards.room };
    events = record { list = sym s.memory.events i; room = new.events.room };
    last = sym s.memory.last i;
    undone = sym s.memory.others.undone i;
    found = sym s.memory.others.found i;
    opened_a = sym s.memory.others.opened_a i;
    opened_b = sym s.memory.others.opened_b i;
  }

  pub stands_carried : CoreStays old new → CoreStands p old start → CoreStands p new start
  stands_carried s stands = subst (λ (core : CoreState D K). CoreStands p core start) (same_core s) rebuilt
    where
      rebuilt : CoreStands p as_old start
      rebuilt = record {
        holds = stands.holds;
        tells = λ up.
            let t = stands.tells up in
            record { queue_records = t.queue_records; store_records = t.store_records; queue = t.queue; log = t.log; store = t.store; queue_is = t.queue_is; store_is = t.store_is };
        disks = record { begun = stands.disks.begun; of_one = stands.disks.of_one; each = stands.disks.each };
      }

  pub sound_carried : CoreStays old new → IsSoundCore p old → IsSoundCore p new
  sound_carried s sound = record {
    queue = λ up. subst (QueueIsUp p.seen p.may_leave) (sym s.queue) (sound.queue (ap queue_down (sym s.queue) ∙ up));
    store = λ up. subst p.store_up (sym s.store) (sound.store (ap p.store_down (sym s.store) ∙ up));
    pending = memory_sound s.memory sound.pending;
    room = memory_room s.memory sound.room;
  }
    where
      memory_sound : MemoryStays old new → AreSound old.last old.found.queue.value old.events.list old.pending → AreSound new.last new.found.queue.value new.events.list new.pending
      memory_sound m = sound_as old.last new.last old.found.queue.value new.found.queue.value old.events.list new.events.list old.pending new.pending m.last (ap (λ (f : Found). f.queue.value) m.others.found) m.events m.pending

      memory_room : MemoryStays old new → claimed_number old.pending ≤ old.events.room → claimed_number new.pending ≤ new.events.room
      memory_room m room = let same = ap claimed_number m.pending in omega (arith, same, m.room, room)

  pub down_carried : CoreStays old new → is_down p new ≡ is_down p old
  down_carried s = λ i. s.memory.others.undone i || (queue_down (s.queue i) || p.store_down (s.store i))
