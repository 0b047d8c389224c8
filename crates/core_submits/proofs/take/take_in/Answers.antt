use Rattle.std.proofs.Common.{◌≡◌, ◌∙◌, ◌+◌, ◌++◌, ◌∷◌, [], Bool, true, false, Result, Ok, Err, is_err, OnOk, arith, refl, sym, ap, subst, rules}
use Rattle.std.specs.List.{flat_map}
use Rattle.core_state.proofs.of_plain_laws.Options.{when_ok}
use Rattle.core_state.specs.record_spec.declared.queue.QueueRecord.TheVariants as queue
use Rattle.core_state.specs.fleet_keeper.declared.kept.Kept.{Kept}
use Rattle.core_state.specs.fleet_keeper.declared.kept.Kept.TheVariants as kept
use Rattle.core_state.specs.core_spec.declared.entry.Entry.{Entry}
use Rattle.core_state.specs.core_spec.declared.event.Event.TheVariants.{Submit}
use Rattle.core_state.specs.core_spec.History.{History}
use Rattle.core_state.specs.core_machine.Steps.{at_receipt, new_entry}
use Rattle.core_state.specs.supersede_core.Waiting.{AreBelow, queued_entry}
use Rattle.core_state.proofs.of_supersede_core.TwoCalls.{add_is_undone}
use Rattle.core_state.specs.declared.state.CoreState.{CoreState}
use Rattle.core_state.specs.Puts.{HasPut}
use Rattle.core_state.proofs.Ports.{Ports}
use Rattle.fleet_rows.specs.declared.submitted.Submitted.{Submitted}
use Rattle.core_submits.specs.Submits.{Takes}
use Rattle.core_submits.proofs.Submits.{refused_takes}
use Rattle.core_submits.proofs.take.take_in.Goals as goal

pub returns-then-ne : goal.returns-then-ne
returns-then-ne g c =
    let p : Ports g.row.D.Denot g.row.K.Denot = record {
      tells = g.D.Disk.is_told;
      seen = g.D.Disk.seen;
      may_leave = g.D.Disk.may_leave;
      moment = g.D.Disk.moment;
      left_since = g.D.Disk.left_since;
      faults = g.D.Disk.fault_count;
      told = g.met.D.Disk.told;
      told_since = g.met.D.Disk.told_since;
      only_now = g.met.D.Disk.only_now;
      store_tells = g.K.Keeper.is_told;
      kept = g.K.Keeper.kept;
      images = g.K.Keeper.images;
      store_moment = g.K.Keeper.moment;
      images_since = g.K.Keeper.images_since;
      store_up = g.K.Keeper.is_up;
      store_down = g.K.Keeper.down;
      store_size = g.K.Keeper.size;
      store_generation = g.K.Keeper.generation;
      store_opened = g.K.Keeper.opened;
      store_within = g.K.Keeper.is_within;
      store_faults = g.K.Keeper.fault_count;
      store_told = g.met.K.Keeper.told;
      store_told_since = g.met.K.Keeper.told_since;
      store_only_now = g.met.K.Keeper.only_now;
      store_stands = g.met.K.Keeper.stands;
    } in
    let new : CoreState g.row.D.Denot g.row.K.Denot = record {
      alloc = c.args.core.now.alloc;
      queue = c.put_record-answer.new.queue;
      store = c.args.core.now.store;
      tables = c.args.core.now.tables;
      pending = c.take_out.new.pending;
      discards = c.args.core.now.discards;
      events = c.reserve.new.self;
      last = c.args.core.now.last;
      undone = c.args.core.now.undone;
      found = c.args.core.now.found;
      opened_a = c.args.core.now.opened_a;
      opened_b = c.args.core.now.opened_b;
    } in
    let no_ok : c.put_record-answer.result ≡ kept.Ok → ⊥ = λ is. absurd (search (rules, is)) in
    let added = when_ok c.add.result c.is_err-2.result c.is_err-2.ensures.value c.if-is_err-2.false c.add.ensures.ok in
    record {
      takes = λ c' fits prepared.
          let r = c.args.prepared.receipt in
          let next = c.requires.next in
          let frame_is = (let text = c.as_slice.ensures ∙ prepared.frame in text) in
          let below : AreBelow r c.args.core.now.pending = subst (λ n. AreBelow n c.args.core.now.pending) (sym next) c.requires.sound.pending.below in
          subst (λ (a : Submitted). Takes p.tells p.seen p.may_leave p.moment p.left_since p.faults a c' c.args.core.now new) (sym c.refused.ensures)
          (refused_takes p c' c.args.core.now new c.put_record-answer.result no_ok (record {
            put = c.put_record-answer.ensures.put (queue.Submit (c.args.core.now.last + 1) c') ((c.requires.last, fits), frame_is);
            store = refl;
            memory = record {
              others = record { tables = refl; dead = refl; undone = refl; found = refl; opened_a = refl; opened_b = refl };
              pending = c.take_out.ensures ∙ ap (flat_map (at_receipt r (λ e. []))) added ∙ add_is_undone c.args.core.now.pending (queued_entry r c.args.prepared.held c.args.prepared.group 0) below;
              events = c.reserve.ensures.list;
              room = c.reserve.ensures.kept;
              last = refl;
            };
          }));
    }

pub returns : goal.returns
returns g c =
    let p : Ports g.row.D.Denot g.row.K.Denot = record {
      tells = g.D.Disk.is_told;
      seen = g.D.Disk.seen;
      may_leave = g.D.Disk.may_leave;
      moment = g.D.Disk.moment;
      left_since = g.D.Disk.left_since;
      faults = g.D.Disk.fault_count;
      told = g.met.D.Disk.told;
      told_since = g.met.D.Disk.told_since;
      only_now = g.met.D.Disk.only_now;
      store_tells = g.K.Keeper.is_told;
      kept = g.K.Keeper.kept;
      images = g.K.Keeper.images;
      store_moment = g.K.Keeper.moment;
      images_since = g.K.Keeper.images_since;
      store_up = g.K.Keeper.is_up;
      store_down = g.K.Keeper.down;
      store_size = g.K.Keeper.size;
      store_generation = g.K.Keeper.generation;
      store_opened = g.K.Keeper.opened;
      store_within = g.K.Keeper.is_within;
      store_faults = g.K.Keeper.fault_count;
      store_told = g.met.K.Keeper.told;
      store_told_since = g.met.K.Keeper.told_since;
      store_only_now = g.met.K.Keeper.only_now;
      store_stands = g.met.K.Keeper.stands;
    } in
    let put_ok : c.put_record-answer.result ≡ kept.Ok = search rules in
    let added = when_ok c.add.result c.is_err-2.result c.is_err-2.ensures.value c.if-is_err-2.false c.add.ensures.ok in
    let room = when_ok c.reserve.result c.is_err.result c.is_err.ensures.value c.if-is_err.false c.reserve.ensures.room in
    record {
      takes = λ c' fits prepared.
          let r = c.args.prepared.receipt in
          let next = c.requires.next in
          let frame_is = (let text = c.as_slice.ensures ∙ prepared.frame in text) in
          let same_entry : queued_entry r c.args.prepared.held c.args.prepared.group 0 ≡ new_entry (c.args.core.now.last + 1) c' =
          (λ i. record { receipt = next i; command = prepared.held i; group = prepared.group i; attempts = 0; claimed = false }) in (
            next,
            record {
              put = subst (λ (a : Kept). HasPut p.tells p.seen p.may_leave p.moment p.left_since p.faults a c.args.core.now.queue c.put_record-answer.new.queue (queue.Submit (c.args.core.now.last + 1) c')) put_ok
                  (c.put_record-answer.ensures.put (queue.Submit (c.args.core.now.last + 1) c') ((c.requires.last, fits), frame_is));
              store = refl;
              others = record { tables = refl; dead = refl; undone = refl; found = refl; opened_a = refl; opened_b = refl };
              pending = added ∙ ap (λ (e : Entry). c.args.core.now.pending ++ e ∷ []) same_entry;
              events = c.note.ensures.list ∙ (λ i. Submit (next i) (prepared.noted i) ∷ c.reserve.new.self.list) ∙ ap (λ (h : History). Submit (c.args.core.now.last + 1) c' ∷ h) c.reserve.ensures.list;
              room = omega (arith, room, c.count-waiting.ensures.count, c.note.ensures.room);
              last = next;
            },
          );
    }
