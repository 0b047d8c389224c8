use Rattle.std.proofs.Common.{◌≡◌, ◌∙◌, ◌∷◌, Some, arith, refl, sym, ap, subst, rules}
use Rattle.core_state.proofs.of_plain_laws.Options.{when_ok}
use Rattle.core_state.specs.record_spec.declared.queue.QueueRecord.TheVariants as queue
use Rattle.core_state.specs.fleet_keeper.declared.kept.Kept.{Kept}
use Rattle.core_state.specs.fleet_keeper.declared.kept.Kept.TheVariants as kept
use Rattle.core_state.specs.core_spec.declared.event.Event.TheVariants.{Supersede}
use Rattle.core_state.specs.core_spec.History.{History}
use Rattle.core_state.specs.declared.state.CoreState.{CoreState}
use Rattle.core_state.specs.Puts.{HasPut}
use Rattle.core_state.proofs.Ports.{Ports}
use Rattle.core_claims.specs.declared.answers.Claimed.{Claimed}
use Rattle.core_claims.specs.Turns.{SupersedeDoes}
use Rattle.core_claims.proofs.Refusals.{refused_supersedes, queued_stands}
use Rattle.core_claims.proofs.turns.supersede.Goals as goal

pub take_out-requires : goal.take_out-requires
take_out-requires g c = queued_stands c.args.receipt c.args.core.now.pending c.requires.queued

pub returns-then-ne : goal.returns-then-ne
returns-then-ne g c =
    let p : Ports g.row.D.Denot g.row.K.Denot = record {
      tells = g.D.Disk.is_told;
      seen = g.D.Disk.seen;
      may_leave = g.D.Disk.may_leave;
      moment = g.D.Disk.moment;
      left_since = g.D.Disk.left_since;
      faults = g.D.Disk.fault_count;
      told = g.met.D.Disk.told;
      told_since = g.met.D.Disk.told_since;
      only_now = g.met.D.Disk.only_now;
      store_tells = g.K.Keeper.is_told;
      kept = g.K.Keeper.kept;
      images = g.K.Keeper.images;
      store_moment = g.K.Keeper.moment;
      images_since = g.K.Keeper.images_since;
      store_up = g.K.Keeper.is_up;
      store_down = g.K.Keeper.down;
      store_size = g.K.Keeper.size;
      store_generation = g.K.Keeper.generation;
      store_opened = g.K.Keeper.opened;
      store_within = g.K.Keeper.is_within;
      store_faults = g.K.Keeper.fault_count;
      store_told = g.met.K.Keeper.told;
      store_told_since = g.met.K.Keeper.told_since;
      store_only_now = g.met.K.Keeper.only_now;
      store_stands = g.met.K.Keeper.stands;
    } in
    let new : CoreState g.row.D.Denot g.row.K.Denot = record {
      alloc = c.args.core.now.alloc;
      queue = c.put_record-answer.new.queue;
      store = c.args.core.now.store;
      tables = c.args.core.now.tables;
      pending = c.args.core.now.pending;
      discards = c.args.core.now.discards;
      events = c.reserve.new.self;
      last = c.args.core.now.last;
      undone = c.args.core.now.undone;
      found = c.args.core.now.found;
      opened_a = c.args.core.now.opened_a;
      opened_b = c.args.core.now.opened_b;
    } in
    let no_ok : c.put_record-answer.result ≡ kept.Ok → ⊥ = λ is. absurd (search (rules, is)) in
    record {
      does =
          subst (λ (a : Claimed). SupersedeDoes p.tells p.seen p.may_leave p.moment p.left_since p.faults (Some a) c.args.receipt c.args.newer c.args.core.now new) (sym c.refused.ensures)
          (refused_supersedes p c.args.receipt c.args.newer c.args.core.now new c.put_record-answer.result no_ok (record {
            put = c.put_record-answer.ensures.put (queue.Superseded c.args.receipt c.args.newer) (search rules);
            store = refl;
            memory = record {
              others = record { tables = refl; dead = refl; undone = refl; found = refl; opened_a = refl; opened_b = refl };
              pending = refl;
              events = c.reserve.ensures.list;
              room = c.reserve.ensures.kept;
              last = refl;
            };
          }));
    }

pub returns : goal.returns
returns g c =
    let p : Ports g.row.D.Denot g.row.K.Denot = record {
      tells = g.D.Disk.is_told;
      seen = g.D.Disk.seen;
      may_leave = g.D.Disk.may_leave;
      moment = g.D.Disk.moment;
      left_since = g.D.Disk.left_since;
      faults = g.D.Disk.fault_count;
      told = g.met.D.Disk.told;
      told_since = g.met.D.Disk.told_since;
      only_now = g.met.D.Disk.only_now;
      store_tells = g.K.Keeper.is_told;
      kept = g.K.Keeper.kept;
      images = g.K.Keeper.images;
      store_moment = g.K.Keeper.moment;
      images_since = g.K.Keeper.images_since;
      store_up = g.K.Keeper.is_up;
      store_down = g.K.Keeper.down;
      store_size = g.K.Keeper.size;
      store_generation = g.K.Keeper.generation;
      store_opened = g.K.Keeper.opened;
      store_within = g.K.Keeper.is_within;
      store_faults = g.K.Keeper.fault_count;
      store_told = g.met.K.Keeper.told;
      store_told_since = g.met.K.Keeper.told_since;
      store_only_now = g.met.K.Keeper.only_now;
      store_stands = g.met.K.Keeper.stands;
    } in
    let put_ok : c.put_record-answer.result ≡ kept.Ok = search rules in
    let room = when_ok c.reserve.result c.is_err.result c.is_err.ensures.value c.if-is_err.false c.reserve.ensures.room in
    record {
      does = record {
        put = subst (λ (a : Kept). HasPut p.tells p.seen p.may_leave p.moment p.left_since p.faults a c.args.core.now.queue c.put_record-answer.new.queue (queue.Superseded c.args.receipt c.args.newer)) put_ok
            (c.put_record-answer.ensures.put (queue.Superseded c.args.receipt c.args.newer) (search rules));
        store = refl;
        others = record { tables = refl; dead = refl; undone = refl; found = refl; opened_a = refl; opened_b = refl };
        pending = c.take_out.ensures;
        events = c.note.ensures.list ∙ ap (λ (h : History). Supersede c.args.receipt c.args.newer ∷ h) c.reserve.ensures.list;
        room = omega (arith, room, c.count-waiting.ensures.count, c.note.ensures.room);
        last = refl;
      };
    }
